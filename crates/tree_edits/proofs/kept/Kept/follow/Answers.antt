-- By the page before the edit.
use Rattle.std.proofs.Common.{sym, ap, ◌∙◌}
use Rattle.spaces.specs.Bound.{is_bounded}
use Rattle.spaces.proofs.WrittenLemmas.{if_err-from_and}
use Rattle.tree_edits.proofs.EditLemmas.{table-outside, distinct, within, apart, lists-may, items-may, faithful-last}
use Rattle.tree_edits.proofs.kept.Kept.follow.Goals as goal

pub make_ready-requires-clause-table : goal.make_ready-requires-clause-table
make_ready-requires-clause-table g c =
    let r = c.requires in
    table-outside r.page c.args.page.now.contents r.edit r.items c.args.page.now.items c.args.reach.now r.committed c.args.self.now r.faithful

pub make_ready-requires-clause-distinct : goal.make_ready-requires-clause-distinct
make_ready-requires-clause-distinct g c =
    let r = c.requires in
    distinct r.page c.args.page.now.contents r.edit r.items c.args.page.now.items c.args.reach.now r.committed c.args.self.now r.faithful

pub returns-in_err-ready-clause-beyond : goal.returns-in_err-ready-clause-beyond
returns-in_err-ready-clause-beyond g c =
    let r = c.requires in
    if_err-from_and c.from_residual.result _ _ c.from_residual.ensures.1
    (λ why why_is bound.
    ap is_bounded r.committed.after_is ∙ sym (within r.page c.args.page.now.contents r.edit r.items c.args.page.now.items c.args.reach.now r.committed c.args.self.now r.faithful)
    ∙ c.in_err-ready.ensures.beyond (sym why_is ∙ bound))

pub put_in-requires-clause-apart : goal.put_in-requires-clause-apart
put_in-requires-clause-apart g c =
    let r = c.requires in
    apart r.page c.args.page.now.contents r.edit r.items c.args.page.now.items c.args.reach.now r.committed c.args.self.now r.faithful c.make_ready.new.self c.in_ok-ready.ready c.make_ready.ensures.same c.in_ok-ready.ensures.made

pub put_in-requires-clause-lists : goal.put_in-requires-clause-lists
put_in-requires-clause-lists g c =
    let r = c.requires in
    lists-may r.page c.args.page.now.contents r.edit r.items c.args.page.now.items c.args.reach.now r.committed c.args.self.now r.faithful c.make_ready.new.self c.in_ok-ready.ready c.make_ready.ensures.same c.in_ok-ready.ensures.made

pub put_in-requires-clause-items : goal.put_in-requires-clause-items
put_in-requires-clause-items g c =
    let r = c.requires in
    items-may r.page c.args.page.now.contents r.edit r.items c.args.page.now.items c.args.reach.now r.committed c.args.self.now r.faithful c.make_ready.new.self c.in_ok-ready.ready c.make_ready.ensures.same c.in_ok-ready.ensures.made

pub returns-clause-faithful : goal.returns-clause-faithful
returns-clause-faithful g c =
    let r = c.requires in
    faithful-last r.page c.args.page.now.contents r.edit r.items c.args.page.now.items c.args.reach.now r.committed c.args.self.now r.faithful c.make_ready.new.self c.in_ok-ready.ready c.make_ready.ensures.same c.in_ok-ready.ensures.made c.put_in.new.self c.put_in.ensures
