-- The ancestors of the node stand outside of its tree, and the walk writes the entries of its nodes.
use Rattle.std.proofs.Common.{ℕ, List, None, sym, ap, ◌∙◌, subst}
use Rattle.std.specs.Prelude.{if◌then◌else◌}
use Rattle.box_tree.specs.Forest.{Label, Forest, ids_in}
use Rattle.box_tree.specs.Planned.{is_among}
use Rattle.spaces.specs.declared.table.entry.Entry.{Entry}
use Rattle.spaces.specs.Around.{written_from, IsAround}
use Rattle.spaces.specs.Table.{entry_of, new_entry}
use Rattle.spaces.proofs.OutsideLemmas.{above-parent, entered-above, written-tree}
use Rattle.spaces.proofs.table.SpaceTable.renewed.Goals as goal

pub around-around-requires-clause-entered : goal.around-around-requires-clause-entered
around-around-requires-clause-entered g c =
    entered-above c.args.page.now.contents c.requires.valid c.in-Some.top c.node.result.now c.node.ensures.node c.args.self.now
    (λ x out some. c.requires.outside x (ap (λ (f : Forest). is_among (ids_in f) x) c.in-Some.ensures.subtree ∙ out) some)

pub renew_from-requires-clause-around : goal.renew_from-requires-clause-around
renew_from-requires-clause-around g c =
    subst (λ (above : List Label). IsAround c.args.page.now.contents.viewport above c.around-around.result) (above-parent c.args.page.now.contents c.requires.valid c.in-Some.top c.node.result.now c.node.ensures.node) c.around-around.ensures

pub returns-clause-renewed : goal.returns-clause-renewed
returns-clause-renewed g c = λ x.
    c.in_ok-renew_from.ensures.entries x
    ∙ ap (λ (change : List (ℕ × Entry)). written_from c.args.page.now.contents c.in-Some.top x (new_entry change x)) c.new-change.ensures
    ∙ written-tree c.args.page.now.contents c.requires.valid c.in-Some.top c.node.result.now c.node.ensures.node x
    ∙ sym (ap (λ (f : Forest). if is_among (ids_in f) x then entry_of c.args.page.now.contents x else None) c.in-Some.ensures.subtree)
