-- What is kept follows the edit that the page has taken, or stays while the page is taken back.
use Rattle.std.proofs.Common.{◌≡◌, ◌≢◌, Some, sym, ap, subst, ◌∙◌}
use Rattle.box_tree.specs.declared.edit.EditFault.TheVariants.{OutOfMemory as MemoryFault}
use Rattle.box_tree.specs.Contents.{Contents}
use Rattle.box_tree.specs.Edited.{edited}
use Rattle.box_tree.specs.Frame.{IsFaultless}
use Rattle.box_tree.specs.Numbers.{ItemsState, HasSameItems, KeepsNumbers, GivesFreshNumbers}
use Rattle.box_tree.specs.PageState.{PageState}
use Rattle.spaces.specs.Bound.{is_bounded}
use Rattle.tree_edits.specs.Edits.{first_fault}
use Rattle.tree_edits.specs.EngineState.{EngineState}
use Rattle.tree_edits.specs.Faithful.{IsFaithful}
use Rattle.tree_edits.proofs.NumberLemmas.{kept-after, fresh-after, same-both}
use Rattle.tree_edits.proofs.RenewalLemmas.{faithful-kept, keeps-all, refused}
use Rattle.tree_edits.proofs.engine.Engine.edit.Goals as goal

pub invariant_of-self : goal.invariant_of-self
invariant_of-self g c =
    faithful-kept c.self.inside.page.contents c.check.new.self.contents c.self.inside.page.items c.check.new.self.items c.self.inside.kept c.self.inside.kept
    c.check.ensures.contents c.check.ensures.items (keeps-all c.self.inside.kept) c.self.invariant

pub invariant_of-self-in_default : goal.invariant_of-self-in_default
invariant_of-self-in_default g c =
    faithful-kept c.self.inside.page.contents c.check.new.self.contents c.self.inside.page.items c.check.new.self.items c.self.inside.kept c.self.inside.kept
    c.check.ensures.contents c.check.ensures.items (keeps-all c.self.inside.kept) c.self.invariant

pub follow-requires : goal.follow-requires
follow-requires g c =
    let tested = c.check.new.self.contents in
    let edit = c.args.edit.now in
    let faultless : IsFaultless c.self.inside.page.contents edit = record { valid = c.validity.ensures; none = c.in_ok-prepared.ensures.faultless } in
    record {
      page = tested;
      edit = edit;
      items = c.check.new.self.items;
      committed = record {
        faultless = subst (λ (p : Contents). IsFaultless p edit) (sym c.check.ensures.contents) faultless;
        after_is = c.commit-undo.ensures.contents ∙ ap (edited tested) c.in_ok-prepared.ensures.prepared.0;
        valid = c.validity-2.ensures;
        was = c.numbering.ensures;
        now = c.numbering-2.ensures;
        keeps = c.commit-undo.ensures.numbers_kept;
        gives = c.commit-undo.ensures.numbers_fresh;
        subtree_is = c.in-Ok.ensures.subtree;
        removed_are = c.in-Ok.ensures.removed;
        real = c.in-Ok.ensures.contexts;
        once = c.in-Ok.ensures.once;
        all = c.in-Ok.ensures.all;
        numbers_are = c.in-Ok.ensures.numbers;
        bare_is = c.in-Ok.ensures.bare;
        resizes_is = c.in-Ok.ensures.resizes;
      };
      faithful =
          faithful-kept c.self.inside.page.contents tested c.self.inside.page.items c.check.new.self.items c.self.inside.kept c.self.inside.kept
          c.check.ensures.contents c.check.ensures.items (keeps-all c.self.inside.kept) c.self.invariant;
    }

pub invariant_of-self-in-Ok-follow : goal.invariant_of-self-in-Ok-follow
invariant_of-self-in-Ok-follow g c = subst (λ (p : PageState). IsFaithful p.contents p.items c.follow.new.self) (sym c.settle.ensures.page) c.in-Ok-follow.ensures.faithful

pub returns-in-Ok-follow-clause-numbers_kept : goal.returns-in-Ok-follow-clause-numbers_kept
returns-in-Ok-follow-clause-numbers_kept g c =
    subst (λ (p : PageState). KeepsNumbers c.args.self.now.items p.items p.contents) (sym c.settle.ensures.page)
    (subst (λ (e : EngineState). KeepsNumbers e.items c.commit-undo.new.self.items c.commit-undo.new.self.contents) c.self.view_is
    (kept-after c.self.inside.page.items c.check.new.self.items c.commit-undo.new.self.items c.check.ensures.items c.commit-undo.new.self.contents c.commit-undo.ensures.numbers_kept))

pub returns-in-Ok-follow-clause-numbers_fresh : goal.returns-in-Ok-follow-clause-numbers_fresh
returns-in-Ok-follow-clause-numbers_fresh g c =
    subst (λ (p : PageState). GivesFreshNumbers c.args.self.now.items p.items) (sym c.settle.ensures.page)
    (subst (λ (e : EngineState). GivesFreshNumbers e.items c.commit-undo.new.self.items) c.self.view_is
    (fresh-after c.self.inside.page.items c.check.new.self.items c.commit-undo.new.self.items c.check.ensures.items c.commit-undo.ensures.numbers_fresh))

pub invariant_of-self-in-Err : goal.invariant_of-self-in-Err
invariant_of-self-in-Err g c =
    let same = same-both c.self.inside.page.items c.check.new.self.items c.revert.new.self.items c.check.ensures.items
    (subst (λ (items : ItemsState). HasSameItems items c.revert.new.self.items) c.commit-undo.ensures.items_before c.revert.ensures.items) in
    faithful-kept c.self.inside.page.contents c.revert.new.self.contents c.self.inside.page.items c.revert.new.self.items c.self.inside.kept c.follow.new.self
    (c.revert.ensures.contents ∙ c.commit-undo.ensures.before ∙ c.check.ensures.contents) same c.in-Err.ensures.same c.self.invariant

pub returns-clause-same_items : goal.returns-clause-same_items
returns-clause-same_items g c =
    subst (λ (e : EngineState). HasSameItems e.items c.revert.new.self.items) c.self.view_is
    (same-both c.self.inside.page.items c.check.new.self.items c.revert.new.self.items c.check.ensures.items
    (subst (λ (items : ItemsState). HasSameItems items c.revert.new.self.items) c.commit-undo.ensures.items_before c.revert.ensures.items))

pub returns-clause-first_fault : goal.returns-clause-first_fault
returns-clause-first_fault g c =
    let before = c.self.inside.page.contents in
    let edit = c.args.edit.now in
    let after_is : c.commit-undo.new.self.contents ≡ edited before edit = c.commit-undo.ensures.contents ∙ ap (edited c.check.new.self.contents) c.in_ok-prepared.ensures.prepared.0 ∙ ap (λ (p : Contents). edited p edit) c.check.ensures.contents in
    subst (λ (e : EngineState). c.fault_of.result ≢ MemoryFault → first_fault e.contents edit ≡ Some c.fault_of.result) c.self.view_is
    (refused before edit c.in-Err.why c.fault_of.result c.fault_of.ensures c.in_ok-prepared.ensures.faultless (λ bound. sym (ap is_bounded after_is) ∙ c.in-Err.ensures.beyond bound))
