-- The items of the page after the edit have the numbers that the plan leaves.
use Rattle.std.proofs.Common.{◌≡◌, sym, ap, ◌∙◌, subst}
use Rattle.box_tree.specs.Contents.{node_of}
use Rattle.box_tree.specs.Numbers.{KeepsNumbers, GivesFreshNumbers}
use Rattle.box_tree.specs.PageState.{PageState, tree_part}
use Rattle.box_tree.specs.Planned.{PreparedState, IsPlanned}
use Rattle.box_tree.specs.Touched.{touched, CanRenumber}
use Rattle.box_tree.proofs.FollowLemmas.{keeps_numbers, gives_fresh}
use Rattle.box_tree.proofs.NumberedPages.{AreNumberedAfter, after-plan, placed_touch}
use Rattle.box_tree.proofs.page.Page.commit.Goals as goal

numbered : (c : goal.After-drop-prepared-inside) → AreNumberedAfter c.carry_out-taken.new.self.contents c.self.inside.items.items c.renumber-earlier.new.items.items
numbered c =
    let inside : PageState = record { contents = c.self.inside.tree.contents; room = c.self.inside.tree.room; ids = c.self.inside.tree.ids; items = c.self.inside.items.items; item_room = c.self.inside.items.room } in
    let page_is : c.prepared.inside.page.value ≡ inside = ap (λ (p : PreparedState). p.page) c.prepared.view_is ∙ c.requires ∙ sym c.self.view_is in
    let planned : IsPlanned c.prepared.inside.plan c.prepared.inside.edit.value c.self.inside.tree = subst (λ (page : PageState). IsPlanned c.prepared.inside.plan c.prepared.inside.edit.value (tree_part page)) page_is c.prepared.invariant.0 in
    let can : CanRenumber c.prepared.inside.plan inside.contents inside.items inside.item_room c.prepared.inside.spare = subst (λ (page : PageState). CanRenumber c.prepared.inside.plan page.contents page.items page.item_room c.prepared.inside.spare) page_is c.prepared.invariant.1 in
    after-plan c.prepared.inside.plan c.prepared.inside.edit.value c.self.inside.tree c.carry_out-taken.new.self.contents planned c.validity.ensures c.validity-2.ensures c.self.inside.items.items c.renumber-earlier.new.items.items c.self.invariant c.carry_out-taken.ensures.seen
    (placed_touch c.self.inside.items.items c.self.inside.items.room c.prepared.inside.spare (touched c.prepared.inside.plan (node_of c.self.inside.tree.contents)) can.touch) c.renumber-earlier.ensures.renumbered

pub invariant_of-self : goal.invariant_of-self
invariant_of-self c = (numbered c).numbered

pub returns-clause-numbers_kept : goal.returns-clause-numbers_kept
returns-clause-numbers_kept c =
    subst (λ (page : PageState). KeepsNumbers page.items c.renumber-earlier.new.items.items c.carry_out-taken.new.self.contents) c.self.view_is
    (keeps_numbers c.self.inside.items.items c.renumber-earlier.new.items.items (numbered c).follows c.carry_out-taken.new.self.contents (numbered c).numbered)

pub returns-clause-numbers_fresh : goal.returns-clause-numbers_fresh
returns-clause-numbers_fresh c =
    subst (λ (page : PageState). GivesFreshNumbers page.items c.renumber-earlier.new.items.items) c.self.view_is
    (gives_fresh c.self.inside.items.items c.renumber-earlier.new.items.items (numbered c).follows)
