-- Taking an edit back: what was taken can go back into nodes that are those of the page after the edit, and they are then
-- those of the page before it.
use Rattle.std.proofs.Common.{◌≡◌, ℕ, ◌<◌, length, Option, is_some, refl, sym, ap, ◌∙◌, arith}
use Rattle.box_tree.specs.declared.node.Node.{Node}
use Rattle.box_tree.specs.declared.plan.Frame.{Frame}
use Rattle.box_tree.specs.declared.plan.Taken.{Taken}
use Rattle.box_tree.specs.declared.plan.Taken.TheVariants.{Added, Removed, Moved, Changed, Untouched}
use Rattle.box_tree.specs.Contents.{Contents, node_of, IsValid}
use Rattle.box_tree.specs.Counted.{IsCounted}
use Rattle.box_tree.specs.Forest.{node_count}
use Rattle.box_tree.specs.Kept.{node_with}
use Rattle.box_tree.specs.Nodes.{NodesState, HasSameRoom}
use Rattle.box_tree.specs.Taken.{back_at, count_back, CanGoBack, IsFrame, IsTaken}
use Rattle.box_tree.proofs.KeptPages.{Means, means}
use Rattle.box_tree.proofs.PlanLemmas.{state_of}

-- what can go back depends on what is looked up and on the numbers alone
can_go_back_so : (taken : Taken) (look look' : ℕ → Option Node) (count count' room room' : ℕ) (HasPlace HasPlace' : ℕ → Type 0) → ((k : ℕ) → look' k ≡ look k) → count' ≡ count → room' ≡ room → ((k : ℕ) → HasPlace k → HasPlace' k) → CanGoBack taken look count room HasPlace → CanGoBack taken look' count' room' HasPlace'
can_go_back_so (Added id parent place) look look' count count' room room' HasPlace HasPlace' same counts rooms places can = record {
  there = ap is_some (same id) ∙ can.there;
  within = λ other n found. can.within other n (sym (same parent) ∙ found);
}
can_go_back_so (Removed parent siblings nodes) look look' count count' room room' HasPlace HasPlace' same counts rooms places can = record {
  apart = λ k is. same k ∙ can.apart k is;
  distinct = can.distinct;
  fits = omega (arith, can.fits, counts, rooms);
  placed = λ k is. places k (can.placed k is);
}
can_go_back_so (Moved place siblings children ids) look look' count count' room room' HasPlace HasPlace' same counts rooms places can = record {
  once = can.once;
  each = λ k among n found. can.each k among n (sym (same k) ∙ found);
}
can_go_back_so (Changed id change) look look' count count' room room' HasPlace HasPlace' same counts rooms places can = tt
can_go_back_so Untouched look look' count count' room room' HasPlace HasPlace' same counts rooms places can = tt

-- an edit that led from a valid page, with this frame, to the one that the nodes are
module _ (nodes : NodesState) (frame : Frame) (counted : IsCounted nodes frame.root frame.sums (state_of nodes frame).contents) (taken : Taken) (frame' : Frame) (before : Contents) (valid : IsValid before) (frame_is : IsFrame frame' before)
    (taken_is : IsTaken taken before (state_of nodes frame).contents nodes.room) where
  abbrev after : Contents
  after = (state_of nodes frame).contents

  pub can_go_back : CanGoBack taken (node_with nodes.nodes) (length nodes.nodes) nodes.room (λ k. k < nodes.ids)
  can_go_back = can_go_back_so taken (node_of after) (node_with nodes.nodes) _ _ nodes.room nodes.room _ _ counted.kept.looked_up counted.count refl (λ k given. counted.placed k given.0 given.1) taken_is.can_go_back

  pub reverted : (new : NodesState) → ((k : ℕ) → node_with new.nodes k ≡ back_at taken k (node_with nodes.nodes k)) → length new.nodes ≡ count_back taken (length nodes.nodes) → HasSameRoom nodes new → Means new frame' before
  reverted new looked_up count same_room =
      let count_is : length new.nodes ≡ node_count before.tree = count ∙ ap (count_back taken) counted.count ∙ sym taken_is.count in
      means new frame' before
      (record {
        kept = record {
          valid = valid;
          looked_up = λ k. looked_up k ∙ ap (back_at taken k) (counted.kept.looked_up k) ∙ sym (taken_is.looked_up k);
          root = frame_is.root;
        };
        count = count_is;
        sums_are = frame_is.sums;
        fits = omega (arith, count_is, taken_is.fits, same_room.room);
        placed = λ k positive below. omega (arith, counted.placed k positive (omega (arith, below, taken_is.next)), same_room.ids);
      })
      frame_is.viewport frame_is.next
