-- An edit of a node leaves the trees without that node as they are, and so the space and the values of each node that stands
-- outside of it, and its entry in a table.
use Rattle.std.proofs.Common.{◌≡◌, ℕ, ◌<◌, ◌==◌, List, [], Option, Some, None, IfSome, IsSome, IsSomeAnd, is_some, Bool, true, false, if◌then◌else◌, refl, sym, ap, ◌∙◌, subst, inl, inr, arith}
use Rattle.std.specs.Prelude.{nat_lt}
use Rattle.std.specs.List.{AllByRecursion}
use Rattle.std.specs.Option.{option_map, option_and_then}
use Rattle.std.proofs.lemmas.Bool.{cases_eq, false≢true}
use Rattle.std.proofs.lemmas.Bool.Decides.{nat_tests}
use Rattle.computed_style.specs.declared.inherited.Inherited.{Inherited}
use Rattle.box_tree.specs.declared.edit.Edit.{Edit}
use Rattle.box_tree.specs.declared.edit.Edit.TheVariants.{Add, Remove, Move, Place, Restyle, Reshape, Scroll, Resize, ScrollView}
use Rattle.box_tree.specs.declared.viewport.Viewport.{Viewport}
use Rattle.box_tree.specs.Forest.{Label, Forest, ids_in, occurrences, Placed}
use Rattle.box_tree.specs.Contents.{Contents, placed_of, tree_of, has_id}
use Rattle.box_tree.specs.Containing.{Standing, standing_at}
use Rattle.box_tree.specs.Edited.{taken_out, edited}
use Rattle.box_tree.specs.Frame.{edited_node, IsFaultless, StandsApart, IsOutside}
use Rattle.box_tree.specs.Planned.{is_among}
use Rattle.box_tree.proofs.ForestLemmas.{placed_in-absent}
use Rattle.box_tree.proofs.RestLemmas.{KeepsRest, keeps-rest, standing_of, standing-rest, each-ancestor, in_rest, outside-before}
use Rattle.box_tree.proofs.SubtreeLemmas.{is_among-ids_in}
use Rattle.box_tree.proofs.TakenLemmas.{place_without, placed_in-taken_out}
use Rattle.spaces.specs.declared.table.entry.Entry.{Entry}
use Rattle.spaces.specs.Spaces.{is_laid_out, space_of, space}
use Rattle.spaces.specs.Table.{entry_at, entry_placed, entry_of, IsTableOf, IsTableOutside}
use Rattle.spaces.specs.Values.{values_below, values}

module _ (page after : Contents) (changed : ℕ) (keeps : KeepsRest page after changed) where
  abbrev rest : Forest
  rest = taken_out changed page.tree

  space-rest : (k : ℕ) → 0 < occurrences rest k → space after k ≡ space page k
  space-rest k some =
      by_standing after
      ∙ ap (λ (v : Viewport). option_and_then (space_of v) (standing_of after k)) keeps.viewport
      ∙ ap (option_and_then (space_of page.viewport)) (standing-rest page after changed keeps k some)
      ∙ sym (by_standing page)
    where
      by_standing : (p : Contents) → space p k ≡ option_and_then (space_of p.viewport) (standing_of p k)
      by_standing p = by_place (placed_of p k)
        where
          by_place : (o : Option Placed) → option_and_then (λ q. space_of p.viewport (standing_at q)) o ≡ option_and_then (space_of p.viewport) (option_map standing_at o)
          by_place None = refl
          by_place (Some q) = refl

  values-rest : (k : ℕ) → 0 < occurrences rest k → values after k ≡ values page k
  values-rest k some = by_standing (placed_of after k) ∙ ap (option_map values_of) (standing-rest page after changed keeps k some) ∙ sym (by_standing (placed_of page k))
    where
      values_of : Standing → Inherited
      values_of n = values_below n.above n.label

      by_standing : (o : Option Placed) → option_map (λ p. values_below p.above p.label) o ≡ option_map values_of (option_map standing_at o)
      by_standing None = refl
      by_standing (Some p) = refl

  -- the entry of a node of the rest
  entry-rest : (k : ℕ) → 0 < occurrences rest k → entry_of after k ≡ entry_of page k
  entry-rest k some =
      by_standing after
      ∙ ap (λ (v : Viewport). option_and_then (entry_in v) (standing_of after k)) keeps.viewport
      ∙ ap (option_and_then (entry_in page.viewport)) (standing-rest page after changed keeps k some)
      ∙ sym (by_standing page)
    where
      entry_in : Viewport → Standing → Option Entry
      entry_in v n = if is_laid_out n.label.kind then Some (entry_at v n) else None

      by_standing : (p : Contents) → entry_of p k ≡ option_and_then (entry_in p.viewport) (standing_of p k)
      by_standing p = by_place (placed_of p k)
        where
          by_place : (o : Option Placed) → option_and_then (entry_placed p.viewport) o ≡ option_and_then (entry_in p.viewport) (option_map standing_at o)
          by_place None = refl
          by_place (Some q) = refl

-- a node outside of the edited one stands in the trees without that one, whose nodes keep their ancestors, spaces and values;
-- so do all its ancestors
pub record IsInRest (page after : Contents) (id : ℕ) : Type 0 where
  pub rest : Forest
  pub stands : 0 < occurrences rest id
  pub as_before : (k : ℕ) → 0 < occurrences rest k → standing_of after k ≡ standing_of page k
  pub spaces : (k : ℕ) → 0 < occurrences rest k → space after k ≡ space page k
  pub values_stay : (k : ℕ) → 0 < occurrences rest k → values after k ≡ values page k
  pub above : (p : Placed) → placed_of page id ≡ Some p → AllByRecursion (λ (n : Label). space after n.id ≡ space page n.id) p.above

module _ (page : Contents) (edit : Edit) (id : ℕ) (faultless : IsFaultless page edit) where
  pub outside-in_rest : IsOutside page edit id → IsInRest page (edited page edit) id
  outside-in_rest outside = by_node (edited_node page edit) (keeps-rest page edit faultless) outside
    where
      by_node : (o : Option ℕ) → IfSome o (KeepsRest page (edited page edit)) → IsSomeAnd o (λ changed. StandsApart page changed id × StandsApart (edited page edit) changed id) → IsInRest page (edited page edit) id
      by_node None keeps stands = absurd stands
      by_node (Some changed) keeps stands =
          let after = edited page edit in
          let stays = in_rest page after changed keeps id stands.0 in
          record {
            rest = taken_out changed page.tree;
            stands = stays;
            as_before = standing-rest page after changed keeps;
            spaces = space-rest page after changed keeps;
            values_stay = values-rest page after changed keeps;
            above = λ p found. each-ancestor (λ k. space after k ≡ space page k) (taken_out changed page.tree) [] id (place_without changed p) (space-rest page after changed keeps) tt
                (placed_in-taken_out page.tree [] changed id (keeps.distinct id) stays ∙ ap (option_map (place_without changed)) found);
          }

-- the frame law on spaces and values
pub space-outside : (page : Contents) (edit : Edit) (id : ℕ) → IsFaultless page edit → IsOutside page edit id → space (edited page edit) id ≡ space page id
space-outside page edit id faultless outside = let is = outside-in_rest page edit id faultless outside in is.spaces id is.stands

pub values-outside : (page : Contents) (edit : Edit) (id : ℕ) → IsFaultless page edit → IsOutside page edit id → values (edited page edit) id ≡ values page id
values-outside page edit id faultless outside = let is = outside-in_rest page edit id faultless outside in is.values_stay id is.stands

-- an edit of the viewport leaves all values
pub values-viewed : (page : Contents) (edit : Edit) (id : ℕ) → edited_node page edit ≡ None → values (edited page edit) id ≡ values page id
values-viewed page (Add parent at kind boxes style) id none = absurd cc
values-viewed page (Remove node) id none = absurd cc
values-viewed page (Move node parent at) id none = absurd cc
values-viewed page (Place node anchor boxes max) id none = absurd cc
values-viewed page (Restyle node style) id none = absurd cc
values-viewed page (Reshape node form) id none = absurd cc
values-viewed page (Scroll node x y) id none = absurd cc
values-viewed page (Resize w h max) id none = refl
values-viewed page (ScrollView x y) id none = refl

module _ (page : Contents) (edit : Edit) (faultless : IsFaultless page edit) where
  -- and keeps its entry
  pub entry-outside : (id : ℕ) → IsOutside page edit id → entry_of (edited page edit) id ≡ entry_of page id
  entry-outside id outside = by_node (edited_node page edit) (keeps-rest page edit faultless) outside
    where
      by_node : (o : Option ℕ) → IfSome o (KeepsRest page (edited page edit)) → IsSomeAnd o (λ changed. StandsApart page changed id × StandsApart (edited page edit) changed id) → entry_of (edited page edit) id ≡ entry_of page id
      by_node None keeps stands = absurd stands
      by_node (Some changed) keeps stands = entry-rest page (edited page edit) changed keeps id (in_rest page (edited page edit) changed keeps id stands.0)

  -- so the table of the page before has the entries of the nodes outside of the edited one
  pub table-outside : (table : List (Option Entry)) (changed : ℕ) → edited_node page edit ≡ Some changed → IsTableOf table page → IsTableOutside table (edited page edit) changed
  table-outside table changed changed_is known x outside some = elim (cases_eq changed 0) [
    | inl whole ↦
        let same : (changed == 0) ≡ true = grind (arith, nat_tests) in
        let all : is_among (ids_in after.tree) x ≡ false = sym (ap (λ (b : Bool). is_among (ids_in (if b then after.tree else tree_of after changed)) x) same) ∙ outside in
        let none : nat_lt 0 (occurrences after.tree x) ≡ false = sym (is_among-ids_in after.tree x) ∙ all in
        absurd (false≢true (ap is_some (sym (placed_in-absent after.tree [] x (grind (arith, nat_tests)))) ∙ there))
    | inr named ↦
        let other : (changed == 0) ≡ false = grind (arith, nat_tests) in
        let apart : is_among (ids_in (tree_of after changed)) x ≡ false = sym (ap (λ (b : Bool). is_among (ids_in (if b then after.tree else tree_of after changed)) x) other) ∙ outside in
        let stands : StandsApart after changed x = record { there = there; apart = apart } in
        known x ∙ sym (entry-outside x (outside-before page edit faultless x (subst (λ (o : Option ℕ). IsSomeAnd o (λ node. StandsApart after node x)) (sym changed_is) stands)))
  ]
    where
      after : Contents
      after = edited page edit

      there : has_id after x ≡ true
      there = by_place (placed_of after x) some
        where
          by_place : (o : Option Placed) → IsSome (option_and_then (entry_placed after.viewport) o) → is_some o ≡ true
          by_place None some' = absurd cc
          by_place (Some p) some' = refl

-- no node stands outside of the whole page
pub table-whole : (table : List (Option Entry)) (page : Contents) → IsTableOutside table page 0
table-whole table page x outside some =
    let none : nat_lt 0 (occurrences page.tree x) ≡ false = sym (is_among-ids_in page.tree x) ∙ outside in
    absurd (nowhere (placed_of page x) (placed_in-absent page.tree [] x (grind (arith, nat_tests))) some)
  where
    nowhere : (o : Option Placed) → o ≡ None → IsSome (option_and_then (entry_placed page.viewport) o) → ⊥
    nowhere None is some' = cc
    nowhere (Some p) is some' = cc
