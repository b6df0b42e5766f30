-- What the ancestors of a node hand down: where a node is placed, by what holds it, and what it hands on.
use Rattle.std.proofs.Common.{◌≡◌, ℕ, List, [], ◌∷◌, Option, Some, None, IsSome, is_some, Bool, true, false, if◌then◌else◌, refl, sym, ap, ◌∙◌, subst}
use Rattle.std.specs.Prelude.{◌&&◌}
use Rattle.std.specs.List.{list_all}
use Rattle.std.specs.Option.{option_map, option_map_or, option_and_then}
use Rattle.affine.specs.declared.map.Parts.{Parts}
use Rattle.computed_style.specs.declared.inherited.Inherited.{Inherited}
use Rattle.computed_style.specs.Inheritance.{computed}
use Rattle.box_tree.specs.declared.containing.Holder.{Holder}
use Rattle.box_tree.specs.declared.node.Node.{Node}
use Rattle.box_tree.specs.declared.viewport.Viewport.{Viewport}
use Rattle.box_tree.specs.Forest.{Label, Placed}
use Rattle.box_tree.specs.Contents.{Contents, node_of, placed_of, ancestors_of, IsValid}
use Rattle.box_tree.specs.Containing.{Standing, parent_of, sought, may_hold, outermost, holders_among, containing_block_chain, standing_at}
use Rattle.box_tree.specs.Edited.{ancestors_below}
use Rattle.box_tree.specs.Kept.{label_of}
use Rattle.box_tree.specs.Suits.{is_text}
use Rattle.box_tree.proofs.PlacedLemmas.{seen_at}
use Rattle.box_tree.proofs.ContainingLemmas.{standing, label-seen, parent-seen, ancestors-seen}
use Rattle.spaces.specs.declared.table.around.Around.{Around}
use Rattle.box_tree.specs.declared.containing.Wanted.{Wanted}
use Rattle.box_tree.specs.declared.containing.Wanted.TheVariants.{Container, Positioned, Transformed, Parent}
use Rattle.spaces.specs.declared.table.entry.Entry.{Entry}
use Rattle.spaces.specs.Around.{place_among, place_in, is_bounded_by, IsAround}
use Rattle.spaces.specs.Bound.{is_within_bound, partial_products_along, is_bounded_at}
use Rattle.spaces.specs.Checked.{checked_products}
use Rattle.spaces.specs.Spaces.{is_laid_out, shows, has_space, outer_space, own_factors, inner_factors, holder_factors, space_along, space_of, space}
use Rattle.spaces.specs.Table.{entry_at}
use Rattle.spaces.specs.Values.{values_along, values_below}
use Rattle.spaces.proofs.CheckedLemmas.{both, shown-where_space, space-where_shown}
use Rattle.spaces.proofs.ProductLemmas.{checked-append, checked-fold}
use Rattle.spaces.proofs.ValueLemmas.{values_along-cons}

-- where the nearest of these containing blocks places what it holds, and without one what is outermost
abbrev place_after : Viewport → Holder → List Standing → Option Parts
place_after viewport outer [] = Some (outer_space viewport outer)
place_after viewport outer (holder ∷ holders) = checked_products (Some (space_along viewport holder holders)) (holder_factors (Some holder))

-- among ancestors that show what is in them, that is where the containing block places it
place-is : (viewport : Viewport) (seeker : Label) (above : List Label) → list_all shows above ≡ true → place_among viewport (sought seeker) above ≡ place_after viewport (outermost (sought seeker)) (holders_among (sought seeker) above)
place-is viewport seeker [] shown = refl
place-is viewport seeker (n ∷ above) shown = by_test (place-is viewport seeker above (both _ _ shown).1) (may_hold (sought seeker) (parent_of above) n)
  where
    n' : Standing
    n' = record { label = n; above = above }

    by_test : place_among viewport (sought seeker) above ≡ place_after viewport (outermost (sought seeker)) (holders_among (sought seeker) above) → (is : Bool) → (if is then checked_products (space_of viewport n') (inner_factors (parent_of above) n) else place_among viewport (sought seeker) above) ≡ place_after viewport (outermost (sought seeker)) (if is then n' ∷ holders_among (sought n) above else holders_among (sought seeker) above)
    by_test beyond true =
        ap (λ (b : Bool). checked_products (if b then Some (space_along viewport n' (containing_block_chain n')) else None) (inner_factors (parent_of above) n)) (space-where_shown n above shown)
    by_test beyond false = beyond

-- the node's own factors after that
own-checked : (viewport : Viewport) (n : Standing) (holders : List Standing) → checked_products (place_after viewport (outermost (sought n.label)) holders) (own_factors (parent_of n.above) n.label) ≡ (if list_all is_within_bound (partial_products_along viewport n holders) then Some (space_along viewport n holders) else None)
own-checked viewport n [] = checked-fold (outer_space viewport (outermost (sought n.label))) (own_factors (parent_of n.above) n.label)
own-checked viewport n (holder ∷ holders) =
    sym (checked-append (Some (space_along viewport holder holders)) (holder_factors (Some holder)) (own_factors (parent_of n.above) n.label))
    ∙ checked-fold (space_along viewport holder holders) _

-- the space of a node that has one, from where it is placed
space-placed : (viewport : Viewport) (n : Standing) → has_space n ≡ true → checked_products (place_among viewport (sought n.label) n.above) (own_factors (parent_of n.above) n.label) ≡ (if is_bounded_at viewport n then space_of viewport n else None)
space-placed viewport n has =
    ap (λ (o : Option Parts). checked_products o (own_factors (parent_of n.above) n.label)) (place-is viewport n.label n.above (shown-where_space n has))
    ∙ own-checked viewport n (containing_block_chain n)
    ∙ ap (λ (b : Bool). if (if b then list_all is_within_bound (partial_products_along viewport n (containing_block_chain n)) else true) then (if b then Some (space_along viewport n (containing_block_chain n)) else None) else None) (sym has)

-- what a product that is there or not says
pub record IsBoundedSpace (bounded : Bool) (found space : Option Parts) : Type 0 where
  pub some : (m : Parts) → found ≡ Some m → (bounded ≡ true) × (space ≡ Some m)
  pub none : found ≡ None → bounded ≡ false

bounded_space : (bounded : Bool) (found space : Option Parts) → found ≡ (if bounded then space else None) → IsSome space → IsBoundedSpace bounded found space
bounded_space true found space is there = record {
  some = λ m some. (refl, sym is ∙ some);
  none = λ none. absurd (nothing space (sym is ∙ none) there);
}
  where
    nothing : (o : Option Parts) → o ≡ None → IsSome o → ⊥
    nothing None none some = cc
    nothing (Some m) none some = cc
bounded_space false found space is there = record {
  some = λ m some. absurd (clash found is some);
  none = λ none. refl;
}
  where
    clash : (o : Option Parts) {m : Parts} → o ≡ None → o ≡ Some m → ⊥
    clash None none some = cc
    clash (Some k) none some = cc

abbrev entry_with : Option Parts → Inherited → Entry
entry_with space values = record { space = space; values = values }

module _ (page : Contents) (valid : IsValid page) (id : ℕ) (node : Node) (seen : node_of page id ≡ Some node) where
  abbrev n : Standing
  n = standing page valid id node seen

  found : placed_of page id ≡ Some (seen_at page id node seen).place
  found = (seen_at page id node seen).found

  above-here : ancestors_of page id ≡ n.above
  above-here = ap (λ (o : Option Placed). option_map_or (λ p. p.above) o []) found

  below-here : ancestors_below page id ≡ n.label ∷ n.above
  below-here = ancestors-seen page valid id node seen

  space-here : space page id ≡ space_of page.viewport n
  space-here = ap (option_and_then (λ p. space_of page.viewport (standing_at p))) found

  bounded-here : is_bounded_by page id ≡ is_bounded_at page.viewport n
  bounded-here = ap (λ (o : Option Placed). option_map_or (λ p. is_bounded_at page.viewport (standing_at p)) o true) found

  entry-here : option_map (λ p. entry_at page.viewport (standing_at p)) (placed_of page id) ≡ Some (entry_at page.viewport n)
  entry-here = ap (option_map (λ p. entry_at page.viewport (standing_at p))) found

  module _ (around : Around) (is : IsAround page.viewport (ancestors_of page id) around) where
    is-here : IsAround page.viewport n.above around
    is-here = subst (λ (above : List Label). IsAround page.viewport above around) above-here is

    -- whether the node has a space
    has-seen : (is_laid_out node.kind && around.shown) ≡ has_space n
    has-seen =
        ap (λ (l : Label). is_laid_out l.kind && around.shown) (label-seen page valid id node seen)
        ∙ ap (λ (b : Bool). is_laid_out n.label.kind && b) is-here.shown

    -- without a space no product is formed
    pub space-hidden : (is_laid_out node.kind && around.shown) ≡ false → None ≡ space page id
    space-hidden has = sym (space-here ∙ ap (λ (b : Bool). if b then Some (space_along page.viewport n (containing_block_chain n)) else None) (sym has-seen ∙ has))

    pub bounded-hidden : (is_laid_out node.kind && around.shown) ≡ false → is_bounded_by page id ≡ true
    bounded-hidden has = bounded-here ∙ ap (λ (b : Bool). if b then list_all is_within_bound (partial_products_along page.viewport n (containing_block_chain n)) else true) (sym has-seen ∙ has)

    -- the space, by the node as a reader sees it
    space-shown : has_space n ≡ true → (result : Option Parts) →
        result ≡ checked_products (place_in around (sought (label_of node))) (own_factors (option_map label_of (node_of page node.parent)) (label_of node)) →
        IsBoundedSpace (is_bounded_by page id) result (space page id)
    space-shown has result result_is = bounded_space (is_bounded_by page id) result (space page id)
        (result_is
        ∙ ap (λ (l : Label). checked_products (place_in around (sought l)) (own_factors (option_map label_of (node_of page node.parent)) l)) (label-seen page valid id node seen)
        ∙ ap (λ (o : Option Label). checked_products (place_in around (sought n.label)) (own_factors o n.label)) (parent-seen page valid id node seen)
        ∙ ap (λ (o : Option Parts). checked_products o (own_factors (parent_of n.above) n.label)) (is-here.places (sought n.label))
        ∙ space-placed page.viewport n has
        ∙ ap (λ (b : Bool). if b then space_of page.viewport n else None) (sym bounded-here)
        ∙ ap (λ (o : Option Parts). if is_bounded_by page id then o else None) (sym space-here))
        (ap is_some space-here ∙ ap (λ (b : Bool). is_some (if b then Some (space_along page.viewport n (containing_block_chain n)) else None)) has)

    -- the same from what calls answer
    pub space-given : (is_laid_out node.kind && around.shown) ≡ true → (wanted : Wanted) → wanted ≡ sought (label_of node) → (placed : Option Parts) → placed ≡ place_in around wanted → (parent : Option Node) → parent ≡ node_of page node.parent → (result : Option Parts) →
        result ≡ checked_products placed (own_factors (option_map label_of parent) (label_of node)) → IsBoundedSpace (is_bounded_by page id) result (space page id)
    space-given has wanted wanted_is placed placed_is parent parent_is result result_is = space-shown (sym has-seen ∙ has) result
        (result_is
        ∙ ap (λ (o : Option Parts). checked_products o (own_factors (option_map label_of parent) (label_of node))) (placed_is ∙ ap (place_in around) wanted_is)
        ∙ ap (λ (o : Option Node). checked_products (place_in around (sought (label_of node))) (own_factors (option_map label_of o) (label_of node))) parent_is)

    -- the values: a text takes those of its parent
    values-seen' : (if is_text node.kind then around.values else computed around.values node.style) ≡ values_below n.above n.label
    values-seen' =
        ap (λ (v : Inherited). if is_text node.kind then v else computed v node.style) is-here.values
        ∙ ap (λ (l : Label). if is_text l.kind then values_along n.above else computed (values_along n.above) l.style) (label-seen page valid id node seen)
        ∙ ap (λ (v : Inherited). if is_text n.label.kind then values_along n.above else v) (sym (values_along-cons n.label n.above))

    -- the entry of the node
    pub entry-seen : (s : Option Parts) (v : Inherited) → s ≡ space page id → v ≡ (if is_text node.kind then around.values else computed around.values node.style) →
        option_map (λ p. entry_at page.viewport (standing_at p)) (placed_of page id) ≡ Some (entry_with s v)
    entry-seen s v s_is v_is =
        entry-here
        ∙ ap (λ (o : Option Parts). Some (entry_with o (values_below n.above n.label))) (sym (s_is ∙ space-here))
        ∙ ap (λ (w : Inherited). Some (entry_with s w)) (sym (v_is ∙ values-seen'))

    -- what the node hands on
    shown-inside : (shows (label_of node) && around.shown) ≡ list_all shows (ancestors_below page id)
    shown-inside =
        ap (λ (l : Label). shows l && around.shown) (label-seen page valid id node seen)
        ∙ ap (λ (b : Bool). shows n.label && b) is-here.shown
        ∙ sym (ap (list_all shows) below-here)

    values-inside : computed around.values node.style ≡ values_along (ancestors_below page id)
    values-inside =
        ap (λ (v : Inherited). computed v node.style) is-here.values
        ∙ ap (λ (l : Label). computed (values_along n.above) l.style) (label-seen page valid id node seen)
        ∙ sym (values_along-cons n.label n.above)
        ∙ sym (ap (λ (nodes : List Label). values_along nodes) below-here)

    place-inside : (wanted : Wanted) (inner : Option Parts) →
        inner ≡ checked_products (space page id) (inner_factors (option_map label_of (node_of page node.parent)) (label_of node)) →
        (if may_hold wanted (option_map label_of (node_of page node.parent)) (label_of node) then inner else place_in around wanted) ≡ place_among page.viewport wanted (ancestors_below page id)
    place-inside wanted inner inner_is =
        ap (λ (o : Option Parts). if may_hold wanted (option_map label_of (node_of page node.parent)) (label_of node) then o else place_in around wanted) inner_is
        ∙ ap (λ (l : Label). if may_hold wanted (option_map label_of (node_of page node.parent)) l then checked_products (space page id) (inner_factors (option_map label_of (node_of page node.parent)) l) else place_in around wanted) (label-seen page valid id node seen)
        ∙ ap (λ (o : Option Label). if may_hold wanted o n.label then checked_products (space page id) (inner_factors o n.label) else place_in around wanted) (parent-seen page valid id node seen)
        ∙ ap (λ (o : Option Parts). if may_hold wanted (parent_of n.above) n.label then checked_products o (inner_factors (parent_of n.above) n.label) else place_in around wanted) space-here
        ∙ ap (λ (o : Option Parts). if may_hold wanted (parent_of n.above) n.label then checked_products (space_of page.viewport n) (inner_factors (parent_of n.above) n.label) else o) (is-here.places wanted)
        ∙ sym (ap (place_among page.viewport wanted) below-here)

    -- all of it, from what calls answer
    module _ (parent : Option Node) (parent_is : parent ≡ node_of page node.parent) (own : Option Parts) (own_is : own ≡ space page id) (inner : Option Parts)
        (inner_is : inner ≡ checked_products own (inner_factors (option_map label_of parent) (label_of node))) where
      inner-here : inner ≡ checked_products (space page id) (inner_factors (option_map label_of (node_of page node.parent)) (label_of node))
      inner-here =
          inner_is
          ∙ ap (λ (o : Option Parts). checked_products o (inner_factors (option_map label_of parent) (label_of node))) own_is
          ∙ ap (λ (o : Option Node). checked_products (space page id) (inner_factors (option_map label_of o) (label_of node))) parent_is

      place-given : (wanted : Wanted) (o : Option Parts) → o ≡ (if may_hold wanted (option_map label_of parent) (label_of node) then inner else place_in around wanted) → o ≡ place_among page.viewport wanted (ancestors_below page id)
      place-given wanted o o_is =
          o_is
          ∙ ap (λ (p : Option Node). if may_hold wanted (option_map label_of p) (label_of node) then inner else place_in around wanted) parent_is
          ∙ place-inside wanted inner inner-here

      pub around-inside : (inside : Around) → inside.shown ≡ (shows (label_of node) && around.shown) → inside.values ≡ computed around.values node.style →
          inside.container ≡ (if may_hold Container (option_map label_of parent) (label_of node) then inner else place_in around Container) →
          inside.positioned ≡ (if may_hold Positioned (option_map label_of parent) (label_of node) then inner else place_in around Positioned) →
          inside.transformed ≡ (if may_hold Transformed (option_map label_of parent) (label_of node) then inner else place_in around Transformed) →
          inside.parent ≡ (if may_hold Parent (option_map label_of parent) (label_of node) then inner else place_in around Parent) →
          IsAround page.viewport (ancestors_below page id) inside
      around-inside inside shown_is values_is container_is positioned_is transformed_is parent_is' = record {
        shown = shown_is ∙ shown-inside;
        values = values_is ∙ values-inside;
        places = by_wanted;
      }
        where
          by_wanted : (wanted : Wanted) → place_in inside wanted ≡ place_among page.viewport wanted (ancestors_below page id)
          by_wanted Container = place-given Container inside.container container_is
          by_wanted Positioned = place-given Positioned inside.positioned positioned_is
          by_wanted Transformed = place-given Transformed inside.transformed transformed_is
          by_wanted Parent = place-given Parent inside.parent parent_is'
