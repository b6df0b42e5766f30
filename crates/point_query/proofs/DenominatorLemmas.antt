-- The denominator of each space of a valid page is positive: each of its factors has a positive one, and so has each product.
use Rattle.std.proofs.Common.{◌≡◌, ℕ, zero, suc, ℤ, pos, ◌*ℤ◌, ◌<ℤ◌, ◌≤ℤ◌, List, [], ◌∷◌, ◌++◌, map, Option, Some, None, Bool, true, false, if◌then◌else◌, refl, arith}
use Rattle.std.specs.Prelude.{fold, not, ◌&&◌, IfSome, All}
use Rattle.std.specs.Ordering.{int_eq}
use Rattle.std.specs.Option.{option_and_then}
use Rattle.std.proofs.lemmas.Int.{ints}
use Rattle.std.proofs.lemmas.Bool.{false≢true, or_parts}
use Rattle.std.proofs.lemmas.List.Elements.{All-nil, All-cons, All-head, All-tail, All-append, All-map}
use Rattle.whole_numbers.proofs.Products.{mul-positive}
use Rattle.fractions.specs.declared.rect.Spot.{Spot}
use Rattle.affine.specs.declared.map.Parts.{Parts}
use Rattle.affine.specs.Map.{lowest_terms, matrix_product, product, translation, quarter_turns}
use Rattle.affine.specs.Function.{function_map}
use Rattle.affine.proofs.MapLemmas.{IsLowest-lowest_terms}
use Rattle.computed_style.specs.declared.function.Function.{Function}
use Rattle.computed_style.specs.declared.function.Function.TheVariants.{Matrix, Translate, Scale, Quarter}
use Rattle.computed_style.specs.Ranges.{IsFunctionInRange}
use Rattle.view_boxes.specs.declared.port.ViewBox.{ViewBox}
use Rattle.view_boxes.specs.Ranges.{IsViewBoxInRange}
use Rattle.view_boxes.specs.Views.{is_disabled, parts_of, equivalent_transform}
use Rattle.box_tree.specs.declared.form.Form.{Form}
use Rattle.box_tree.specs.declared.form.Form.TheVariants.{Outline, Cover, View, Port as FormPort, MapName}
use Rattle.box_tree.specs.declared.containing.Holder.{Holder}
use Rattle.box_tree.specs.declared.containing.Holder.TheVariants.{Node as HolderNode, Initial, Viewport as HolderViewport}
use Rattle.box_tree.specs.declared.containing.Wanted.{Wanted}
use Rattle.box_tree.specs.declared.piece.Piece.{Piece}
use Rattle.box_tree.specs.declared.viewport.Viewport.{Viewport}
use Rattle.box_tree.specs.Forms.{IsFormInRange}
use Rattle.box_tree.specs.Forest.{Label, Placed}
use Rattle.box_tree.specs.Contents.{Contents, placed_of, IsValid, IsSuited}
use Rattle.box_tree.specs.Used.{has_acting_transform, is_clipping, is_block_container, makes_viewport}
use Rattle.box_tree.specs.Containing.{Standing, parent_of, sought, may_hold, outermost, holders_among, containing_block_chain, standing_at}
use Rattle.box_tree.proofs.ContainingLemmas.{AreAncestors, are_ancestors}
use Rattle.box_tree.proofs.MoveLemmas.{each-placed}
use Rattle.spaces.specs.Spaces.{corner_of, padding_corner, port_given, port_of, viewport_width, viewport_height, disables, view_factor, has_space, transform_around, own_factors, outer_space, scroll_factor, inner_factors, holder_factors, space_factors, space_along, space_of, space}

-- a map with a positive denominator
abbrev IsOver : Parts → Type 0
IsOver m = pos 0 <ℤ m.q

positive : (k : ℕ) → pos 0 <ℤ pos (suc k)
positive k = omega (arith, ints)

over-lowest_terms : (m : Parts) → IsOver m → IsOver (lowest_terms m)
over-lowest_terms m over = (IsLowest-lowest_terms m over).positive

over-product : (m n : Parts) → IsOver m → IsOver n → IsOver (product m n)
over-product m n first last = over-lowest_terms (matrix_product m n) (mul-positive m.q n.q first last)

over-fold : (start : Parts) (factors : List Parts) → IsOver start → All IsOver factors → IsOver (fold product start factors)
over-fold start [] first all = first
over-fold start (factor ∷ factors) first all =
    over-fold (product start factor) factors (over-product start factor first (All-head IsOver factor factors all)) (All-tail IsOver factor factors all)

over-translation : (x y q : ℤ) → pos 0 <ℤ q → IsOver (translation x y q)
over-translation x y q over = over-lowest_terms (record { a = q; b = pos 0; c = pos 0; d = q; e = x; f = y; q = q }) over

over-turns : (turns : ℕ) → IsOver (quarter_turns turns)
over-turns zero = positive 0
over-turns (suc turns) = mul-positive (pos 1) (quarter_turns turns).q (positive 0) (over-turns turns)

over-function : (f : Function) → IsFunctionInRange f → IsOver (function_map f)
over-function (Matrix a b c d e f q) range = over-lowest_terms (record { a = a; b = b; c = c; d = d; e = e; f = f; q = q }) (omega (arith, ints, range.moved.denominator.0))
over-function (Translate x y) range = over-translation x y (pos 1) (positive 0)
over-function (Scale x y q) range = over-lowest_terms (record { a = x; b = pos 0; c = pos 0; d = y; e = pos 0; f = pos 0; q = q }) (omega (arith, ints, range.denominator.0))
over-function (Quarter turns) range = over-turns turns

one : (m : Parts) → IsOver m → All IsOver (m ∷ [])
one m over = All-cons IsOver m [] over (All-nil IsOver)

some-if : (b : Bool) (factors : List Parts) → (b ≡ true → All IsOver factors) → All IsOver (if b then factors else [])
some-if true factors all = all refl
some-if false factors all = All-nil IsOver

-- ---- the factor of a viewBox

some-side : (z : ℤ) → pos 0 ≤ℤ z → int_eq z (pos 0) ≡ false → pos 0 <ℤ z
some-side z h other = grind (arith, ints)

over-parts_of : (x y w h : ℤ) (view : Option ViewBox) → IfSome view IsViewBoxInRange → is_disabled w h view ≡ false → IsOver (parts_of x y w h view)
over-parts_of x y w h None range shown = positive 63
over-parts_of x y w h (Some view) range shown =
    let sides = or_parts _ _ (or_parts _ _ shown).1 in
    mul-positive (pos 128) (view.w *ℤ view.h) (positive 127)
    (mul-positive view.w view.h (some-side view.w range.sides.width.0 sides.0) (some-side view.h range.sides.height.0 sides.1))

view-in_range : (form : Option Form) → IfSome form IsFormInRange → IfSome (port_given form).view IsViewBoxInRange
view-in_range None range = tt
view-in_range (Some (View view)) range = range
view-in_range (Some (FormPort port)) range = range.view
view-in_range (Some (Outline shape)) range = tt
view-in_range (Some (Cover area)) range = tt
view-in_range (Some (MapName map)) range = tt

-- where a test is true and not both are, the other is false
not-of : (a b : Bool) → (a && not (a && b)) ≡ true → b ≡ false
not-of true true is = absurd (false≢true is)
not-of true false is = refl
not-of false b is = absurd (false≢true is)

over-view_factor : (n : Label) → IfSome n.form IsFormInRange → All IsOver (view_factor n)
over-view_factor n range =
    let w = viewport_width n in
    let h = viewport_height n in
    let port = port_of n in
    some-if (makes_viewport n.kind && not (disables n)) (equivalent_transform w h port ∷ [])
    (λ shown. one (equivalent_transform w h port) (over-lowest_terms (parts_of port.x port.y w h port.view)
    (over-parts_of port.x port.y w h port.view (view-in_range n.form range) (not-of (makes_viewport n.kind) (is_disabled w h port.view) shown))))

-- ---- the factors of a node

over-corner : (n : Label) (boxes : List Piece) → All IsOver (corner_of n boxes)
over-corner n [] = All-nil IsOver
over-corner n (box ∷ boxes) = one _ (over-translation _ _ (pos 1) (positive 0))

over-inner : (above : List Label) (n : Label) → IsSuited above n → All IsOver (inner_factors (parent_of above) n)
over-inner above n suited =
    All-append IsOver (padding_corner n) (scroll_factor (parent_of above) n ++ view_factor n) (over-corner n n.boxes)
    (All-append IsOver (scroll_factor (parent_of above) n) (view_factor n)
    (some-if (is_clipping (parent_of above) n && is_block_container (parent_of above) n) _ (λ _. one _ (over-translation _ _ (pos 1) (positive 0))))
    (over-view_factor n suited.formed.in_range))

either : (b : Bool) (factors others : List Parts) → All IsOver factors → All IsOver others → All IsOver (if b then factors else others)
either true factors others first last = first
either false factors others first last = last

over-transform : (n : Label) (doubled : Spot) → All IsFunctionInRange n.style.transform → All IsOver (transform_around n doubled)
over-transform n doubled ranges =
    All-cons IsOver _ _ (over-translation _ _ (pos 2) (positive 1))
    (All-append IsOver (map function_map n.style.transform) _
    (All-map IsOver function_map n.style.transform (λ k none within. over-function _ (ranges k none within)))
    (one _ (over-translation _ _ (pos 2) (positive 1))))

over-own : (above : List Label) (n : Label) → IsSuited above n → All IsOver (own_factors (parent_of above) n)
over-own above n suited =
    either (has_acting_transform (parent_of above) n) _ _ (over-transform n _ suited.style_in_range.functions) (one _ (over-translation _ _ (pos 1) (positive 0)))

-- ---- the space of a node

abbrev IsSuitedAt : Standing → Type 0
IsSuitedAt n = IsSuited n.above n.label

over-outer : (viewport : Viewport) (by : Holder) → IsOver (outer_space viewport by)
over-outer viewport Initial = over-translation _ _ (pos 1) (positive 0)
over-outer viewport HolderViewport = positive 0
over-outer viewport (HolderNode id) = positive 0

over-along : (viewport : Viewport) (n : Standing) (holders : List Standing) → IsSuitedAt n → All IsSuitedAt holders → IsOver (space_along viewport n holders)
over-along viewport n [] suited all =
    over-fold (outer_space viewport (outermost (sought n.label))) (space_factors None n) (over-outer viewport (outermost (sought n.label)))
    (over-own n.above n.label suited)
over-along viewport n (holder ∷ holders) suited all =
    let holder_suited = All-head IsSuitedAt holder holders all in
    over-fold (space_along viewport holder holders) (space_factors (Some holder) n)
    (over-along viewport holder holders holder_suited (All-tail IsSuitedAt holder holders all))
    (All-append IsOver (holder_factors (Some holder)) (own_factors (parent_of n.above) n.label) (over-inner holder.above holder.label holder_suited) (over-own n.above n.label suited))

module _ (page : Contents) (valid : IsValid page) where
  -- a node of the page suits its place, and so do its containing blocks
  suited-placed : (id : ℕ) (p : Placed) → placed_of page id ≡ Some p → IsSuited p.above p.label
  suited-placed id p found = (each-placed IsSuited page.tree [] id p valid.suited found).0

  holders-suited : (wanted : Wanted) (above : List Label) → AreAncestors page above → All IsSuitedAt (holders_among wanted above)
  holders-suited wanted [] stand = All-nil IsSuitedAt
  holders-suited wanted (n ∷ above) stand =
      by_test (may_hold wanted (parent_of above) n) (All-cons IsSuitedAt here _ (suited-placed n.id _ stand.0.found) (holders-suited (sought n) above stand.1)) (holders-suited wanted above stand.1)
    where
      here : Standing
      here = record { label = n; above = above }

      by_test : (holds : Bool) → All IsSuitedAt (here ∷ holders_among (sought n) above) → All IsSuitedAt (holders_among wanted above) →
          All IsSuitedAt (if holds then here ∷ holders_among (sought n) above else holders_among wanted above)
      by_test true nearest further = nearest
      by_test false nearest further = further

  pub denominator-space : (id : ℕ) → IfSome (space page id) (λ m. pos 0 <ℤ m.q)
  denominator-space id = by_place (placed_of page id) refl
    where
      by_place : (o : Option Placed) → placed_of page id ≡ o → IfSome (option_and_then (λ p. space_of page.viewport (standing_at p)) o) (λ m. pos 0 <ℤ m.q)
      by_place None found = tt
      by_place (Some p) found = by_test (has_space (standing_at p))
        where
          chain : List Standing
          chain = containing_block_chain (standing_at p)

          by_test : (there : Bool) → IfSome (if there then Some (space_along page.viewport (standing_at p) chain) else None) (λ m. pos 0 <ℤ m.q)
          by_test true =
              over-along page.viewport (standing_at p) chain (suited-placed id p found)
              (holders-suited (sought p.label) p.above (are_ancestors page p.above id p valid found refl))
          by_test false = tt
