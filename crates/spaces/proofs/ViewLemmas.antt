-- The viewports of svgs: the numbers of padding boxes, and the factor of a viewBox as its viewport answers it.
use Rattle.std.proofs.Common.{◌≡◌, List, [], ◌∷◌, Option, Some, Bool, true, false, not, if◌then◌else◌, ℤ, pos, ◌-ℤ◌, FitsSigned, to_z, of_z, sym, subst, ap, ◌∙◌, arith}
use Rattle.std.specs.Prelude.{◌&&◌}
use Rattle.std.specs.Int.{int_max, w64}
use Rattle.std.proofs.lemmas.Int.{ints, int_max_is, to_z-of_z}
use Rattle.affine.specs.declared.map.Parts.{Parts}
use Rattle.computed_style.specs.Ranges.{IsSide}
use Rattle.view_boxes.specs.declared.view_map.ViewMap.{ViewMap}
use Rattle.view_boxes.specs.declared.view_map.ViewMap.TheVariants.{Given, Disabled, Beyond}
use Rattle.view_boxes.specs.Views.{is_disabled, equivalent_transform}
use Rattle.box_tree.specs.Forest.{Label}
use Rattle.box_tree.specs.Used.{makes_viewport}
use Rattle.spaces.specs.Spaces.{padding_side, port_of, viewport_width, viewport_height, view_factor}
use Rattle.spaces.specs.Checked.{IsViewOf, after_view, then_product, checked_products}
use Rattle.spaces.proofs.BoundLemmas.{test-beyond}
use Rattle.spaces.proofs.ProductLemmas.{then-beyond}

abbrev pub read : ℤ → ℤ
read z = to_z w64 (of_z w64 z)

-- what borders leave of a side is a side
pub rest-side : (s a b : ℤ) → IsSide 26 s → IsSide 20 a → IsSide 20 b → IsSide 26 (int_max (s -ℤ a -ℤ b) (pos 0))
rest-side s a b rs ra rb = (
  omega (arith, ints, int_max_is (s -ℤ a -ℤ b) (pos 0), rs.0, rs.1, ra.0, ra.1, rb.0, rb.1),
  omega (arith, ints, int_max_is (s -ℤ a -ℤ b) (pos 0), rs.0, rs.1, ra.0, ra.1, rb.0, rb.1),
)

-- it is what the code computes
pub rest-read :
    (s a b m : ℤ) → IsSide 26 s → IsSide 20 a → IsSide 20 b → m ≡ int_max (read (read (read s -ℤ read a) -ℤ read b)) (pos 0) → read m ≡ int_max (s -ℤ a -ℤ b) (pos 0)
rest-read s a b m rs ra rb is =
    let inner : read (read (read s -ℤ read a) -ℤ read b) ≡ s -ℤ a -ℤ b = omega (arith, ints, rs.0, rs.1, ra.0, ra.1, rb.0, rb.1) in
    let m_is : m ≡ int_max (s -ℤ a -ℤ b) (pos 0) = is ∙ ap (λ z. int_max z (pos 0)) inner in
    let side = rest-side s a b rs ra rb in
    let fits : FitsSigned w64 (int_max (s -ℤ a -ℤ b) (pos 0)) = omega (arith, ints, side.0, side.1) in
    ap read m_is ∙ to_z-of_z w64 (int_max (s -ℤ a -ℤ b) (pos 0)) fits

pub rest-read-side :
    (s a b m : ℤ) → IsSide 26 s → IsSide 20 a → IsSide 20 b → m ≡ int_max (read (read (read s -ℤ read a) -ℤ read b)) (pos 0) → IsSide 26 (read m)
rest-read-side s a b m rs ra rb is = subst (IsSide 26) (sym (rest-read s a b m rs ra rb is)) (rest-side s a b rs ra rb)

pub given-read : (r : ℤ) → IsSide 26 r → read r ≡ r
given-read r range = omega (arith, ints, range.0, range.1)

pub fine-read : (r : ℤ) → IsSide 32 r → read r ≡ r
fine-read r range = omega (arith, ints, range.0, range.1)

-- a side of a padding box, as it is read back, of numbers that are read back too
pub padding-read :
    (r s a b s' a' b' : ℤ) → s ≡ s' → a ≡ a' → b ≡ b' → IsSide 26 s' → IsSide 20 a' → IsSide 20 b' →
    r ≡ padding_side (read s) (read a) (read b) → IsSide 32 r → read r ≡ padding_side s' a' b'
padding-read r s a b s' a' b' s_is a_is b_is rs ra rb is range =
    let r_read : read r ≡ r = omega (arith, ints, range.0, range.1) in
    let s_read : read s ≡ s' = omega (arith, ints, s_is, rs.0, rs.1) in
    let a_read : read a ≡ a' = omega (arith, ints, a_is, ra.0, ra.1) in
    let b_read : read b ≡ b' = omega (arith, ints, b_is, rb.0, rb.1) in
    r_read ∙ is ∙ ap (λ z. padding_side z (read a) (read b)) s_read ∙ ap (λ z. padding_side s' z (read b)) a_read ∙ ap (padding_side s' a') b_read

module _ (n : Label) where
  abbrev off : Bool
  off = is_disabled (viewport_width n) (viewport_height n) (port_of n).view

  abbrev map : Parts
  map = equivalent_transform (viewport_width n) (viewport_height n) (port_of n)

  -- the factor by both tests
  abbrev factor_as : (makes disabled : Bool) → List Parts
  factor_as makes disabled = if makes && not (makes && disabled) then map ∷ [] else []

  pub viewed-none : (space : Option Parts) → makes_viewport n.kind ≡ false → space ≡ checked_products space (view_factor n)
  viewed-none space makes = sym (ap (λ b. checked_products space (factor_as b off)) makes)

  pub viewed-some : (space : Option Parts) (view : ViewMap) → IsViewOf n (Some view) → after_view space view ≡ checked_products space (view_factor n)
  viewed-some space Disabled is =
      sym (ap (λ b. checked_products space (factor_as b off)) is.0 ∙ ap (λ b. checked_products space (factor_as true b)) is.1)
  viewed-some space (Given m) is =
      ap (then_product space) is.1.1.0
      ∙ sym (ap (λ b. checked_products space (factor_as b off)) is.0 ∙ ap (λ b. checked_products space (factor_as true b)) is.1.0)
  viewed-some space Beyond is =
      sym (then-beyond space map (test-beyond map is.1.1))
      ∙ sym (ap (λ b. checked_products space (factor_as b off)) is.0 ∙ ap (λ b. checked_products space (factor_as true b)) is.1.0)
