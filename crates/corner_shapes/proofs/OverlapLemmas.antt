-- The factor is at most 1 and at most the share of each side, so no two reduced curves overlap; where
-- none overlapped it is 1.
use Rattle.std.proofs.Common.{◌≡◌, ℕ, zero, suc, ◌+◌, ◌*◌, ◌/◌, ◌^◌, ◌<◌, ◌≤◌, pos, unsigned_abs, refl, ◌∙◌, ap, arith}
use Rattle.std.proofs.lemmas.Bool.Decides.{nat_tests}
use Rattle.std.proofs.Math.Nat.{mul-le-mul_right, le_of_mul-le-mul_right, mul-div-le, le_of_mul-le-mul_left, div-one}
use Rattle.corner_shapes.specs.declared.radii.Corners.{Corners}
use Rattle.corner_shapes.specs.declared.radii.Radii.{Radii}
use Rattle.corner_shapes.proofs.RadiiLemmas.{same_radii, same_corners, within_pos, within_abs}
use Rattle.corner_shapes.specs.Radii.{AreRadiiWithin, AreBothWithin, top_left, top_right, bottom_right, bottom_left}
use Rattle.corner_shapes.specs.Overlap.{Fraction, one, lesser, share, factor, used_radius, used_radii_of, each, used_corners, in_fine_units, AreApart, top_sum, right_sum, bottom_sum, left_sum}

-- the first fraction is at most the second
pub record IsAtMost (f g : Fraction) : Type 0 where
  pub le : f.over * g.under ≤ g.over * f.under

pub IsAtMost-trans : (f g h : Fraction) → 0 < g.under → IsAtMost f g → IsAtMost g h → IsAtMost f h
IsAtMost-trans f g h positive p q = record {
  le =
      let a : f.over * g.under * h.under ≤ g.over * f.under * h.under = mul-le-mul_right h.under p.le in
      let b : g.over * h.under * f.under ≤ h.over * g.under * f.under = mul-le-mul_right f.under q.le in
      let c : f.over * h.under * g.under ≤ h.over * f.under * g.under = omega (arith, a, b) in
      le_of_mul-le-mul_right c positive;
}

pub lesser_first : (f g : Fraction) → IsAtMost (lesser f g) f
lesser_first f g = record { le = grind (arith, nat_tests) }

pub lesser_second : (f g : Fraction) → IsAtMost (lesser f g) g
lesser_second f g = record { le = grind (arith, nat_tests) }

pub lesser_positive : (f g : Fraction) → 0 < f.under → 0 < g.under → 0 < (lesser f g).under
lesser_positive f g p q = grind (arith, nat_tests)

pub share_positive : (length sum : ℕ) → 0 < (share length sum).under
share_positive length zero = omega arith
share_positive length (suc n) = omega arith

-- a side that is long enough leaves the factor 1
pub lesser-one : (length sum : ℕ) → sum ≤ length → lesser one (share length sum) ≡ one
lesser-one length zero h = refl
lesser-one length (suc n) h = grind (arith, nat_tests)

pub lesser_share : {f g : Fraction} (length : ℕ) {s t : ℕ} → f ≡ g → s ≡ t → lesser f (share length s) ≡ lesser g (share length t)
lesser_share {f} {g} length {s} {t} p q = ap (λ s. lesser f (share length s)) q ∙ ap (λ f. lesser f (share length t)) p

pub share-bound : (f : Fraction) (length sum : ℕ) → IsAtMost f (share length sum) → f.over * sum ≤ length * f.under
share-bound f length zero p = omega arith
share-bound f length (suc n) p = p.le

-- two radii reduced by at most the share of their side take no more than the side
pub both_fit : (f : Fraction) (length a b : ℕ) → 0 < f.under → IsAtMost f (share length (a + b))
    → used_radius f a + used_radius f b ≤ 64 * length
both_fit f length a b positive p =
    let on_side : f.over * (a + b) ≤ length * f.under = share-bound f length (a + b) p in
    let first : f.under * (64 * f.over * a / f.under) ≤ 64 * f.over * a = mul-div-le (64 * f.over * a) f.under in
    let second : f.under * (64 * f.over * b / f.under) ≤ 64 * f.over * b = mul-div-le (64 * f.over * b) f.under in
    let both : f.under * (64 * f.over * a / f.under + 64 * f.over * b / f.under) ≤ f.under * (64 * length) =
    omega (arith, on_side, first, second) in
    le_of_mul-le-mul_left both positive

-- the factor is a fraction, at most 1, and at most the share of each side
pub record IsFactor (f : Fraction) (width height : ℕ) (given : Corners) : Type 0 where
  pub positive : 0 < f.under
  pub at_most_one : IsAtMost f one
  pub top : IsAtMost f (share width (top_sum given))
  pub right : IsAtMost f (share height (right_sum given))
  pub bottom : IsAtMost f (share width (bottom_sum given))
  pub left : IsAtMost f (share height (left_sum given))

pub factor_is : (width height : ℕ) (given : Corners) → IsFactor (factor width height given) width height given
unfolding factor
factor_is width height given =
    let a = share width (top_sum given) in
    let b = share height (right_sum given) in
    let c = share width (bottom_sum given) in
    let d = share height (left_sum given) in
    let f = lesser one a in
    let g = lesser f b in
    let h = lesser g c in
    let pf : 0 < f.under = lesser_positive one a (omega arith) (share_positive width (top_sum given)) in
    let pg : 0 < g.under = lesser_positive f b pf (share_positive height (right_sum given)) in
    let ph : 0 < h.under = lesser_positive g c pg (share_positive width (bottom_sum given)) in
    let last = lesser_first h d in
    let third = IsAtMost-trans (lesser h d) h g ph last (lesser_first g c) in
    let second = IsAtMost-trans (lesser h d) g f pg third (lesser_first f b) in
    record {
      positive = lesser_positive h d ph (share_positive height (left_sum given));
      at_most_one = IsAtMost-trans (lesser h d) f one pf second (lesser_first one a);
      top = IsAtMost-trans (lesser h d) f a pf second (lesser_second one a);
      right = IsAtMost-trans (lesser h d) g b pg third (lesser_second f b);
      bottom = IsAtMost-trans (lesser h d) h c ph last (lesser_second g c);
      left = lesser_second h d;
    }

pub used_corners-apart : (width height : ℕ) (given : Corners) → AreApart (64 * width) (64 * height) (used_corners width height given)
used_corners-apart width height given =
    let f = factor_is width height given in
    record {
      top = both_fit _ width _ _ f.positive f.top;
      right = both_fit _ height _ _ f.positive f.right;
      bottom = both_fit _ width _ _ f.positive f.bottom;
      left = both_fit _ height _ _ f.positive f.left;
    }

-- where no curves overlap the factor is 1
pub factor-one : (width height : ℕ) (given : Corners) → AreApart width height given → factor width height given ≡ one
unfolding factor
factor-one width height given apart =
    let top = lesser-one width (top_sum given) apart.top in
    let right = ap (λ f. lesser f (share height (right_sum given))) top ∙ lesser-one height (right_sum given) apart.right in
    let bottom = ap (λ f. lesser f (share width (bottom_sum given))) right ∙ lesser-one width (bottom_sum given) apart.bottom in
    ap (λ f. lesser f (share height (left_sum given))) bottom ∙ lesser-one height (left_sum given) apart.left

pub used_radius-one : (r : ℕ) → used_radius one r ≡ 64 * r
used_radius-one r = div-one (64 * 1 * r) ∙ omega arith

pub used_corners-kept : (width height : ℕ) (given : Corners) → AreApart width height given
    → used_corners width height given ≡ in_fine_units given
used_corners-kept width height given apart =
    let whole = λ (r : Radii). same_radii (ap pos (used_radius-one (unsigned_abs r.x))) (ap pos (used_radius-one (unsigned_abs r.y))) in
    ap (λ f. each (used_radii_of f) given) (factor-one width height given apart)
    ∙ same_corners (whole (top_left given)) (whole (top_right given)) (whole (bottom_right given)) (whole (bottom_left given))

-- a used radius is at most 64 times the given one
pub used_radius-le : (f : Fraction) (r : ℕ) → 0 < f.under → IsAtMost f one → used_radius f r ≤ 64 * r
used_radius-le f r positive p =
    let part : f.under * (64 * f.over * r / f.under) ≤ 64 * f.over * r = mul-div-le (64 * f.over * r) f.under in
    let most : f.over ≤ f.under = omega (arith, p.le) in
    let more : f.over * r ≤ f.under * r = mul-le-mul_right r most in
    let all : f.under * (64 * f.over * r / f.under) ≤ f.under * (64 * r) = omega (arith, part, more) in
    le_of_mul-le-mul_left all positive

pub used_radii-within : (f : Fraction) (radii : Radii) → 0 < f.under → IsAtMost f one → AreBothWithin (2 ^ 20) radii
    → AreBothWithin (2 ^ 26) (used_radii_of f radii)
used_radii-within f radii positive p small =
    let x = used_radius-le f (unsigned_abs radii.x) positive p in
    let y = used_radius-le f (unsigned_abs radii.y) positive p in
    let small_x = within_abs (2 ^ 20) radii.x small.x in
    let small_y = within_abs (2 ^ 20) radii.y small.y in
    record { x = within_pos (2 ^ 26) _ (omega arith); y = within_pos (2 ^ 26) _ (omega arith) }

pub used_corners-within : (width height : ℕ) (given : Corners) → AreRadiiWithin (2 ^ 20) given
    → AreRadiiWithin (2 ^ 26) (used_corners width height given)
used_corners-within width height given small =
    let f = factor_is width height given in
    record {
      top_left = used_radii-within _ (top_left given) f.positive f.at_most_one small.top_left;
      top_right = used_radii-within _ (top_right given) f.positive f.at_most_one small.top_right;
      bottom_right = used_radii-within _ (bottom_right given) f.positive f.at_most_one small.bottom_right;
      bottom_left = used_radii-within _ (bottom_left given) f.positive f.at_most_one small.bottom_left;
    }
