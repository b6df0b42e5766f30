-- What a rect holds, by what was measured.
use Rattle.std.proofs.Common.{◌≡◌, ℕ, ◌<◌, ℤ, pos, ◌<ℤ◌, Bool, true, false, refl, subst, sym, IsTrue, ◌↔◌, ◌^◌, arith}
use Rattle.std.specs.Prelude.{not}
use Rattle.std.proofs.lemmas.Int.{ints}
use Rattle.corner_shapes.specs.Radii.{IsLengthWithin}
use Rattle.corner_shapes.specs.Curve.{IsMeasured}
use Rattle.svg_shapes.specs.declared.boxes.FineBox.{FineBox}
use Rattle.svg_shapes.specs.declared.rect.RoundRect.{RoundRect}
use Rattle.svg_shapes.specs.Rects.{IsRectWithin, rect_of, rounded, grown_rect, shrunk_rect, RectHolds, RectBandHolds, InRect, OnRect}

-- rects with the same edges and radii are the same
pub same_rect : {l l' t t' r r' b b' rx rx' ry ry' : ℤ} → l ≡ l' → t ≡ t' → r ≡ r' → b ≡ b' → rx ≡ rx' → ry ≡ ry'
    → (let one : RoundRect = record { l = l; t = t; r = r; b = b; rx = rx; ry = ry } in
    let other : RoundRect = record { l = l'; t = t'; r = r'; b = b'; rx = rx'; ry = ry' } in one ≡ other)
same_rect e f g h i j = cc

-- as a rounded box it is one that can be tested
pub rounded-measured : (rect : RoundRect) → IsRectWithin (2 ^ 29) (2 ^ 27) rect → IsMeasured (rounded rect)
rounded-measured rect within =
    let across : IsLengthWithin (2 ^ 28) rect.rx = record {
      at_least = within.rx.at_least;
      at_most = omega (arith, ints, within.rx.at_most);
    } in
    let down : IsLengthWithin (2 ^ 28) rect.ry = record {
      at_least = within.ry.at_least;
      at_most = omega (arith, ints, within.ry.at_most);
    } in
    record {
      left = omega (arith, within.left);
      top = omega (arith, within.top);
      right = omega (arith, within.right);
      bottom = omega (arith, within.bottom);
      radii = record {
        top_left = record { x = across; y = down };
        top_right = record { x = across; y = down };
        bottom_right = record { x = across; y = down };
        bottom_left = record { x = across; y = down };
      };
    }

-- the test of a band, where the grown rect holds the point
pub in_band-by : (rect grown shrunk : RoundRect) (width : ℕ) (x y : ℤ) (r : Bool)
    → grown ≡ grown_rect width rect → shrunk ≡ shrunk_rect width rect
    → RectHolds grown x y → IsTrue r ↔ RectHolds shrunk x y
    → IsTrue (not r) ↔ RectBandHolds width rect x y
in_band-by rect grown shrunk width x y true outer inner within tests = (
  λ t. let no : ⊥ = cc in absurd no,
  λ h. absurd (h.beyond (subst (λ (s : RoundRect). RectHolds s x y) inner (tests.0 refl))),
)
in_band-by rect grown shrunk width x y false outer inner within tests = (
  λ t. record {
    within = subst (λ (g : RoundRect). RectHolds g x y) outer within;
    beyond = λ held. let t = tests.1 (subst (λ (s : RoundRect). RectHolds s x y) (sym inner) held) in let no : ⊥ = cc in no;
  },
  λ h. refl,
)

-- the tests of a rect with positive sides
pub in_rect-by : (box : FineBox) (rx ry : ℤ) (rect : RoundRect) (x y : ℤ) (r : Bool) → pos 0 <ℤ box.w → pos 0 <ℤ box.h
    → rect ≡ rect_of box rx ry → IsTrue r ↔ RectHolds rect x y → IsTrue r ↔ InRect box rx ry x y
in_rect-by box rx ry rect x y r wide high made tests = (
  λ t. record { wide = wide; high = high; inside = subst (λ (v : RoundRect). RectHolds v x y) made (tests.0 t) },
  λ h. tests.1 (subst (λ (v : RoundRect). RectHolds v x y) (sym made) h.inside),
)

pub on_rect-by : (box : FineBox) (rx ry : ℤ) (rect : RoundRect) (width : ℕ) (x y : ℤ) (r : Bool)
    → pos 0 <ℤ box.w → pos 0 <ℤ box.h → 0 < width → rect ≡ rect_of box rx ry
    → IsTrue r ↔ RectBandHolds width rect x y → IsTrue r ↔ OnRect box rx ry width x y
on_rect-by box rx ry rect width x y r wide high stroked made tests =
    let B : RoundRect → Type 0 = λ v. RectBandHolds width v x y in (
      λ t. record { wide = wide; high = high; stroked = stroked; band = subst B made (tests.0 t) },
      λ h. tests.1 (subst B (sym made) h.band),
    )
