-- The winding of a rectangle's four edges.
use Rattle.std.proofs.Common.{◌≡◌, ◌≢◌, ℤ, pos, negsuc, ◌-ℤ◌, ◌*ℤ◌, ◌<ℤ◌, ◌≤ℤ◌, ◌↔◌, arith, refl, ◌∙◌}
use Rattle.std.proofs.lemmas.Int.{ints, by_lt_z}
use Rattle.std.proofs.Math.IntN.{zero-*ℤ}
use Rattle.poly_shapes.specs.declared.segment.Segment.{Segment}
use Rattle.poly_shapes.specs.declared.point.FillRule.TheVariants.{NonZero}
use Rattle.poly_shapes.specs.Segments.{across}
use Rattle.poly_shapes.specs.Outline.{edges}
use Rattle.poly_shapes.specs.Fill.{goes_down, edge_winding, winding, Fills}
use Rattle.poly_shapes.specs.Rectangle.{point, rectangle, IsInRectangle}
use Rattle.whole_numbers.proofs.Products.{sub-mul, mul-positive, mul-not_above}
use Rattle.poly_shapes.proofs.CrossingLemmas.{lt-true, lt-false, le-true, le-false, and_not, winding-not_crossed, not_crossed-above, not_crossed-below}
use Rattle.poly_shapes.proofs.TurnedLemmas.{edge_winding-turned}

abbrev edge : (ax ay bx by : ℤ) → Segment
edge ax ay bx by = record { from = point ax ay; to = point bx by }

-- a level edge is not crossed
winding-level : (a b t x y : ℤ) → edge_winding (edge a t b t) x y ≡ pos 0
winding-level a b t x y = winding-not_crossed (edge a t b t) x y
    (by_lt_z y t (λ h. not_crossed-above (edge a t b t) x y h h) (λ h. not_crossed-below (edge a t b t) x y h h))

-- an upright edge at the place a, by the point's place to its left or right
across-upright : (a t b x y : ℤ) → across (edge a t a b) x y ≡ (a -ℤ x) *ℤ (b -ℤ t)
across-upright a t b x y =
    let none : a -ℤ a ≡ pos 0 = omega (arith, ints) in
    let first : (a -ℤ a) *ℤ (y -ℤ t) ≡ pos 0 = rw none (zero-*ℤ (y -ℤ t)) in
    let there = sub-mul x a (b -ℤ t) in
    let back = sub-mul a x (b -ℤ t) in
    omega (arith, ints)

-- the edge goes down past the point: it is crossed where the point is on its left
down-left : (a t b x y : ℤ) → t ≤ℤ y → y <ℤ b → x <ℤ a → edge_winding (edge a t a b) x y ≡ pos 1
down-left a t b x y p q h =
    let k : pos 0 <ℤ across (edge a t a b) x y =
    rw (across-upright a t b x y) (mul-positive (a -ℤ x) (b -ℤ t) (omega (arith, ints)) (omega (arith, ints))) in
    rw (le-true t y p, lt-true y b q, lt-true (pos 0) (across (edge a t a b) x y) k) refl

down-right : (a t b x y : ℤ) → t ≤ℤ y → y <ℤ b → a ≤ℤ x → edge_winding (edge a t a b) x y ≡ pos 0
down-right a t b x y p q h =
    let k : across (edge a t a b) x y ≤ℤ pos 0 =
    rw (across-upright a t b x y) (mul-not_above (a -ℤ x) (b -ℤ t) (omega (arith, ints)) (omega (arith, ints))) in
    winding-not_crossed (edge a t a b) x y (record {
      down = and_not (goes_down (edge a t a b) y) _ (lt-false (pos 0) (across (edge a t a b) x y) k);
      up = rw (le-false b y q) refl;
    })

-- the edge goes up past the point
up-left : (a t b x y : ℤ) → t ≤ℤ y → y <ℤ b → x <ℤ a → edge_winding (edge a b a t) x y ≡ negsuc 0
up-left a t b x y p q h = edge_winding-turned (edge a t a b) x y ∙ rw (down-left a t b x y p q h) refl

up-right : (a t b x y : ℤ) → t ≤ℤ y → y <ℤ b → a ≤ℤ x → edge_winding (edge a b a t) x y ≡ pos 0
up-right a t b x y p q h = edge_winding-turned (edge a t a b) x y ∙ rw (down-right a t b x y p q h) refl

-- both ends above the ray, or both not
winding-above : (ax ay bx by x y : ℤ) → y <ℤ ay → y <ℤ by → edge_winding (edge ax ay bx by) x y ≡ pos 0
winding-above ax ay bx by x y p q =
    winding-not_crossed (edge ax ay bx by) x y (not_crossed-above (edge ax ay bx by) x y p q)

winding-below : (ax ay bx by x y : ℤ) → ay ≤ℤ y → by ≤ℤ y → edge_winding (edge ax ay bx by) x y ≡ pos 0
winding-below ax ay bx by x y p q =
    winding-not_crossed (edge ax ay bx by) x y (not_crossed-below (edge ax ay bx by) x y p q)

-- the four edges together
abbrev whole : (l t r b x y : ℤ) → ℤ
whole l t r b x y = winding (edges (rectangle l t r b)) x y

inside : (l t r b x y : ℤ) → IsInRectangle l t r b x y → whole l t r b x y ≡ pos 1
inside l t r b x y h = rw (
  up-right l t b x y h.top h.bottom h.left,
  winding-level l r t x y,
  down-left r t b x y h.top h.bottom h.right,
  winding-level r l b x y,
) refl

left_of : (l t r b x y : ℤ) → l <ℤ r → t ≤ℤ y → y <ℤ b → x <ℤ l → whole l t r b x y ≡ pos 0
left_of l t r b x y wide p q h = rw (
  up-left l t b x y p q h,
  winding-level l r t x y,
  down-left r t b x y p q (omega (arith, ints)),
  winding-level r l b x y,
) refl

right_of : (l t r b x y : ℤ) → l <ℤ r → t ≤ℤ y → y <ℤ b → r ≤ℤ x → whole l t r b x y ≡ pos 0
right_of l t r b x y wide p q h = rw (
  up-right l t b x y p q (omega (arith, ints)),
  winding-level l r t x y,
  down-right r t b x y p q h,
  winding-level r l b x y,
) refl

over : (l t r b x y : ℤ) → t <ℤ b → y <ℤ t → whole l t r b x y ≡ pos 0
over l t r b x y tall h =
    let below : y <ℤ b = omega (arith, ints) in
    rw (winding-above l b l t x y below h, winding-level l r t x y, winding-above r t r b x y h below, winding-level r l b x y) refl

under : (l t r b x y : ℤ) → t <ℤ b → b ≤ℤ y → whole l t r b x y ≡ pos 0
under l t r b x y tall h =
    let above : t ≤ℤ y = omega (arith, ints) in
    rw (winding-below l b l t x y h above, winding-level l r t x y, winding-below r t r b x y above h, winding-level r l b x y) refl

one_is_not_zero : (w : ℤ) → w ≡ pos 1 → w ≢ pos 0
one_is_not_zero w one none = omega (arith, ints)

pub rectangle_fills : (l t r b x y : ℤ) → l <ℤ r → t <ℤ b
    → Fills NonZero (edges (rectangle l t r b)) x y ↔ IsInRectangle l t r b x y
rectangle_fills l t r b x y wide tall = (
  λ filled.
      by_lt_z y t (λ h. absurd (filled (over l t r b x y tall h))) (λ top.
      by_lt_z y b (λ bottom.
      by_lt_z x l (λ h. absurd (filled (left_of l t r b x y wide top bottom h))) (λ left.
      by_lt_z x r (λ right. record { left = left; right = right; top = top; bottom = bottom })
      (λ h. absurd (filled (right_of l t r b x y wide top bottom h)))))
      (λ h. absurd (filled (under l t r b x y tall h)))),
  λ h. one_is_not_zero (whole l t r b x y) (inside l t r b x y h),
)
