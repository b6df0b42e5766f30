-- A circle is a disc: what is compared in half fine units, times the radius, is compared in fine units.
use Rattle.std.proofs.Common.{◌≡◌, ℕ, ◌+◌, ◌*◌, ◌<◌, ◌≤◌, ℤ, unsigned_abs, ◌↔◌, arith}
use Rattle.std.proofs.Math.Nat.{mul-le-mul, mul-le-mul_right, le_of_mul-le-mul_right}
use Rattle.std.proofs.lemmas.Int.{ints}
use Rattle.corner_shapes.specs.Curve.{square, distance, IsWithinEllipse}
use Rattle.svg_shapes.specs.Measures.{twice}
use Rattle.svg_shapes.specs.Ellipses.{ellipse_of, InEllipse, InDisc}
use Rattle.svg_shapes.proofs.Twice.{twice-sum, positive-twice, positive-half, size-positive}

twice-distance : (a b : ℤ) → distance (twice a) (twice b) ≡ 2 * distance a b
twice-distance a b = let p = twice-sum a in let q = twice-sum b in omega (arith, ints)

twice-size : (z : ℤ) → unsigned_abs (twice z) ≡ 2 * unsigned_abs z
twice-size z = let p = twice-sum z in omega (arith, ints)

disc-scaled : (d e r : ℕ) → 0 < r → square d + square e ≤ square r → IsWithinEllipse (2 * d) (2 * e) (2 * r) (2 * r)
disc-scaled d e r positive within =
    let scaled : (square d + square e) * (16 * square r) ≤ square r * (16 * square r) = mul-le-mul_right (16 * square r) within in
    omega (arith, scaled)

disc-unscaled : (d e r : ℕ) → 0 < r → IsWithinEllipse (2 * d) (2 * e) (2 * r) (2 * r) → square d + square e ≤ square r
disc-unscaled d e r positive within =
    let above : 1 * 1 ≤ r * r = mul-le-mul positive positive in
    let scaled : (square d + square e) * (16 * square r) ≤ square r * (16 * square r) = omega (arith, within) in
    le_of_mul-le-mul_right scaled (omega (arith, above))

pub circle-disc : (cx cy r x y : ℤ) → InEllipse (ellipse_of cx cy r r) x y ↔ InDisc cx cy r x y
circle-disc cx cy r x y =
    let d = distance x cx in
    let e = distance y cy in
    let size = unsigned_abs r in
    let across = twice-distance x cx in
    let down = twice-distance y cy in
    let radius = twice-size r in (
      λ h. let positive = positive-half r h.wide in record {
        positive = positive;
        within = disc-unscaled d e size (size-positive r positive) (rw (across, down, radius) at h.inside);
      },
      λ h. record {
        wide = positive-twice r h.positive;
        high = positive-twice r h.positive;
        inside = rw (across, down, radius) (disc-scaled d e size (size-positive r h.positive) h.within);
      },
    )
