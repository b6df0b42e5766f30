-- Sums over edges as a walk along the points makes them.
use Rattle.std.proofs.Common.{ℕ, ◌≡◌, ◌+◌, ◌^◌, ◌<◌, ◌≤◌, ℤ, ◌+ℤ◌, unsigned_abs, List, length, drop, get_or, arith}
use Rattle.std.proofs.lemmas.Int.{ints}
use Rattle.std.proofs.lemmas.List.{at_drop_more}
use Rattle.poly_shapes.specs.declared.point.Point.{Point}
use Rattle.poly_shapes.specs.Segments.{path_from}
use Rattle.poly_shapes.specs.Fill.{winding, edge_winding}
use Rattle.poly_shapes.proofs.Widths.{read}

-- one step along the points takes off one edge
pub winding-step : (from : Point) (points : List Point) (i : ℕ) (d : Point) (x y : ℤ) → i < length points
    → winding (path_from from (drop i points)) x y
    ≡ edge_winding (record { from = from; to = get_or points i d }) x y
    +ℤ winding (path_from (get_or points i d) (drop (i + 1) points)) x y
winding-step from points i d x y h = at_drop_more (λ rest. winding (path_from from rest) x y) points i d h

-- what is summed and what is left keep their sum when an addend goes over
pub sum-kept : (done next stated left rest whole : ℤ)
    → unsigned_abs done ≤ 2 ^ 40 → unsigned_abs next ≤ 2 ^ 40 → next ≡ stated
    → done +ℤ left ≡ whole → left ≡ stated +ℤ rest → read (done +ℤ read next) +ℤ rest ≡ whole
sum-kept done next stated left rest whole small narrow same before step = omega (arith, ints)

pub sum-size : (done next : ℤ) (i n : ℕ) → unsigned_abs done ≤ i → unsigned_abs next ≤ n → i + n ≤ 2 ^ 40
    → unsigned_abs (read (done +ℤ read next)) ≤ i + n
sum-size done next i n p q small = omega (arith, ints)
