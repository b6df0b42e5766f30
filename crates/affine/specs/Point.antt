use Rattle.std.specs.Prelude.{◌≡◌, zero, suc, ℤ, pos, negsuc, ◌+ℤ◌, ◌-ℤ◌, ◌*ℤ◌, neg_ℤ, Option, Some, None}
use Rattle.std.specs.Int.{int_div_euclid}
use Rattle.affine.specs.declared.map.Parts.{Parts}

-- the point (x / w, y / w): two exact fractions over one denominator
pub record Point : Type 0 where
  pub x : ℤ
  pub y : ℤ
  pub w : ℤ

-- both are one point: their coordinates are the same when multiplied crosswise
pub record IsSamePoint (p r : Point) : Type 0 where
  pub x : p.x *ℤ r.w ≡ r.x *ℤ p.w
  pub y : p.y *ℤ r.w ≡ r.y *ℤ p.w

-- a point of whole units
abbrev pub whole_point : ℤ → ℤ → Point
whole_point x y = record { x = x; y = y; w = pos 1 }

-- where a map takes a point: to ((a x + c y + e) / q, (b x + d y + f) / q)
abbrev pub image : Parts → Point → Point
image m p = record {
  x = m.a *ℤ p.x +ℤ m.c *ℤ p.y +ℤ m.e *ℤ p.w;
  y = m.b *ℤ p.x +ℤ m.d *ℤ p.y +ℤ m.f *ℤ p.w;
  w = m.q *ℤ p.w;
}

-- it is 0 exactly where a map takes the plane to a line or to a point
abbrev pub determinant : Parts → ℤ
determinant m = m.a *ℤ m.d -ℤ m.b *ℤ m.c

-- the point that a map with a determinant other than 0 takes to (x, y)
abbrev pub preimage : Parts → ℤ → ℤ → Point
preimage m x y = record {
  x = m.d *ℤ (m.q *ℤ x -ℤ m.e) -ℤ m.c *ℤ (m.q *ℤ y -ℤ m.f);
  y = m.a *ℤ (m.q *ℤ y -ℤ m.f) -ℤ m.b *ℤ (m.q *ℤ x -ℤ m.e);
  w = determinant m;
}

-- n / d rounded down, for a d other than 0
abbrev pub floor_of : ℤ → ℤ → ℤ
floor_of n (pos d) = int_div_euclid n (pos d)
floor_of n (negsuc d) = int_div_euclid (neg_ℤ n) (pos (suc d))

-- both coordinates rounded down, and nothing over 0
abbrev pub rounded_down : ℤ → ℤ → ℤ → Option (ℤ × ℤ)
rounded_down x y (pos zero) = None
rounded_down x y w = Some (floor_of x w, floor_of y w)

-- the preimage of a point of whole units, in fine units of 1/64 of them, rounded down
unfoldable pub local_point : Parts → ℤ → ℤ → Option (ℤ × ℤ)
local_point m x y =
    rounded_down (pos 64 *ℤ (preimage m x y).x) (pos 64 *ℤ (preimage m x y).y) (preimage m x y).w
