use Rattle.std.specs.Prelude.{◌≡◌, ℕ, zero, suc, ◌^◌, ◌≤◌, ℤ, pos, negsuc, ◌+ℤ◌, ◌*ℤ◌, ◌<ℤ◌, unsigned_abs, int_div}
use Rattle.std.specs.Int.{◌∣◌}
use Rattle.affine.specs.declared.map.Parts.{Parts}
use Rattle.affine.specs.Gcd.{gcd}

-- A map takes (x, y) to ((a x + c y + e) / q, (b x + d y + f) / q): the matrix of CSS Transforms 1, section 12,
-- with all its numbers over one denominator.

-- the number divides all seven parts
pub record DividesAll (k : ℕ) (m : Parts) : Type 0 where
  pub a : k ∣ unsigned_abs m.a
  pub b : k ∣ unsigned_abs m.b
  pub c : k ∣ unsigned_abs m.c
  pub d : k ∣ unsigned_abs m.d
  pub e : k ∣ unsigned_abs m.e
  pub f : k ∣ unsigned_abs m.f
  pub q : k ∣ unsigned_abs m.q

-- lowest terms: the denominator is positive, and no number above 1 divides all seven parts
pub record IsLowest (m : Parts) : Type 0 where
  pub positive : pos 0 <ℤ m.q
  pub coprime : (k : ℕ) → DividesAll k m → k ≡ 1

-- no part of the matrix is larger in size than the first bound, and no part of the translation than the second
pub record IsWithin (m : Parts) (matrix translation : ℕ) : Type 0 where
  pub a : unsigned_abs m.a ≤ matrix
  pub b : unsigned_abs m.b ≤ matrix
  pub c : unsigned_abs m.c ≤ matrix
  pub d : unsigned_abs m.d ≤ matrix
  pub e : unsigned_abs m.e ≤ translation
  pub f : unsigned_abs m.f ≤ translation
  pub q : unsigned_abs m.q ≤ matrix

-- the bound on maps
abbrev pub IsWithinBound : Parts → Type 0
IsWithinBound m = IsWithin m (2 ^ 44) (2 ^ 70)

-- what every map keeps
pub record IsMap (m : Parts) : Type 0 where
  pub lowest : IsLowest m
  pub bound : IsWithinBound m

-- the greatest number that divides all seven parts
unfoldable pub common_divisor : Parts → ℕ
common_divisor m =
    gcd (unsigned_abs m.a) (gcd (unsigned_abs m.b) (gcd (unsigned_abs m.c) (gcd (unsigned_abs m.d)
    (gcd (unsigned_abs m.e) (gcd (unsigned_abs m.f) (unsigned_abs m.q))))))

-- each part divided by a number
abbrev pub divided : Parts → ℤ → Parts
divided m by = record {
  a = int_div m.a by;
  b = int_div m.b by;
  c = int_div m.c by;
  d = int_div m.d by;
  e = int_div m.e by;
  f = int_div m.f by;
  q = int_div m.q by;
}

-- the same map in lowest terms
unfoldable pub lowest_terms : Parts → Parts
lowest_terms m = divided m (pos (common_divisor m))

-- the map that does the right one first and then the left one: the product of their matrices
abbrev pub matrix_product : Parts → Parts → Parts
matrix_product left right = record {
  a = left.a *ℤ right.a +ℤ left.c *ℤ right.b;
  b = left.b *ℤ right.a +ℤ left.d *ℤ right.b;
  c = left.a *ℤ right.c +ℤ left.c *ℤ right.d;
  d = left.b *ℤ right.c +ℤ left.d *ℤ right.d;
  e = left.a *ℤ right.e +ℤ left.c *ℤ right.f +ℤ left.e *ℤ right.q;
  f = left.b *ℤ right.e +ℤ left.d *ℤ right.f +ℤ left.f *ℤ right.q;
  q = left.q *ℤ right.q;
}

-- that product in lowest terms
abbrev pub product : Parts → Parts → Parts
product left right = lowest_terms (matrix_product left right)

-- the map that moves no point
abbrev pub identity_map : Parts
identity_map = record { a = pos 1; b = pos 0; c = pos 0; d = pos 1; e = pos 0; f = pos 0; q = pos 1 }

-- moves by (x / q, y / q)
abbrev pub translation : ℤ → ℤ → ℤ → Parts
translation x y q = lowest_terms (record { a = q; b = pos 0; c = pos 0; d = q; e = x; f = y; q = q })

-- stretches by x / q and y / q
abbrev pub scaling : ℤ → ℤ → ℤ → Parts
scaling x y q = lowest_terms (record { a = x; b = pos 0; c = pos 0; d = y; e = pos 0; f = pos 0; q = q })

-- one quarter turn, from the x axis towards the y axis
abbrev pub quarter_turn : Parts
quarter_turn = record { a = pos 0; b = pos 1; c = negsuc 0; d = pos 0; e = pos 0; f = pos 0; q = pos 1 }

-- that many quarter turns, one after another
abbrev pub quarter_turns : ℕ → Parts
quarter_turns zero = identity_map
quarter_turns (suc turns) = matrix_product quarter_turn (quarter_turns turns)
