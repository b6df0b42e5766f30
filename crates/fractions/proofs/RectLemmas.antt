use Rattle.std.proofs.Common.{◌≡◌, ℤ, ◌≤ℤ◌, ◌<ℤ◌, ◌↔◌, arith, inl, inr, FitsSigned, to_z, of_z, w64}
use Rattle.std.specs.Int.{int_max, int_min}
use Rattle.std.proofs.lemmas.Int.{ints, by_lt_z, to_z-of_z}
use Rattle.fractions.specs.declared.rect.Rect.{Rect}
use Rattle.fractions.specs.Rect.{Holds, IsEmpty}

-- the greater and the lesser of two numbers, as the code computes them
pub int_max-of_bits :
    (a b m : ℤ) → FitsSigned w64 a → FitsSigned w64 b → FitsSigned w64 m →
    m ≡ int_max (to_z w64 (of_z w64 a)) (to_z w64 (of_z w64 b)) → to_z w64 (of_z w64 m) ≡ int_max a b
int_max-of_bits a b m fa fb fm e = rw (to_z-of_z w64 m fm) (rw (to_z-of_z w64 a fa, to_z-of_z w64 b fb) at e)

pub int_min-of_bits :
    (a b m : ℤ) → FitsSigned w64 a → FitsSigned w64 b → FitsSigned w64 m →
    m ≡ int_min (to_z w64 (of_z w64 a)) (to_z w64 (of_z w64 b)) → to_z w64 (of_z w64 m) ≡ int_min a b
int_min-of_bits a b m fa fb fm e = rw (to_z-of_z w64 m fm) (rw (to_z-of_z w64 a fa, to_z-of_z w64 b fb) at e)

-- of two numbers the greater is at most x exactly where both are
int_max-le : (a b x : ℤ) → (int_max a b ≤ℤ x) ↔ ((a ≤ℤ x) × (b ≤ℤ x))
int_max-le a b x = grind (arith, ints)

-- x is below the lesser of two numbers exactly where it is below both
lt-int_min : (a b x : ℤ) → (x <ℤ int_min a b) ↔ ((x <ℤ a) × (x <ℤ b))
lt-int_min a b x = grind (arith, ints)

-- the rectangle of the greater left and top edges and the lesser right and bottom ones holds what both hold
pub Holds-meet :
    (a b m : Rect) → m.l ≡ int_max a.l b.l → m.t ≡ int_max a.t b.t → m.r ≡ int_min a.r b.r → m.b ≡ int_min a.b b.b →
    (x y : ℤ) → Holds m x y ↔ (Holds a x y × Holds b x y)
Holds-meet a b m l t r bottom x y =
    grind (arith, ints, int_max-le, lt-int_min)

-- a rectangle is empty exactly where it holds no point: otherwise it holds its left top corner
pub IsEmpty-points : (r : Rect) → IsEmpty r ↔ ((x y : ℤ) → ¬ Holds r x y)
IsEmpty-points r = (
  λ empty. λ x y holds. elim empty [ inl meets ↦ omega (arith, ints, holds.from_left, holds.before_right) | inr meets ↦ omega (arith, ints, holds.from_top, holds.before_bottom) ],
  λ none. by_lt_z r.l r.r (λ wide. by_lt_z r.t r.b (λ high. absurd (none r.l r.t (record { from_left = omega (arith, ints); before_right = wide; from_top = omega (arith, ints); before_bottom = high }))) inr) inl,
)
