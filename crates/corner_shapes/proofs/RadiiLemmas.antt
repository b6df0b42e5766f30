-- Radii and corners that are equal part by part, and radii within a limit.
use Rattle.std.proofs.Common.{◌≡◌, ℕ, ◌≤◌, ℤ, pos, negsuc, unsigned_abs, ◌∙◌, ap, arith}
use Rattle.std.proofs.lemmas.Int.{ints}
use Rattle.corner_shapes.specs.declared.radii.Radii.{Radii}
use Rattle.corner_shapes.specs.Radii.{IsLengthWithin, corners_of}

abbrev pub radii_of : ℤ → ℤ → Radii
radii_of x y = record { x = x; y = y }

pub same_radii : {a b c d : ℤ} → a ≡ c → b ≡ d → radii_of a b ≡ radii_of c d
same_radii {a} {b} {c} {d} p q = ap (λ v. radii_of v b) p ∙ ap (radii_of c) q

pub same_corners : {a b c d a' b' c' d' : Radii} → a ≡ a' → b ≡ b' → c ≡ c' → d ≡ d'
    → corners_of a b c d ≡ corners_of a' b' c' d'
same_corners {a} {b} {c} {d} {a'} {b'} {c'} {d'} p q r s =
    ap (λ v. corners_of v b c d) p ∙ ap (λ v. corners_of a' v c d) q
    ∙ ap (λ v. corners_of a' b' v d) r ∙ ap (corners_of a' b' c') s

pub within_pos : (limit n : ℕ) → n ≤ limit → IsLengthWithin limit (pos n)
within_pos limit n h = record { at_least = omega (arith, ints); at_most = omega (arith, ints) }

pub within_abs : (limit : ℕ) (z : ℤ) → IsLengthWithin limit z → unsigned_abs z ≤ limit
within_abs limit (pos n) h = let most = h.at_most in omega (arith, ints)
within_abs limit (negsuc n) h = let least = h.at_least in absurd (omega (arith, ints))
