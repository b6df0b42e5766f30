-- The squares of natural numbers.
use Rattle.std.proofs.Common.{ℕ, suc, ◌+◌, ◌*◌, ◌<◌, ◌≤◌, arith}
use Rattle.std.proofs.Math.Nat.{mul-le-mul}

-- the square of a greater number is greater, whatever is added to it: a point further off than the radius, across or
-- down, is in no circle
pub square-above : (a r rest : ℕ) → r < a → a * a + rest ≤ r * r → ⊥
square-above a r rest h within =
    let further : suc r * suc r ≤ a * a = mul-le-mul h h in
    absurd (omega arith)
