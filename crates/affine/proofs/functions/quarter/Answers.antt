use Rattle.std.proofs.Common.{◌≡◌, ◌∙◌, ap, sym, arith}
use Rattle.affine.specs.Gcd.{gcd}
use Rattle.affine.specs.Map.{common_divisor, lowest_terms, quarter_turns}
use Rattle.affine.proofs.functions.quarter.Goals as goal

pub returns-in-1 : goal.returns-in-1
unfolding lowest_terms common_divisor gcd
returns-in-1 c = c.turned.ensures ∙ ap quarter_turns (sym c.in-1.is)

pub returns-in-2 : goal.returns-in-2
unfolding lowest_terms common_divisor gcd
returns-in-2 c = c.turned-in-2.ensures ∙ ap quarter_turns (sym c.in-2.is)

pub returns-in_default : goal.returns-in_default
unfolding lowest_terms common_divisor gcd
returns-in_default c =
    let three : c.args.turns ≡ 3 = omega arith in
    c.turned-in_default.ensures ∙ ap quarter_turns (sym three)
