use Rattle.affine.specs.Map.{common_divisor}
use Rattle.affine.proofs.Bits.{divisor-read, first_divisor-read, positive_pos}
use Rattle.affine.proofs.MapLemmas.{common_divisor_positive}
use Rattle.affine.proofs.map.divisor_of_all.Goals as goal

-- each divisor is that of one part and the divisor before it
pub returns-clause-value : goal.returns-clause-value
unfolding common_divisor
returns-clause-value c =
    let p = c.args.p.now in
    let size = c.requires.size in
    let two = c.divisor-of_two in
    let three = c.divisor-of_three in
    let four = c.divisor-of_four in
    let five = c.divisor-of_five in
    let six = c.divisor-of_six in
    let of_two = first_divisor-read p.f p.q two.result size.f size.q two.ensures.value two.ensures.size in
    let of_three = divisor-read p.e two.result three.result _ size.e of_two three.ensures.value three.ensures.size in
    let of_four = divisor-read p.d three.result four.result _ size.d of_three four.ensures.value four.ensures.size in
    let of_five = divisor-read p.c four.result five.result _ size.c of_four five.ensures.value five.ensures.size in
    let of_six = divisor-read p.b five.result six.result _ size.b of_five six.ensures.value six.ensures.size in
    divisor-read p.a six.result c.divisor.result _ size.a of_six c.divisor.ensures.value c.divisor.ensures.size

pub returns-clause-some : goal.returns-clause-some
returns-clause-some c = rw (returns-clause-value c) (positive_pos _ (common_divisor_positive c.args.p.now c.requires.positive))
