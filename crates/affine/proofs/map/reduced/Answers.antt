use Rattle.std.proofs.Common.{rules, pos, FitsSigned}
use Rattle.std.specs.Int.{w128}
use Rattle.affine.specs.Map.{common_divisor, lowest_terms}
use Rattle.affine.proofs.Bits.{quotient-read, same_parts}
use Rattle.affine.proofs.MapLemmas.{IsLowest-lowest_terms}
use Rattle.affine.proofs.PointLemmas.{IsSamePoint-lowest_terms}
use Rattle.affine.proofs.map.reduced.Goals as goal

pub returns-clause-value : goal.returns-clause-value
unfolding lowest_terms
returns-clause-value c =
    let p = c.args.p.now in
    let size = c.requires.size in
    let by = c.divisor_of_all-by.result in
    let same = c.divisor_of_all-by.ensures.value in
    let g = pos (common_divisor c.args.p.now) in
    let fits : FitsSigned w128 c.divisor_of_all-by.result = search rules in
    same_parts
    (quotient-read p.a by g c.quotient.result size.a fits (search rules) same c.quotient.ensures)
    (quotient-read p.b by g c.quotient-2.result size.b fits (search rules) same c.quotient-2.ensures)
    (quotient-read p.c by g c.quotient-3.result size.c fits (search rules) same c.quotient-3.ensures)
    (quotient-read p.d by g c.quotient-4.result size.d fits (search rules) same c.quotient-4.ensures)
    (quotient-read p.e by g c.quotient-5.result size.e fits (search rules) same c.quotient-5.ensures)
    (quotient-read p.f by g c.quotient-6.result size.f fits (search rules) same c.quotient-6.ensures)
    (quotient-read p.q by g c.quotient-7.result size.q fits (search rules) same c.quotient-7.ensures)

pub returns-clause-lowest : goal.returns-clause-lowest
returns-clause-lowest c = IsLowest-lowest_terms c.args.p.now c.requires.positive

pub returns-clause-meaning : goal.returns-clause-meaning
returns-clause-meaning c = IsSamePoint-lowest_terms c.args.p.now
