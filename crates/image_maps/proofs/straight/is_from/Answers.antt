use Rattle.std.proofs.Common.{rules, pos, ◌*ℤ◌, FitsSigned, w64}
use mir.Syntax.{w128}
use Rattle.std.proofs.lemmas.Int.{to_z-of_z}
use Rattle.image_maps.proofs.straight.is_from.Goals as goal

pub returns : goal.returns
returns c =
    let fits_first : FitsSigned w64 c.args.first = c.ranges.first in
    let fits_last : FitsSigned w64 c.args.last = c.ranges.last in
    let fits_at : FitsSigned w128 c.args.at = c.ranges.at in
    let fits_from : FitsSigned w64 (pos 64 *ℤ c.args.first) = search rules in
    let fits_to : FitsSigned w64 (pos 64 *ℤ c.args.last) = search rules in
    simp to_z-of_z at c.is_within.ensures
