use Rattle.std.proofs.Common.{◌+ℤ◌, rules}
use Rattle.corner_shapes.proofs.CurveLemmas.{IsBefore, fits_corner, found-within}
use Rattle.corner_shapes.proofs.rounded.Rounded.fits_top_left.Goals as goal

pub fits-requires-clause-across : goal.fits-requires-clause-across
fits-requires-clause-across c = found-within c.before-2.result c.top_left-radii.result.x (search rules) c.before-2.ensures.within

pub fits-requires-clause-down : goal.fits-requires-clause-down
fits-requires-clause-down c = found-within c.before-3.result c.top_left-radii.result.y (search rules) c.before-3.ensures.within

pub returns : goal.returns
returns c =
    let box = c.args.self.now in
    let point = c.args.point in
    let made = c.top_left-radii.result in
    fits_corner c.fits.result c.before-2.result c.before-3.result made _ box.l box.t point.x point.y IsBefore IsBefore ◌+ℤ◌ ◌+ℤ◌
    (search rules) (search rules) (search rules) (search rules) (search rules) (search rules)
    c.top_left-radii.ensures c.fits.ensures c.before-2.ensures.found c.before-3.ensures.found
