use Rattle.std.proofs.Common.{◌-ℤ◌, rules}
use Rattle.corner_shapes.proofs.CurveLemmas.{IsAfter, fits_corner, found-within}
use Rattle.corner_shapes.proofs.rounded.Rounded.fits_bottom_right.Goals as goal

pub fits-requires-clause-across : goal.fits-requires-clause-across
fits-requires-clause-across c = found-within c.after.result c.bottom_right-radii.result.x (search rules) c.after.ensures.within

pub fits-requires-clause-down : goal.fits-requires-clause-down
fits-requires-clause-down c = found-within c.after-2.result c.bottom_right-radii.result.y (search rules) c.after-2.ensures.within

pub returns : goal.returns
returns c =
    let box = c.args.self.now in
    let point = c.args.point in
    let made = c.bottom_right-radii.result in
    fits_corner c.fits.result c.after.result c.after-2.result made _ box.r box.b point.x point.y IsAfter IsAfter ◌-ℤ◌ ◌-ℤ◌
    (search rules) (search rules) (search rules) (search rules) (search rules) (search rules)
    c.bottom_right-radii.ensures c.fits.ensures c.after.ensures.found c.after-2.ensures.found
