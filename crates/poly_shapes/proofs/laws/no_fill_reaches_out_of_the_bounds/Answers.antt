use Rattle.poly_shapes.proofs.OutsideLemmas.{fills-in_bounds}
use Rattle.poly_shapes.proofs.laws.no_fill_reaches_out_of_the_bounds.Goals as goal

pub returns : goal.returns
returns c = λ rule outline x y filled. fills-in_bounds rule outline.points outline.subs x y filled
