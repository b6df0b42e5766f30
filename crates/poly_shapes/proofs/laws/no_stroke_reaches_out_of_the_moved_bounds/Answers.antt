use Rattle.poly_shapes.proofs.NearLemmas.{strokes-within}
use Rattle.poly_shapes.proofs.laws.no_stroke_reaches_out_of_the_moved_bounds.Goals as goal

pub returns : goal.returns
returns c = strokes-within
