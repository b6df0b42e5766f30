use Rattle.poly_shapes.proofs.RectangleLemmas.{rectangle_fills}
use Rattle.poly_shapes.proofs.laws.rectangles_fill_themselves.Goals as goal

pub returns : goal.returns
returns c = rectangle_fills
