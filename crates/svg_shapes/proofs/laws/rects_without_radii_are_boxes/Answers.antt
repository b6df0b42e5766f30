use Rattle.svg_shapes.proofs.PlainRects.{plain-rect}
use Rattle.svg_shapes.proofs.laws.rects_without_radii_are_boxes.Goals as goal

pub returns : goal.returns
returns c = plain-rect
