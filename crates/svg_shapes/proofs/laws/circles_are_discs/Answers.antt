use Rattle.svg_shapes.proofs.DiscLemmas.{circle-disc}
use Rattle.svg_shapes.proofs.laws.circles_are_discs.Goals as goal

pub returns : goal.returns
returns c = circle-disc
