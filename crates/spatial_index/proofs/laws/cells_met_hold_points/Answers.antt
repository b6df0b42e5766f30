use Rattle.spatial_index.proofs.LawLemmas.{AreCellsOfPoints-positive}
use Rattle.spatial_index.proofs.laws.cells_met_hold_points.Goals as goal

pub returns : goal.returns
returns c = AreCellsOfPoints-positive
