use Rattle.point_query.proofs.NearLemmas.{near-admitted}
use Rattle.point_query.proofs.laws.index_law.Goals as goal

pub returns : goal.returns
returns c = near-admitted
