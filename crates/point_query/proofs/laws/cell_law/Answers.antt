use Rattle.point_query.proofs.CellLemmas.{near-members, numbers-below, once-below, fewer-below}
use Rattle.std.proofs.Common.{arith}
use Rattle.point_query.proofs.laws.cell_law.Goals as goal

pub returns-clause-near : goal.returns-clause-near
returns-clause-near c page items grid x y valid numbered of_page inside = near-members page items grid of_page x y inside valid numbered

pub returns-clause-numbers : goal.returns-clause-numbers
returns-clause-numbers c page items grid x y number of_page inside there = numbers-below page items grid of_page x y inside 10 number (omega arith) there

pub returns-clause-once : goal.returns-clause-once
returns-clause-once c page items grid x y of_page inside = once-below page items grid of_page x y inside 10 (omega arith)

pub returns-clause-fewer : goal.returns-clause-fewer
returns-clause-fewer c page items grid x y valid numbered of_page inside = fewer-below page items grid of_page x y inside valid numbered 10 (omega arith)
