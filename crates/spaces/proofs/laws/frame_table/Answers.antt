-- The nodes outside of the edited one keep their entries, and what is taken out has none.
use Rattle.spaces.proofs.TableFrameLemmas.{table-suits, table-applied, removed-apart, table-empty}
use Rattle.spaces.proofs.laws.frame_table.Goals as goal

pub returns-clause-suits : goal.returns-clause-suits
returns-clause-suits c = λ table page edit faultless. table-suits page edit faultless table

pub returns-clause-applied : goal.returns-clause-applied
returns-clause-applied c = λ table new page edit change faultless known. table-applied page edit faultless table known new change

pub returns-clause-apart : goal.returns-clause-apart
returns-clause-apart c = removed-apart

pub returns-clause-empty : goal.returns-clause-empty
returns-clause-empty c = table-empty
