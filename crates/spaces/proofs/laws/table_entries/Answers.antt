-- A node that isn't laid out has no space.
use Rattle.spaces.proofs.TableFrameLemmas.{entry-space, entry-values, entry-width, entry-local_point, entry-some}
use Rattle.spaces.proofs.laws.table_entries.Goals as goal

pub returns-clause-space : goal.returns-clause-space
returns-clause-space c = entry-space

pub returns-clause-values : goal.returns-clause-values
returns-clause-values c = entry-values

pub returns-clause-width : goal.returns-clause-width
returns-clause-width c = entry-width

pub returns-clause-local_point : goal.returns-clause-local_point
returns-clause-local_point c = entry-local_point

pub returns-clause-entered : goal.returns-clause-entered
returns-clause-entered c = entry-some
