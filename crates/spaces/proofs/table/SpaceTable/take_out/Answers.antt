-- No id is left to be taken out.
use Rattle.std.proofs.Common.{ℕ, List, sym, ap, ◌∙◌}
use Rattle.std.proofs.lemmas.List.{drop_all}
use Rattle.spaces.specs.Table.{entry_under}
use Rattle.spaces.proofs.TableLemmas.{cleared, cleared-is}
use Rattle.spaces.proofs.table.SpaceTable.take_out.Goals as goal

pub returns-clause-entries : goal.returns-clause-entries
returns-clause-entries g c = λ x.
    sym (ap (λ (ids : List ℕ). cleared ids x (entry_under c.loop-id.self x)) (drop_all c.loop-id.id-index c.args.removed.now c.loop-id-test.false))
    ∙ c.loop-id.invariant.entries x
    ∙ cleared-is c.args.removed.now x (entry_under c.args.self.now x)
