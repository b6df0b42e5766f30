use Rattle.std.proofs.Common.{sym, ◌∙◌}
use Rattle.hit_script.specs.Load.{nothing_counted}
use Rattle.hit_script.proofs.CountLaws.{nothing_behind, tallied_by_meaning, tallies_blank}
use Rattle.hit_script.proofs.Meanings.{asks_nothing, asks_meaning}
use Rattle.hit_script.proofs.load.count_line.Goals as goal

pub returns-then-is_passed_over-clause-counted : goal.returns-then-is_passed_over-clause-counted
returns-then-is_passed_over-clause-counted g c =
    let none = asks_nothing c.args.line.now (sym c.is_passed_over.ensures ∙ c.if-is_passed_over.true) in
    (nothing_counted, sym (nothing_behind _), tallies_blank c.args.line.now _ none)

pub returns-clause-counted : goal.returns-clause-counted
returns-clause-counted g c =
    let asks = asks_meaning c.args.line.now (sym c.is_passed_over.ensures ∙ c.if-is_passed_over.false) in
    tallied_by_meaning c.count_command.result c.args.line.now _ _ _ _ _ _ asks c.command_of.ensures.meaning c.count_command.ensures.memory c.count_command.ensures.counted
