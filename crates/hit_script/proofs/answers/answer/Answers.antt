use Rattle.std.proofs.Common.{[], sym, ◌∙◌}
use Rattle.std.proofs.lemmas.List.{append-nil}
use Rattle.hit_script.proofs.Meanings.{asks_nothing, asks_meaning}
use Rattle.hit_script.proofs.Answering.{answers_blank, answered_by_meaning}
use Rattle.hit_script.proofs.answers.answer.Goals as goal

pub returns-then-is_passed_over-clause-reply : goal.returns-then-is_passed_over-clause-reply
returns-then-is_passed_over-clause-reply g c =
    let none = asks_nothing c.args.line.now (sym c.is_passed_over.ensures ∙ c.if-is_passed_over.true) in
    ([], sym (append-nil c.args.out.now.items), answers_blank c.args.line.now _ none)

pub returns-clause-reply : goal.returns-clause-reply
returns-clause-reply g c =
    let asks = asks_meaning c.args.line.now (sym c.is_passed_over.ensures ∙ c.if-is_passed_over.false) in
    answered_by_meaning c.answer_command.result c.args.line.now _ _ _ _ _ asks c.command_of.ensures.meaning c.answer_command.ensures.memory c.answer_command.ensures.reply
