use Rattle.std.proofs.Common.{sym, ◌∙◌}
use Rattle.hit_script.proofs.Answering.{answered_long, answered_whole}
use Rattle.hit_script.proofs.answers.answer_cut.Goals as goal

pub returns-in-Long-clause-reply : goal.returns-in-Long-clause-reply
returns-in-Long-clause-reply g c =
    answered_long c.answer_command.result c.args.cutter.now _ _ _ _ (sym c.requires.cut ∙ c.in-Long.is) c.answer_command.ensures.reply

pub returns-in_default-clause-reply : goal.returns-in_default-clause-reply
returns-in_default-clause-reply g c =
    answered_whole c.answer.result c.args.cutter.now c.line.result.now _ _ _ _ (λ long. c.in_default.not-Long (c.requires.cut ∙ long)) c.line.ensures c.answer.ensures.reply
