use Rattle.std.proofs.Common.{sym, ◌∙◌}
use Rattle.hit_script.proofs.Answering.{answered_last, appends_nothing}
use Rattle.hit_script.proofs.CutLaws.{no_bytes}
use Rattle.hit_script.proofs.LineLaws.{no_lines}
use Rattle.hit_script.proofs.turns.answer_last.Goals as goal

pub returns-then-length-eq0-clause-replies : goal.returns-then-length-eq0-clause-replies
returns-then-length-eq0-clause-replies g c = λ begun has.
    rw (no_bytes c.args.cutter.now begun has (sym c.length.ensures ∙ c.if-length-eq0.true), no_lines) (appends_nothing _ c.args.out.now.items)

-- A newline changes nothing.
pub returns-clause-replies : goal.returns-clause-replies
returns-clause-replies g c =
    answered_last c.answer_cut.result c.args.cutter.now _ _ _ _ (λ none. c.if-length-eq0.false (c.length.ensures ∙ none)) (rw c.take-cut.ensures.counted at c.answer_cut.ensures.reply)
