use Rattle.hit_script.specs.Answered.{known}
use Rattle.hit_script.specs.Lines.{lines}
use Rattle.hit_script.proofs.Endings.{handed_all, handed_front}
use Rattle.hit_script.proofs.turns.reply_to_last.Goals as goal

pub returns-clause-replied : goal.returns-clause-replied
returns-clause-replied g c =
    handed_all c.write_all.result c.args.cutter.now lines _ _ _ _ c.deref.result.now c.write_all.ensures.ok
    (λ begun has. rw (c.deref.ensures.value) (rw c.new-reply.ensures.items at (c.in_ok-answer_last.ensures.replies begun has)))

pub returns-clause-part : goal.returns-clause-part
returns-clause-part g c =
    handed_front c.write_all.result c.args.cutter.now lines (known (g.D.Desk.page c.args.desk.now) (g.D.Desk.log c.args.desk.now) c.args.pointer.now) (known (g.D.Desk.page c.answer_last.new.desk) (g.D.Desk.log c.answer_last.new.desk) c.answer_last.new.pointer) _ _ c.deref.result.now c.write_all.ensures.part
    (λ begun has. rw (c.deref.ensures.value) (rw c.new-reply.ensures.items at (c.in_ok-answer_last.ensures.replies begun has)))
