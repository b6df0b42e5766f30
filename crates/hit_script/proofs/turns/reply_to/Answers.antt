use Rattle.std.proofs.Common.{◌++◌}
use Rattle.hit_script.specs.Answered.{known}
use Rattle.hit_script.specs.Lines.{lines, whole_lines}
use Rattle.hit_script.proofs.Outcomes.{on_ok}
use Rattle.hit_script.proofs.Endings.{handed_all, handed_front}
use Rattle.hit_script.proofs.turns.reply_to.Goals as goal

pub returns-clause-begun : goal.returns-clause-begun
returns-clause-begun g c = on_ok c.write_all.result _ c.in_ok-absorb.ensures.begun

pub returns-clause-room : goal.returns-clause-room
returns-clause-room g c = on_ok c.write_all.result _ c.in_ok-absorb.ensures.room

pub returns-clause-replied : goal.returns-clause-replied
returns-clause-replied g c =
    handed_all c.write_all.result c.args.cutter.now (λ begun. lines (whole_lines (begun ++ c.args.piece.now))) _ _ _ _ c.deref.result.now c.write_all.ensures.ok
    (λ begun has. rw (c.deref.ensures.value) (rw c.new-replies.ensures.items at (c.in_ok-absorb.ensures.replies begun has)))

pub returns-clause-part : goal.returns-clause-part
returns-clause-part g c =
    handed_front c.write_all.result c.args.cutter.now (λ begun. lines (whole_lines (begun ++ c.args.piece.now))) (known (g.D.Desk.page c.args.desk.now) (g.D.Desk.log c.args.desk.now) c.args.pointer.now) (known (g.D.Desk.page c.absorb.new.desk) (g.D.Desk.log c.absorb.new.desk) c.absorb.new.pointer) _ _ c.deref.result.now c.write_all.ensures.part
    (λ begun has. rw (c.deref.ensures.value) (rw c.new-replies.ensures.items at (c.in_ok-absorb.ensures.replies begun has)))
