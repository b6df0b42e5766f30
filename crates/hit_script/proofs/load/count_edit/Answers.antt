use Rattle.hit_script.proofs.CountLaws.{edit_gained}
use Rattle.hit_script.proofs.Logs.{grows_by}
use Rattle.hit_script.proofs.Outcomes.{on_ok}
use Rattle.hit_script.proofs.load.count_edit.Goals as goal

pub returns-clause-counted : goal.returns-clause-counted
returns-clause-counted g c =
    let desk = c.edit-answer.ensures in
    edit_gained c.count_answer.result c.args.edit.now c.edit-answer.result _ _ _ _ _ _ c.count_answer.ensures.memory c.count_answer.ensures.counted desk.accepted desk.answer desk.edited desk.refused desk.same desk.logged

pub edit-answer-requires : goal.edit-answer-requires
edit-answer-requires g c = c.requires.edit

pub returns-in_err-lengthen-clause-log : goal.returns-in_err-lengthen-clause-log
returns-in_err-lengthen-clause-log g c = grows_by c.edit-answer.ensures.logged

pub returns-clause-room : goal.returns-clause-room
returns-clause-room g c = on_ok c.count_answer.result _ (rw c.places.ensures.is at c.in_ok-lengthen.ensures)

pub returns-clause-log : goal.returns-clause-log
returns-clause-log g c = grows_by c.edit-answer.ensures.logged
