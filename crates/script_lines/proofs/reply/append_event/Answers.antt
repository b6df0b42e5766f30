use Rattle.script_lines.proofs.Keeping.{keeps_more}
use Rattle.script_lines.proofs.reply.append_event.Goals as goal

pub returns-clause-kept : goal.returns-clause-kept
returns-clause-kept c =
    keeps_more _ _ _ _ c.in_ok-append_kind.ensures.ok (keeps_more _ _ _ _ c.in_ok-append_number.ensures.ok (keeps_more _ _ _ _ c.in_ok-extend_from_slice.ensures.items c.append_related.ensures.kept))
