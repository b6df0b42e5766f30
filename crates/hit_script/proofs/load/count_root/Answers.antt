use Rattle.std.proofs.Common.{◌∙◌}
use Rattle.hit_script.proofs.CountLaws.{gains_line}
use Rattle.hit_script.proofs.load.count_root.Goals as goal

pub returns-clause-counted : goal.returns-clause-counted
returns-clause-counted g c = gains_line c.count_line.result _ _ _ _ (c.as_bytes.ensures.value ∙ c.in_ok-line.ensures) c.count_line.ensures.counted
