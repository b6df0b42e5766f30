use Rattle.std.proofs.Common.{◌∙◌}
use Rattle.hit_script.proofs.CountLaws.{gains_as, gains_line, gains_none, sections_none, sections_one}
use Rattle.hit_script.proofs.load.count_section.Goals as goal

pub returns-then-i-ne0-clause-counted : goal.returns-then-i-ne0-clause-counted
returns-then-i-ne0-clause-counted g c = gains_none _ _ (sections_none c.args.i c.if-i-ne0.true)

pub returns-clause-counted : goal.returns-clause-counted
returns-clause-counted g c = gains_as c.count_line.result _ _ _ _ (sections_one c.args.i c.if-i-ne0.false) (gains_line c.count_line.result _ _ _ _ (c.as_bytes.ensures.value ∙ c.in_ok-line.ensures) c.count_line.ensures.counted)
