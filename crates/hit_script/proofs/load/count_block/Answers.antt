use Rattle.std.proofs.Common.{[], ◌∷◌, ◌∙◌}
use Rattle.hit_script.specs.Load.{block_line, section_lines}
use Rattle.hit_script.proofs.CountLaws.{gains_line, gains_then}
use Rattle.hit_script.proofs.Logs.{grows_both}
use Rattle.hit_script.proofs.load.count_block.Goals as goal

pub returns-in_err-line-clause-log : goal.returns-in_err-line-clause-log
returns-in_err-line-clause-log g c = c.count_section.ensures.log

pub returns-clause-log : goal.returns-clause-log
returns-clause-log g c = grows_both c.count_section.ensures.log c.count_line.ensures.log

pub returns-clause-counted : goal.returns-clause-counted
returns-clause-counted g c = gains_then c.count_line.result (section_lines c.args.i) (block_line c.args.i ∷ []) _ _ _ _ _ _ c.in_ok-count_section.ensures.counted
    (gains_line c.count_line.result _ _ _ _ (c.as_bytes.ensures.value ∙ c.in_ok-line.ensures) c.count_line.ensures.counted)
