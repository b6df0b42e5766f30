use Rattle.std.proofs.Common.{◌∙◌}
use Rattle.hit_script.proofs.LoadEndings.{front_of_nothing, front_summed, summed_up}
use Rattle.hit_script.proofs.load.sum_up.Goals as goal

pub returns-in_err-counts-clause-part : goal.returns-in_err-counts-clause-part
returns-in_err-counts-clause-part g c first told = front_of_nothing _ _

pub returns-in_err-line-clause-part : goal.returns-in_err-line-clause-part
returns-in_err-line-clause-part g c first told = front_of_nothing _ _

pub returns-clause-summed : goal.returns-clause-summed
returns-clause-summed g c =
    summed_up c.args.count _ _ _ _ _ _ c.write_all.result c.in_ok-counts.counts c.as_bytes.result.now c.in_ok-counts.ensures.counted (c.as_bytes.ensures.value ∙ c.in_ok-line.ensures) c.write_all.ensures.ok

pub returns-clause-part : goal.returns-clause-part
returns-clause-part g c =
    front_summed c.args.count _ _ _ _ _ _ c.in_ok-counts.counts c.as_bytes.result.now c.in_ok-counts.ensures.counted (c.as_bytes.ensures.value ∙ c.in_ok-line.ensures) c.write_all.ensures.part
