use Rattle.std.proofs.Common.{refl}
use Rattle.hit_script.specs.declared.outcome.Status.TheVariants as status
use Rattle.hit_script.specs.declared.sinks.SinkFault.TheVariants as sink_fault
use Rattle.hit_script.proofs.LoadEndings.{front_of_nothing, load_by_sink, load_done}
use Rattle.hit_script.proofs.Logs.{grows_same}
use Rattle.hit_script.proofs.script.play_load.Goals as goal

pub returns-then-not-is_read_as : goal.returns-then-not-is_read_as
returns-then-not-is_read_as g c = load_by_sink c.args.count _ _ _ _ _ _ _ _ sink_fault.OutOfMemory status.Memory refl (λ e. absurd (cc)) (λ first told. front_of_nothing _ _) (grows_same _)

pub returns-in_default : goal.returns-in_default
returns-in_default g c = load_by_sink c.args.count _ _ _ _ _ _ _ _ sink_fault.OutOfMemory status.Memory refl (λ e. absurd (cc)) (λ first told. front_of_nothing _ _) (grows_same _)

pub returns-in-Ok-sum_up : goal.returns-in-Ok-sum_up
returns-in-Ok-sum_up g c = load_done c.args.count _ _ _ _ _ _ _ _ c.in-Ok-sum_up.ensures.summed c.sum_up.ensures.part c.sum_up.ensures.log

pub returns : goal.returns
returns g c = load_by_sink c.args.count _ _ _ _ _ _ _ _ c.in-Err.fault c.status_of.result c.status_of.ensures (λ e. c.sum_up.ensures.failed (cc)) c.sum_up.ensures.part c.sum_up.ensures.log
