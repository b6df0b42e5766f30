-- How a run ends.
use Rattle.std.specs.Prelude.{ℕ}
use Rattle.hit_script.specs.declared.sinks.SinkFault.{SinkFault}
use Rattle.hit_script.specs.declared.sinks.SinkFault.TheVariants as sink
use Rattle.hit_script.specs.declared.outcome.Status.{Status}
use Rattle.hit_script.specs.declared.outcome.Status.TheVariants.{Done, Usage, ReadFault, WriteFault, Memory, TooMuch}

-- the number that the program ends with
abbrev pub status_number : Status → ℕ
status_number Done = 0
status_number Usage = 2
status_number ReadFault = 4
status_number WriteFault = 5
status_number Memory = 6
status_number TooMuch = 7

-- the status of a run whose sink failed, or wanted memory
abbrev pub fault_status : SinkFault → Status
fault_status sink.Failed = WriteFault
fault_status sink.OutOfMemory = Memory
