use Rattle.std.proofs.Common.{◌≡◌, ◌-◌, ◌≤◌, ◌++◌, length, take, option_map}
use Rattle.hit_script.proofs.transfer.write_all.Given as goal

-- the sink has taken the bytes up to the place
abbrev pub invariant-loop-at : goal.invariant-loop-at
invariant-loop-at g l = record {
  within : l.at ≤ length l.bytes;
  taken : g.K.Sink.taken l.sink ≡ option_map (λ t. t ++ take l.at l.bytes) (g.K.Sink.taken l.fn.sink);
  never_falls : g.K.Sink.faults l.fn.sink ≤ g.K.Sink.faults l.sink;
}

abbrev pub decreases-loop-at : goal.decreases-loop-at
decreases-loop-at g l = length l.bytes - l.at
