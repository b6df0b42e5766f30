use Rattle.std.proofs.Common.{◌-◌, ◌≤◌}
use Rattle.std.specs.List.{flat_map, range_with_len}
use Rattle.hit_script.specs.Load.{block_lines}
use Rattle.hit_script.specs.Log.{Grows}
use Rattle.hit_script.specs.Room.{HasRoom}
use Rattle.hit_script.specs.Tallied.{Gains, Tallies, unmoved}
use Rattle.hit_script.proofs.load.count_blocks.Given as goal

-- the blocks so far are counted
abbrev pub invariant-loop-i : goal.invariant-loop-i
invariant-loop-i g l = record {
  within : l.i ≤ l.count;
  room : HasRoom (g.D.Desk.places l.desk) l.room.items;
  log : Grows (g.D.Desk.log l.fn.desk) (g.D.Desk.log l.desk);
  counted : Gains (Tallies (flat_map block_lines (range_with_len 0 l.i)) (unmoved (g.D.Desk.page l.fn.desk) (g.D.Desk.log l.fn.desk)) (unmoved (g.D.Desk.page l.desk) (g.D.Desk.log l.desk))) l.fn.counts l.counts;
}

abbrev pub decreases-loop-i : goal.decreases-loop-i
decreases-loop-i g l = l.count - l.i
