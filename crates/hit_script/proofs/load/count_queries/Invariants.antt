use Rattle.std.proofs.Common.{◌-◌, ◌≤◌, map}
use Rattle.std.specs.List.{range_with_len}
use Rattle.hit_script.specs.Load.{diagonal_line}
use Rattle.hit_script.specs.Log.{Grows}
use Rattle.hit_script.specs.Room.{HasRoom}
use Rattle.hit_script.specs.Tallied.{Gains, Tallies, unmoved}
use Rattle.hit_script.proofs.load.count_queries.Given as goal

-- the queries so far are counted
abbrev pub invariant-loop-j : goal.invariant-loop-j
invariant-loop-j g l = record {
  within : l.j ≤ 16;
  room : HasRoom (g.D.Desk.places l.desk) l.room.items;
  log : Grows (g.D.Desk.log l.fn.desk) (g.D.Desk.log l.desk);
  counted : Gains (Tallies (map diagonal_line (range_with_len 0 l.j)) (unmoved (g.D.Desk.page l.fn.desk) (g.D.Desk.log l.fn.desk)) (unmoved (g.D.Desk.page l.desk) (g.D.Desk.log l.desk))) l.fn.counts l.counts;
}

abbrev pub decreases-loop-j : goal.decreases-loop-j
decreases-loop-j g l = 16 - l.j
