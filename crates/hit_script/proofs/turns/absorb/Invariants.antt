use Rattle.std.proofs.Common.{◌≡◌, ◌≤◌, ◌+◌, ◌-◌, ◌^◌, ◌++◌, ℕ, List, length, take}
use Rattle.hit_script.specs.Answered.{Answers, Appends, IsSpotted, known}
use Rattle.hit_script.specs.Cutting.{counted}
use Rattle.hit_script.specs.Lines.{HasBegun, lines, whole_lines, unfinished}
use Rattle.hit_script.specs.Log.{Grows}
use Rattle.hit_script.specs.Room.{HasRoom}
use Rattle.hit_script.proofs.turns.absorb.Given as goal

-- the lines that are whole so far are answered, and the line that is begun is counted
abbrev pub invariant-loop-at : goal.invariant-loop-at
invariant-loop-at g l = record {
  within : l.at ≤ length l.piece;
  fits : l.cutter.count + (length l.piece - l.at) ≤ 2 ^ 32;
  begun : (begun : List ℕ) → HasBegun l.fn.cutter begun → l.cutter ≡ counted (unfinished (begun ++ take l.at l.piece));
  spot : IsSpotted l.pointer;
  room : HasRoom (g.D.Desk.places l.desk) l.room.items;
  log : Grows (g.D.Desk.log l.fn.desk) (g.D.Desk.log l.desk);
  answered : (begun : List ℕ) → HasBegun l.fn.cutter begun → Appends (Answers (lines (whole_lines (begun ++ take l.at l.piece))) (known (g.D.Desk.page l.fn.desk) (g.D.Desk.log l.fn.desk) l.fn.pointer) (known (g.D.Desk.page l.desk) (g.D.Desk.log l.desk) l.pointer)) l.fn.out.items l.out.items;
}

abbrev pub decreases-loop-at : goal.decreases-loop-at
decreases-loop-at g l = length l.piece - l.at
