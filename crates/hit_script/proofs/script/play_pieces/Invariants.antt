use Rattle.std.proofs.Common.{◌≡◌, ◌<◌, ◌-◌, ◌^◌, length}
use Rattle.hit_script.specs.Answered.{IsSpotted}
use Rattle.hit_script.specs.Ending.{Moment}
use Rattle.hit_script.specs.Room.{HasRoom}
use Rattle.hit_script.proofs.Progress.{Reads}
use Rattle.hit_script.proofs.script.play_pieces.Given as goal

-- the run has come so far
abbrev pub invariant-pieces : goal.invariant-pieces
invariant-pieces g l =
    let start : Moment = record { left = g.S.Source.left l.fn.source; taken = g.K.Sink.taken l.fn.sink; page = g.D.Desk.page l.fn.desk; log = g.D.Desk.log l.fn.desk; read_faults = g.S.Source.faults l.fn.source; write_faults = g.K.Sink.faults l.fn.sink } in
    let now : Moment = record { left = g.S.Source.left l.source; taken = g.K.Sink.taken l.sink; page = g.D.Desk.page l.desk; log = g.D.Desk.log l.desk; read_faults = g.S.Source.faults l.source; write_faults = g.K.Sink.faults l.sink } in
    record {
      reads : Reads start now l.read l.cutter l.pointer;
      spot : IsSpotted l.pointer;
      below : l.read < 2 ^ 32;
      room : length l.piece ≡ 2 ^ 16;
      answers : HasRoom (g.D.Desk.places l.desk) l.room.items;
    }

abbrev pub decreases-pieces : goal.decreases-pieces
decreases-pieces g l = 2 ^ 32 - l.read
