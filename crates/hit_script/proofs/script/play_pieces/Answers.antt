use Rattle.std.proofs.Common.{rules, ◌<◌, ◌+◌, ◌^◌, [], length, take, Ok, Err, ap, sym, ◌∙◌, arith}
use Rattle.hit_script.specs.Ending.{Moment}
use Rattle.hit_script.proofs.Logs.{grows_both}
use Rattle.hit_script.proofs.Pieces.{front_length}
use Rattle.hit_script.proofs.Progress.{reads_first, reads_more, count_within, rose_since}
use Rattle.hit_script.proofs.Endings.{front_in_piece, front_in_last, short_with_piece, ends_by_sink, ends_by_source, ends_too_much, ends_done}
use Rattle.hit_script.proofs.script.play_pieces.Goals as goal

pub pieces-init : goal.pieces-init
pieces-init g c =
    record {
      reads = rw (c.requires.cutter, c.requires.pointer) (reads_first _);
      spot = rw c.requires.pointer tt;
      below = omega arith;
      room = c.requires.piece;
      answers = c.requires.room;
    }

pub room_after-requires : goal.room_after-requires
room_after-requires g c = c.pieces.invariant.below

pub read_piece-requires-clause-some : goal.read_piece-requires-clause-some
read_piece-requires-clause-some g c = c.room_after.ensures.some

pub read_piece-requires-clause-room : goal.read_piece-requires-clause-room
read_piece-requires-clause-room g c = omega (arith, c.room_after.ensures.piece, c.pieces.invariant.room)

pub returns-in_default : goal.returns-in_default
returns-in_default g c =
    let kept = c.pieces.invariant in
    let failed = c.in_default.ensures in
    rw failed.unchanged (ends_by_source kept.reads.stands kept.below (g.S.Source.faults c.read_piece.new.source) (rose_since _ _ _ kept.reads.stands.read_faults failed.failed))

pub overflow_add-read : goal.overflow_add-read
overflow_add-read g c =
    let sum : c.pieces.read + c.in-Ok.count < 2 ^ 64 = omega (arith, c.in-Ok.ensures.within, c.room_after.ensures.most) in
    search rules

-- The bytes that were read are the front of the buffer, as many as the source said.

pub returns-then-read-eq-MOST : goal.returns-then-read-eq-MOST
returns-then-read-eq-MOST g c =
    let kept = c.pieces.invariant in
    let reads = c.in-Ok.ensures in
    let size = c.read_piece.auto.piece ∙ kept.room in
    let long = front_length c.read_piece.new.piece c.in-Ok.count c.room_after.result _ reads.within c.room_after.ensures.piece size in
    ends_too_much kept.reads.stands (g.S.Source.left c.read_piece.new.source) (g.S.Source.faults c.read_piece.new.source) (take c.in-Ok.count c.read_piece.new.piece) reads.read (rw long c.if-read-eq-MOST.true)

pub slice_bounds-reply_to-end : goal.slice_bounds-reply_to-end
slice_bounds-reply_to-end g c =
    omega (arith, c.in-Ok.ensures.within, c.room_after.ensures.piece, c.read_piece.auto.piece, c.pieces.invariant.room)

pub slice_bounds-reply_to-end-in-pieces : goal.slice_bounds-reply_to-end-in-pieces
slice_bounds-reply_to-end-in-pieces g c =
    sym (front_length c.read_piece.new.piece c.in-Ok.count c.room_after.result _ c.in-Ok.ensures.within c.room_after.ensures.piece (c.read_piece.auto.piece ∙ c.pieces.invariant.room))

pub reply_to-replied-requires-clause-spot : goal.reply_to-replied-requires-clause-spot
reply_to-replied-requires-clause-spot g c = c.pieces.invariant.spot

pub reply_to-replied-requires-clause-room : goal.reply_to-replied-requires-clause-room
reply_to-replied-requires-clause-room g c = c.pieces.invariant.answers

pub reply_to-replied-requires-clause-fits : goal.reply_to-replied-requires-clause-fits
reply_to-replied-requires-clause-fits g c =
    let kept = c.pieces.invariant in
    let long = front_length c.read_piece.new.piece c.in-Ok.count c.room_after.result _ c.in-Ok.ensures.within c.room_after.ensures.piece (c.read_piece.auto.piece ∙ kept.room) in
    omega (arith, long, count_within kept.reads, c.in-Ok.ensures.within, c.room_after.ensures.most)

pub returns-in-Err : goal.returns-in-Err
returns-in-Err g c =
    let finish : Moment = record { left = g.S.Source.left c.read_piece.new.source; taken = g.K.Sink.taken c.reply_to-replied.new.sink; page = g.D.Desk.page c.reply_to-replied.new.desk; log = g.D.Desk.log c.reply_to-replied.new.desk; read_faults = g.S.Source.faults c.read_piece.new.source; write_faults = g.K.Sink.faults c.reply_to-replied.new.sink } in
    let kept = c.pieces.invariant in
    let reads = c.in-Ok.ensures in
    let count = c.in-Ok.count in
    let bytes = take count c.read_piece.new.piece in
    let filled = c.read_piece.auto.piece in
    let long = front_length c.read_piece.new.piece count c.room_after.result _ reads.within c.room_after.ensures.piece (filled ∙ kept.room) in
    let part = rw c.in-Err.is at c.reply_to-replied.ensures.part in
    let line = kept.reads.begun in
    let below : c.pieces.read + length bytes < 2 ^ 32 = omega (arith, long, reads.within, c.room_after.ensures.most, c.if-read-eq-MOST.false) in
    ends_by_sink c.in-Err.fault c.status_of.result _ finish c.status_of.ensures
    (λ e. rose_since _ _ _ kept.reads.stands.write_faults (c.reply_to-replied.ensures.failed (c.in-Err.is ∙ ap Err e)))
    (front_in_piece kept.reads.stands finish bytes reads.read (part line kept.reads.has_begun))
    (short_with_piece kept.reads.stands finish bytes reads.read below)
    (grows_both kept.reads.stands.log_grows c.reply_to-replied.ensures.log)

pub pieces-smaller : goal.pieces-smaller
pieces-smaller g c = omega (arith, c.in-Ok.ensures.within, c.room_after.ensures.most, c.if-count-eq0.false, c.if-read-eq-MOST.false)

pub pieces-preserved : goal.pieces-preserved
pieces-preserved g c =
    let kept = c.pieces.invariant in
    let reads = c.in-Ok.ensures in
    let count = c.in-Ok.count in
    let bytes = take count c.read_piece.new.piece in
    let filled = c.read_piece.auto.piece in
    let long = front_length c.read_piece.new.piece count c.room_after.result _ reads.within c.room_after.ensures.piece (filled ∙ kept.room) in
    let begun = c.in_default-replied.ensures.begun in
    let replied = c.in_default-replied.ensures.replied in
    let line = kept.reads.begun in
    record {
      reads = rw long at (reads_more _ _ bytes _ kept.reads reads.read (begun line kept.reads.has_begun) (replied line kept.reads.has_begun) c.reply_to-replied.ensures.log c.read_piece.ensures.never_falls c.reply_to-replied.ensures.never_falls);
      spot = c.reply_to-replied.ensures.spot;
      below = omega (arith, reads.within, c.room_after.ensures.most, c.if-read-eq-MOST.false);
      room = c.read_piece.auto.piece ∙ kept.room;
      answers = c.in_default-replied.ensures.room;
    }

pub reply_to_last-requires-clause-spot : goal.reply_to_last-requires-clause-spot
reply_to_last-requires-clause-spot g c = c.pieces.invariant.spot

pub reply_to_last-requires-clause-room : goal.reply_to_last-requires-clause-room
reply_to_last-requires-clause-room g c = c.pieces.invariant.answers

pub reply_to_last-requires-clause-fits : goal.reply_to_last-requires-clause-fits
reply_to_last-requires-clause-fits g c = omega (arith, count_within c.pieces.invariant.reads, c.pieces.invariant.below)

pub returns-in-Ok-reply_to_last : goal.returns-in-Ok-reply_to_last
returns-in-Ok-reply_to_last g c =
    let kept = c.pieces.invariant in
    let none = c.if-count-eq0.true in
    let reads = rw none at c.in-Ok.ensures.read in
    let ended = c.in-Ok.ensures.end (ap Ok none) in
    ends_done kept.reads.stands kept.below _ _ reads ended (c.in-Ok-reply_to_last.ensures.replied kept.reads.begun kept.reads.has_begun) c.reply_to_last.ensures.log

pub returns-in-Err-reply_to_last : goal.returns-in-Err-reply_to_last
returns-in-Err-reply_to_last g c =
    let finish : Moment = record { left = g.S.Source.left c.read_piece.new.source; taken = g.K.Sink.taken c.reply_to_last.new.sink; page = g.D.Desk.page c.reply_to_last.new.desk; log = g.D.Desk.log c.reply_to_last.new.desk; read_faults = g.S.Source.faults c.read_piece.new.source; write_faults = g.K.Sink.faults c.reply_to_last.new.sink } in
    let kept = c.pieces.invariant in
    let none = c.if-count-eq0.true in
    let reads = rw none at c.in-Ok.ensures.read in
    let ended = c.in-Ok.ensures.end (ap Ok none) in
    let part = rw c.in-Err-reply_to_last.is at c.reply_to_last.ensures.part in
    let below : c.pieces.read + 0 < 2 ^ 32 = omega (arith, kept.below) in
    ends_by_sink c.in-Err-reply_to_last.fault c.status_of-in-Err-reply_to_last.result _ finish c.status_of-in-Err-reply_to_last.ensures
    (λ e. rose_since _ _ _ kept.reads.stands.write_faults (c.reply_to_last.ensures.failed (c.in-Err-reply_to_last.is ∙ ap Err e)))
    (front_in_last kept.reads.stands finish reads ended (part kept.reads.begun kept.reads.has_begun))
    (short_with_piece kept.reads.stands finish [] reads below)
    (grows_both kept.reads.stands.log_grows c.reply_to_last.ensures.log)
