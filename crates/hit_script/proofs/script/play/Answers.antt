use Rattle.std.proofs.Common.{refl, ◌∙◌, arith}
use Rattle.hit_script.specs.Ending.{Moment}
use Rattle.hit_script.specs.declared.outcome.Status.TheVariants as status
use Rattle.hit_script.specs.declared.sinks.SinkFault.TheVariants as sink_fault
use Rattle.hit_script.proofs.Progress.{stands_first}
use Rattle.hit_script.proofs.Endings.{front_so_far, short_so_far, ends_by_sink}
use Rattle.hit_script.proofs.script.play.Goals as goal

pub returns-in_default : goal.returns-in_default
returns-in_default g c =
    let start : Moment = record { left = g.S.Source.left c.args.source.now; taken = g.K.Sink.taken c.args.sink.now; page = g.D.Desk.page c.args.desk.now; log = g.D.Desk.log c.args.desk.now; read_faults = g.S.Source.faults c.args.source.now; write_faults = g.K.Sink.faults c.args.sink.now } in
    let stands = stands_first start in
    ends_by_sink sink_fault.OutOfMemory status.Memory start start refl (λ e. absurd (cc)) (front_so_far stands) (short_so_far stands (omega arith)) stands.log_grows

pub returns-in_default-new : goal.returns-in_default-new
returns-in_default-new g c =
    let start : Moment = record { left = g.S.Source.left c.args.source.now; taken = g.K.Sink.taken c.args.sink.now; page = g.D.Desk.page c.args.desk.now; log = g.D.Desk.log c.args.desk.now; read_faults = g.S.Source.faults c.args.source.now; write_faults = g.K.Sink.faults c.args.sink.now } in
    let stands = stands_first start in
    ends_by_sink sink_fault.OutOfMemory status.Memory start start refl (λ e. absurd (cc)) (front_so_far stands) (short_so_far stands (omega arith)) stands.log_grows

pub returns-in_default-new-2 : goal.returns-in_default-new-2
returns-in_default-new-2 g c =
    let start : Moment = record { left = g.S.Source.left c.args.source.now; taken = g.K.Sink.taken c.args.sink.now; page = g.D.Desk.page c.args.desk.now; log = g.D.Desk.log c.args.desk.now; read_faults = g.S.Source.faults c.args.source.now; write_faults = g.K.Sink.faults c.args.sink.now } in
    let stands = stands_first start in
    ends_by_sink sink_fault.OutOfMemory status.Memory start start refl (λ e. absurd (cc)) (front_so_far stands) (short_so_far stands (omega arith)) stands.log_grows

pub returns-in_default-room_for : goal.returns-in_default-room_for
returns-in_default-room_for g c =
    let start : Moment = record { left = g.S.Source.left c.args.source.now; taken = g.K.Sink.taken c.args.sink.now; page = g.D.Desk.page c.args.desk.now; log = g.D.Desk.log c.args.desk.now; read_faults = g.S.Source.faults c.args.source.now; write_faults = g.K.Sink.faults c.args.sink.now } in
    let stands = stands_first start in
    ends_by_sink sink_fault.OutOfMemory status.Memory start start refl (λ e. absurd (cc)) (front_so_far stands) (short_so_far stands (omega arith)) stands.log_grows

pub play_pieces-requires-clause-piece : goal.play_pieces-requires-clause-piece
play_pieces-requires-clause-piece g c = c.deref_mut.ensures.len ∙ c.in-Ok.ensures.len

pub play_pieces-requires-clause-cutter : goal.play_pieces-requires-clause-cutter
play_pieces-requires-clause-cutter g c = c.in-Ok-new.ensures

pub play_pieces-requires-clause-room : goal.play_pieces-requires-clause-room
play_pieces-requires-clause-room g c = rw c.places.ensures.is at c.in-Ok-room_for.ensures

pub play_pieces-requires-clause-pointer : goal.play_pieces-requires-clause-pointer
play_pieces-requires-clause-pointer g c = c.in-Ok-new-2.ensures

pub returns : goal.returns
returns g c = c.play_pieces.ensures

-- What a cutter and a pointer are inside stays the same where they are lent.

pub same-cutter : goal.same-cutter
same-cutter g c = refl

pub same-pointer : goal.same-pointer
same-pointer g c = refl
