use Rattle.std.proofs.Common.{◌-◌, ◌≤◌, ◌++◌, ℕ, length, length-take, length-drop, take, drop, sym, ap, ◌∙◌, arith}
use Rattle.std.proofs.lemmas.List.{append-nil, take_all}
use Rattle.hit_script.specs.Cutting.{counted}
use Rattle.hit_script.specs.Lines.{HasBegun, lines, whole_lines, unfinished}
use Rattle.hit_script.proofs.Answering.{appends_nothing, appends_both}
use Rattle.hit_script.proofs.CutLaws.{next_part}
use Rattle.hit_script.proofs.LineLaws.{unfinished_none, unfinished_more, newline_not_unfinished, whole_lines_none, no_lines}
use Rattle.hit_script.proofs.Logs.{grows_same, grows_both}
use Rattle.hit_script.proofs.Runs.{lines_more}
use Rattle.hit_script.proofs.turns.absorb.Goals as goal

pub loop-at-init : goal.loop-at-init
loop-at-init g c = record {
  within = omega arith;
  fits = omega (arith, c.requires.fits);
  spot = c.requires.spot;
  room = c.requires.room;
  begun = λ begun has. rw (append-nil begun, unfinished_none begun has.open_line) has.counts;
  log = grows_same _;
  answered = λ begun has. rw (append-nil begun, whole_lines_none begun has.open_line, no_lines) (appends_nothing _ c.args.out.now.items);
}

pub loop-at-preserved : goal.loop-at-preserved
loop-at-preserved g c =
    let piece = c.args.piece.now in
    let at = c.loop-at.at in
    let kept = c.loop-at.invariant in
    let taken = c.in_ok-at.ensures in
    let n = c.in_ok-at.field-0 in
    let part = take n (take (length piece - at) (drop at piece)) in
    record {
      within = omega (arith, taken.within, length-take {A = ℕ}, length-drop {A = ℕ});
      fits = omega (arith, kept.fits, taken.fits, taken.within, length-take {A = ℕ}, length-drop {A = ℕ});
      begun = λ begun has.
          let so_far = begun ++ take at piece in
          let next : HasBegun c.loop-at.cutter (unfinished so_far) = record { counts = kept.begun begun has; open_line = newline_not_unfinished so_far } in
          taken.begun (unfinished so_far) next ∙ ap counted (sym (unfinished_more so_far part) ∙ ap unfinished (sym (next_part begun piece at n)));
      spot = c.take_part.ensures.spot;
      room = taken.room;
      log = grows_both kept.log c.take_part.ensures.log;
      answered = λ begun has.
          let so_far = begun ++ take at piece in
          let next : HasBegun c.loop-at.cutter (unfinished so_far) = record { counts = kept.begun begun has; open_line = newline_not_unfinished so_far } in
          rw (next_part begun piece at n, lines_more so_far part) (appends_both (lines (whole_lines so_far)) (lines (whole_lines (unfinished so_far ++ part))) c.args.out.now.items (kept.answered begun has) (taken.replies (unfinished so_far) next));
    }

pub take_part-requires-clause-spot : goal.take_part-requires-clause-spot
take_part-requires-clause-spot g c = c.loop-at.invariant.spot

pub take_part-requires-clause-room : goal.take_part-requires-clause-room
take_part-requires-clause-room g c = c.loop-at.invariant.room

pub returns-in_err-at-clause-spot : goal.returns-in_err-at-clause-spot
returns-in_err-at-clause-spot g c = c.take_part.ensures.spot

pub returns-in_err-at-clause-log : goal.returns-in_err-at-clause-log
returns-in_err-at-clause-log g c = grows_both c.loop-at.invariant.log c.take_part.ensures.log

pub returns-clause-begun : goal.returns-clause-begun
returns-clause-begun g c =
    let over : length c.args.piece.now ≤ c.loop-at.at = omega (arith, c.loop-at-test.false) in
    rw (take_all c.loop-at.at c.args.piece.now over) at c.loop-at.invariant.begun

pub returns-clause-spot : goal.returns-clause-spot
returns-clause-spot g c = c.loop-at.invariant.spot

pub returns-clause-room : goal.returns-clause-room
returns-clause-room g c = c.loop-at.invariant.room

pub returns-clause-log : goal.returns-clause-log
returns-clause-log g c = c.loop-at.invariant.log

pub returns-clause-replies : goal.returns-clause-replies
returns-clause-replies g c =
    let over : length c.args.piece.now ≤ c.loop-at.at = omega (arith, c.loop-at-test.false) in
    rw (take_all c.loop-at.at c.args.piece.now over) at c.loop-at.invariant.answered
