use Rattle.std.proofs.Common.{ℕ, ◌∙◌, length-take, length-drop, arith}
use Rattle.hit_script.proofs.Pieces.{taken_more}
use Rattle.hit_script.proofs.transfer.write_all.Goals as goal

pub loop-at-preserved : goal.loop-at-preserved
loop-at-preserved g c =
    let before = g.K.Sink.taken c.args.sink.now in
    let kept = c.loop-at.invariant in
    record {
      within = omega (arith, c.in_ok-at.ensures.within, length-take {A = ℕ}, length-drop {A = ℕ});
      taken = c.in_ok-at.ensures.taken ∙ (rw kept.taken (taken_more before c.args.bytes.now c.loop-at.at c.in_ok-at.field-0));
      never_falls = omega (arith, kept.never_falls, c.write.ensures.never_falls);
    }
