use Rattle.std.proofs.Common.{◌+◌, ◌*◌, ap₂, ◌∙◌, sym}
use Rattle.hit_script.proofs.WordLaws.{digit_more, spelled_more}
use Rattle.hit_script.proofs.words.number_of.Goals as goal

pub loop-digit-preserved : goal.loop-digit-preserved
loop-digit-preserved c = record {
  spells = ap₂ (λ n d. n * 10 + d) c.loop-digit.invariant.spells c.from.ensures ∙ sym (spelled_more c.args.text.now c.loop-digit.digit-index c.loop-digit-test.true);
  small = rw c.from.ensures (digit_more c.loop-digit.number c.loop-digit.digit-index c.args.text.now c.loop-digit.invariant.small c.loop-digit-test.true c.requires);
}
