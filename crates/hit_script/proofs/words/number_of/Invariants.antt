use Rattle.std.proofs.Common.{◌≡◌, ◌<◌, ◌^◌, take}
use Rattle.hit_script.specs.Words.{spelled}
use Rattle.hit_script.proofs.words.number_of.Given as goal

-- the number that the digits so far spell, which has no more digits than they are
abbrev pub invariant-loop-digit : goal.invariant-loop-digit
invariant-loop-digit l = record {
  spells : l.number ≡ spelled (take l.digit-index l.text);
  small : l.number < 10 ^ l.digit-index;
}
