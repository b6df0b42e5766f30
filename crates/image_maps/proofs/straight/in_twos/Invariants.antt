use Rattle.std.proofs.Common.{◌≡◌, ◌*◌, ◌++◌, drop}
use Rattle.image_maps.specs.Area.{in_twos}
use Rattle.image_maps.proofs.straight.in_twos.Given as goal

abbrev pub invariant-loop-k : goal.invariant-loop-k
invariant-loop-k l = l.points.items ++ in_twos (drop (2 * l.k) l.numbers) ≡ in_twos l.numbers
