use Rattle.std.proofs.Common.{arith, ℕ, length-take}
use Rattle.hit_script.proofs.Pieces.{copied_front}
use Rattle.hit_script.proofs.sources.copy_from.Goals as goal

pub returns-clause-copied : goal.returns-clause-copied
returns-clause-copied c =
    copied_front c.args.bytes.now c.copy_from_slice.new.self _ c.args.at c.min-count.result (omega (arith, length-take {A = ℕ})) c.copy_from_slice.ensures.after
