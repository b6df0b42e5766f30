use Rattle.std.proofs.Common.{◌<◌, arith}
use Rattle.spatial_index.proofs.PlanLemmas.{rising_two, rising_four, next_row}
use Rattle.spatial_index.proofs.plan.block.Goals as goal
use Rattle.spatial_index.proofs.plan.block.Goals.{in-true-true, in-true-false, in-false-true, in-false-false}

pub returns-clause-rising : goal.returns-clause-rising
returns-clause-rising c =
    elim c.if-left-right.branch [
      | in-true-true w ↦ rw w.count-is (λ i inside. absurd (omega arith))
      | in-true-false w ↦
          rw w.count-is
          (let rows : c.args.top < c.args.bottom = omega (arith, w.in-true-false.is-1) in
          rising_two _ _ (omega (arith, next_row c.args.columns c.args.top c.args.bottom rows)))
      | in-false-true w ↦ rw w.count-is (rising_two _ _ (omega (arith, w.in-false-true.is-0)))
      | in-false-false w ↦
          rw w.count-is
          (let rows : c.args.top < c.args.bottom = omega (arith, w.in-false-false.is-1) in
          rising_four _ _ _ _ (omega arith) (omega (arith, next_row c.args.columns c.args.top c.args.bottom rows)) (omega arith))
    ]
