use Rattle.std.proofs.Common.{◌≡◌, ◌∙◌, sym, arith}
use Rattle.spatial_index.proofs.PlanLemmas.{least_level-here, least_level-next, least_level-last, level_of-some}
use Rattle.spatial_index.proofs.plan.level_of.Goals as goal

pub returns-then-is_large_enough-clause-level : goal.returns-then-is_large_enough-clause-level
returns-then-is_large_enough-clause-level c =
    sym (level_of-some c.args.bounds.now c.requires.across c.requires.down ∙ (c.loop-level.invariant ∙ least_level-here c.args.bounds.now c.loop-level.level c.loop-level-test.true (sym c.is_large_enough.ensures ∙ c.if-is_large_enough.true)))

pub loop-level-preserved : goal.loop-level-preserved
loop-level-preserved c =
    c.loop-level.invariant ∙ least_level-next c.args.bounds.now c.loop-level.level c.loop-level-test.true (sym c.is_large_enough.ensures ∙ c.if-is_large_enough.false)

pub returns-clause-level : goal.returns-clause-level
returns-clause-level c =
    let last : c.loop-level.level ≡ 9 = omega arith in
    sym (level_of-some c.args.bounds.now c.requires.across c.requires.down ∙ (c.loop-level.invariant ∙ rw last (least_level-last c.args.bounds.now 9)))
