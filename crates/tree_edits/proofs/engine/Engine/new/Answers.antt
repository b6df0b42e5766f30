-- What is kept beside an empty page is empty.
use Rattle.std.proofs.Common.{to_z, of_z, w64}
use Rattle.tree_edits.proofs.RenewalLemmas.{faithful-empty}
use Rattle.tree_edits.proofs.engine.Engine.new.Goals as goal

pub invariant_of-result : goal.invariant_of-result
invariant_of-result c =
    let kept = c.in_ok-new.field-0 in
    let w = to_z w64 (of_z w64 c.args.w) in
    let h = to_z w64 (of_z w64 c.args.h) in
    faithful-empty w h c.new-page.result.contents c.new-page.result.items kept c.new-page.ensures c.numbering.ensures c.in_ok-new.ensures.spaces c.in_ok-new.ensures.forest c.in_ok-new.ensures.region c.in_ok-new.ensures.bounds
