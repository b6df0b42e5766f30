use Rattle.std.proofs.Common.{◌∙◌, lit≤}
use Rattle.std.proofs.Math.Nat.{le_trans}
use Rattle.std.specs.Int.{w64}
use Rattle.std.proofs.lemmas.Int.{to_z-of_z}
use Rattle.affine.proofs.Bits.{AreRead-bound, narrow}
use Rattle.affine.proofs.points.preimage_y.Goals as goal

pub returns-clause-value : goal.returns-clause-value
returns-clause-value c =
    let parts = AreRead-bound c.args.p.now c.requires.bound in
    let unmoved_y = rw (parts.q, to_z-of_z w64 c.args.y c.ranges.y, parts.f) at c.unmoved.ensures.value in
    let unmoved_x = rw (parts.q, to_z-of_z w64 c.args.x c.ranges.x, parts.e) at c.unmoved-2.ensures.value in
    let read_y = narrow c.unmoved.result (le_trans c.unmoved.ensures.size (lit≤ tt)) in
    let read_x = narrow c.unmoved-2.result (le_trans c.unmoved-2.ensures.size (lit≤ tt)) in
    narrow c.difference_of_products.result (le_trans c.difference_of_products.ensures.size (lit≤ tt))
    ∙ rw (parts.a, read_y, unmoved_y, parts.b, read_x, unmoved_x) at c.difference_of_products.ensures.value
