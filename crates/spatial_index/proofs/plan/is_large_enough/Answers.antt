use Rattle.std.proofs.Common.{◌≡◌, pos, ◌-ℤ◌, int_le, true, to_z, of_z, w64}
use Rattle.spatial_index.specs.Cells.{side}
use Rattle.spatial_index.proofs.PlanLemmas.{HaveSameBits-inside, is_large_enough-wide, same_bits, side-le}
use Rattle.spatial_index.proofs.plan.is_large_enough.Goals as goal

pub returns-then-bounds-side : goal.returns-then-bounds-side
returns-then-bounds-side c =
    let bounds = c.args.bounds.now in
    let bits = HaveSameBits-inside bounds c.requires.across c.requires.down c.requires.inside in
    let length : to_z w64 (of_z w64 c.from-side.result) ≡ pos (side c.args.level) = rw (c.from-side.ensures, c.side.ensures) (same_bits (pos (side c.args.level)) (side-le c.args.level c.requires.level)) in
    let across : int_le (bounds.r -ℤ bounds.l) (pos (side c.args.level)) ≡ true = simp (length, bits.left, bits.right, bits.width) at c.if-bounds-side.true in
    simp (length, bits.top, bits.bottom, bits.height) (is_large_enough-wide bounds c.args.level across)
