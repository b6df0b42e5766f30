use Rattle.std.proofs.Common.{◌≡◌, ◌≤◌, pos, ◌-ℤ◌, arith}
use Rattle.std.proofs.lemmas.Int.{ints}
use Rattle.spatial_index.specs.Cells.{line_of, level_of}
use Rattle.spatial_index.proofs.PlanLemmas.{AreNear-inside, HaveSameBits-inside, cells_met-some, is_empty-false, line_of-in_order, same_bits, IsInside-largest_from_highest}
use Rattle.spatial_index.proofs.plan.some_cells_met.Goals as goal

pub line_of-bottom-requires-clause-least : goal.line_of-bottom-requires-clause-least
line_of-bottom-requires-clause-least c =
    let bits = HaveSameBits-inside c.args.bounds.now c.requires.across c.requires.down (IsInside-largest_from_highest c.args.width c.args.bounds.now c.requires.width c.requires.inside) in
    simp (bits.bottom, bits.last_y) (omega (arith, ints))

pub line_of-bottom-requires-clause-greatest : goal.line_of-bottom-requires-clause-greatest
line_of-bottom-requires-clause-greatest c =
    let bits = HaveSameBits-inside c.args.bounds.now c.requires.across c.requires.down (IsInside-largest_from_highest c.args.width c.args.bounds.now c.requires.width c.requires.inside) in
    simp (bits.bottom, bits.last_y) (omega (arith, ints))

pub block-requires-clause-right : goal.block-requires-clause-right
block-requires-clause-right c =
    let bounds = c.args.bounds.now in
    let bits = HaveSameBits-inside bounds c.requires.across c.requires.down (IsInside-largest_from_highest c.args.width c.args.bounds.now c.requires.width c.requires.inside) in
    let near = AreNear-inside bounds c.requires.across c.requires.down (IsInside-largest_from_highest c.args.width c.args.bounds.now c.requires.width c.requires.inside) in
    let left : c.line_of-left.result ≡ line_of (level_of bounds) bounds.l = simp (bits.left, c.level_of-level.ensures.level) at c.line_of-left.ensures.line in
    let right : c.line_of-right.result ≡ line_of (level_of bounds) (bounds.r -ℤ pos 1) = simp (bits.right, bits.last_x, c.level_of-level.ensures.level) at c.line_of-right.ensures.line in
    rw (left, right) (near.left_right, near.right_left)

pub block-requires-clause-bottom : goal.block-requires-clause-bottom
block-requires-clause-bottom c =
    let bounds = c.args.bounds.now in
    let bits = HaveSameBits-inside bounds c.requires.across c.requires.down (IsInside-largest_from_highest c.args.width c.args.bounds.now c.requires.width c.requires.inside) in
    let near = AreNear-inside bounds c.requires.across c.requires.down (IsInside-largest_from_highest c.args.width c.args.bounds.now c.requires.width c.requires.inside) in
    let top : c.line_of-top.result ≡ line_of (level_of bounds) bounds.t = simp (bits.top, c.level_of-level.ensures.level) at c.line_of-top.ensures.line in
    let bottom : c.line_of-bottom.result ≡ line_of (level_of bounds) (bounds.b -ℤ pos 1) = simp (bits.bottom, bits.last_y, c.level_of-level.ensures.level) at c.line_of-bottom.ensures.line in
    rw (top, bottom) (near.top_bottom, near.bottom_top)

pub block-requires-clause-columns : goal.block-requires-clause-columns
block-requires-clause-columns c =
    let bounds = c.args.bounds.now in
    let bits = HaveSameBits-inside bounds c.requires.across c.requires.down (IsInside-largest_from_highest c.args.width c.args.bounds.now c.requires.width c.requires.inside) in
    let columns : c.line_of-columns.result ≡ line_of (level_of bounds) c.args.width = simp (same_bits c.args.width (omega (arith, ints)), c.level_of-level.ensures.level) at c.line_of-columns.ensures.line in
    let right : c.line_of-right.result ≡ line_of (level_of bounds) (bounds.r -ℤ pos 1) = simp (bits.right, bits.last_x, c.level_of-level.ensures.level) at c.line_of-right.ensures.line in
    let order : line_of (level_of bounds) (bounds.r -ℤ pos 1) ≤ line_of (level_of bounds) c.args.width = line_of-in_order (level_of bounds) (bounds.r -ℤ pos 1) c.args.width (omega (arith, ints)) (omega (arith, ints)) in
    (omega (arith, columns, right, order), omega (arith, c.line_of-columns.ensures.small))

pub returns-clause-numbers : goal.returns-clause-numbers
returns-clause-numbers c =
    let bounds = c.args.bounds.now in
    let bits = HaveSameBits-inside bounds c.requires.across c.requires.down (IsInside-largest_from_highest c.args.width c.args.bounds.now c.requires.width c.requires.inside) in
    let columns : c.line_of-columns.result ≡ line_of (level_of bounds) c.args.width = simp (same_bits c.args.width (omega (arith, ints)), c.level_of-level.ensures.level) at c.line_of-columns.ensures.line in
    let left : c.line_of-left.result ≡ line_of (level_of bounds) bounds.l = simp (bits.left, c.level_of-level.ensures.level) at c.line_of-left.ensures.line in
    let right : c.line_of-right.result ≡ line_of (level_of bounds) (bounds.r -ℤ pos 1) = simp (bits.right, bits.last_x, c.level_of-level.ensures.level) at c.line_of-right.ensures.line in
    let top : c.line_of-top.result ≡ line_of (level_of bounds) bounds.t = simp (bits.top, c.level_of-level.ensures.level) at c.line_of-top.ensures.line in
    let bottom : c.line_of-bottom.result ≡ line_of (level_of bounds) (bounds.b -ℤ pos 1) = simp (bits.bottom, bits.last_y, c.level_of-level.ensures.level) at c.line_of-bottom.ensures.line in
    let met = cells_met-some c.args.width bounds (is_empty-false bounds c.requires.across c.requires.down) in
    rw met (rw (columns, left, right, top, bottom) at c.block.ensures.numbers)
