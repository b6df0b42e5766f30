-- The sides are as the two tests say.
use Rattle.std.proofs.Common.{rules, arith}
use Rattle.std.proofs.lemmas.Int.{ints}
use Rattle.box_tree.proofs.edit.is_resize_in_range.Goals as goal

pub returns-then-is_viewport_side-2 : goal.returns-then-is_viewport_side-2
returns-then-is_viewport_side-2 c =
    let width = c.if-is_viewport_side.ensures.0 (search rules) in
    let height = c.if-is_viewport_side-2.ensures.0 (search rules) in (
      λ test. record {
        width = (omega (arith, ints), omega (arith, ints));
        height = (omega (arith, ints), omega (arith, ints));
        max_in_range = c.is_max_in_range.ensures.0 test;
      },
      λ range. c.is_max_in_range.ensures.1 range.max_in_range,
    )
