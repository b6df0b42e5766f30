-- A node that a walk goes into has fewer levels below it. The items so far, and those of what is left of a list.
use Rattle.std.proofs.Common.{◌≡◌, ◌+◌, ◌*◌, ◌++◌, drop}
use Rattle.std.specs.List.{flat_map}
use Rattle.stacking.specs.Painting.{flat, lines, blocks, floats, painted_piece}
use Rattle.stacking.specs.OnPage.{of_node, line_pieces}
use Rattle.stacking.proofs.NextLemmas.{levels}
use Rattle.stacking.proofs.flat.+walks.Given as goal

abbrev pub decreases-paint_flat : goal.decreases-paint_flat
decreases-paint_flat l = 4 * levels l.page.now.contents l.id + 3

abbrev pub decreases-paint_body : goal.decreases-paint_body
decreases-paint_body l = 4 * levels l.page.now.contents l.id + 2

abbrev pub decreases-paint_floats : goal.decreases-paint_floats
decreases-paint_floats l = 4 * levels l.page.now.contents l.id

abbrev pub decreases-paint_lines : goal.decreases-paint_lines
decreases-paint_lines l = 4 * levels l.page.now.contents l.id + 1

abbrev pub decreases-paint_block_lines : goal.decreases-paint_block_lines
decreases-paint_block_lines l = 4 * levels l.page.now.contents l.id

abbrev pub decreases-paint_parts : goal.decreases-paint_parts
decreases-paint_parts l = 4 * levels l.page.now.contents l.id

abbrev pub invariant-paint_floats-loop-float : goal.invariant-paint_floats-loop-float
invariant-paint_floats-loop-float l = l.items.items ++ flat_map flat (drop l.float-index (of_node floats l.page.contents l.id)) ≡ l.fn.items.items ++ flat_map flat (of_node floats l.page.contents l.id)

abbrev pub invariant-paint_block_lines-loop-block : goal.invariant-paint_block_lines-loop-block
invariant-paint_block_lines-loop-block l = l.items.items ++ flat_map lines (drop l.block-index (of_node blocks l.page.contents l.id)) ≡ l.fn.items.items ++ flat_map lines (of_node blocks l.page.contents l.id)

abbrev pub invariant-paint_parts-loop-part : goal.invariant-paint_parts-loop-part
invariant-paint_parts-loop-part l = l.items.items ++ flat_map (painted_piece flat) (drop l.part-index (of_node line_pieces l.page.contents l.id)) ≡ l.fn.items.items ++ flat_map (painted_piece flat) (of_node line_pieces l.page.contents l.id)
