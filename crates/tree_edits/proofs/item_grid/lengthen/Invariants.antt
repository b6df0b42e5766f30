-- The slots that come have no bounds, and there is room for all of them.
use Rattle.std.proofs.Common.{◌≡◌, ◌+◌, ◌≤◌, ◌++◌, replicate, vec_len, vec_capacity}
use Rattle.affine.specs.Hull.{no_rect}
use Rattle.tree_edits.proofs.item_grid.lengthen.Given as goal

abbrev pub invariant-loop : goal.invariant-loop
invariant-loop l = record {
  items : l.bounds.items ≡ l.initial.bounds.items ++ replicate l.counter no_rect;
  len : vec_len l.bounds ≡ vec_len l.initial.bounds + l.counter;
  room : vec_len l.initial.bounds + l.missing ≤ vec_capacity l.bounds;
}
