use Rattle.std.proofs.Common.{◌≡◌, vec_len, vec_capacity, replicate}
use Rattle.spatial_index.specs.Contents.{empty_cell}
use Rattle.spatial_index.proofs.level.Level.new.Given as goal

abbrev pub invariant-loop-number : goal.invariant-loop-number
invariant-loop-number l = record {
  cells : l.cells.items ≡ replicate l.number empty_cell;
  count : vec_len l.cells ≡ l.number;
  room : vec_capacity l.cells ≡ l.count;
}
