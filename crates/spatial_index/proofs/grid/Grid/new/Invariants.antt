use Rattle.std.proofs.Common.{◌≡◌, ◌<◌, ℕ, ◌*◌, get_or, [], replicate, vec_len, vec_capacity}
use Rattle.spatial_index.specs.Cells.{line_count}
use Rattle.spatial_index.specs.Contents.{empty_cell}
use Rattle.spatial_index.proofs.grid.Grid.new.Given as goal

abbrev pub invariant-loop-level : goal.invariant-loop-level
invariant-loop-level l = record {
  cells : (level : ℕ) → level < l.level → get_or l.levels.items level [] ≡ replicate (line_count level l.h * line_count level l.w) empty_cell;
  count : vec_len l.levels ≡ l.level;
  room : vec_capacity l.levels ≡ 10;
}
