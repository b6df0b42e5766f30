use Rattle.std.proofs.Common.{◌≡◌, ℤ, pos, ◌≤ℤ◌, get_or, arith, sym, ap, ◌∙◌, to_z, of_z, w64}
use Rattle.std.proofs.lemmas.Int.{ints}
use Rattle.spatial_index.specs.Cells.{IsSide, line_of, cell_number}
use Rattle.spatial_index.specs.Contents.{CellState, GridState}
use Rattle.spatial_index.specs.Levels.{nth_cell}
use Rattle.spatial_index.proofs.PlanLemmas.{same_bits}
use Rattle.spatial_index.proofs.GridLemmas.{level_at, IsCell-point, cell-inside, level_read-at, cell_at-is}
use Rattle.spatial_index.proofs.grid.Grid.visit.Goals as goal

same_side : (width : ℤ) → IsSide width → to_z w64 (of_z w64 width) ≡ width
same_side width side = same_bits width (omega (arith, ints, side.least, side.greatest))

same_inside : (width x : ℤ) → IsSide width → pos 0 ≤ℤ x → x ≤ℤ width → to_z w64 (of_z w64 x) ≡ x
same_inside width x side low high = same_bits x (omega (arith, ints, side.least, side.greatest))

pub returns-clause-cell : goal.returns-clause-cell
returns-clause-cell g c =
    IsCell-point c.args.self.now.region c.args.level c.args.x c.args.y c.requires.level c.requires.from_left c.requires.to_right c.requires.from_top c.requires.to_bottom

pub items-requires : goal.items-requires
items-requires g c =
    let was : GridState = record { region = record { width = c.self.inside.width; height = c.self.inside.height }; levels = c.self.inside.levels.items } in
    let to_right : c.args.x ≤ℤ c.self.inside.width = rw (← c.self.view_is) at c.requires.to_right in
    let to_bottom : c.args.y ≤ℤ c.self.inside.height = rw (← c.self.view_is) at c.requires.to_bottom in
    let columns : c.line_of.result ≡ line_of c.args.level c.self.inside.width = simp (same_side c.self.inside.width c.self.invariant.width) at c.line_of.ensures.line in
    let row : c.line_of-2.result ≡ line_of c.args.level c.args.y = simp (same_inside c.self.inside.height c.args.y c.self.invariant.height c.requires.from_top to_bottom) at c.line_of-2.ensures.line in
    let column : c.line_of-3.result ≡ line_of c.args.level c.args.x = simp (same_inside c.self.inside.width c.args.x c.self.invariant.width c.requires.from_left to_right) at c.line_of-3.ensures.line in
    let cell = IsCell-point was.region c.args.level c.args.x c.args.y c.requires.level c.requires.from_left to_right c.requires.from_top to_bottom in
    let read : c.index-level.result.now ≡ get_or was.levels c.args.level c.index-level.result.now = rw c.from.ensures at c.index-level.ensures in
    rw (columns, row, column, level_read-at was c.args.level c.index-level.result.now c.self.invariant c.requires.level read) (cell-inside was c.args.level _ _ c.self.invariant cell)

pub returns-clause-items : goal.returns-clause-items
returns-clause-items g c =
    let was : GridState = record { region = record { width = c.self.inside.width; height = c.self.inside.height }; levels = c.self.inside.levels.items } in
    let to_right : c.args.x ≤ℤ c.self.inside.width = rw (← c.self.view_is) at c.requires.to_right in
    let to_bottom : c.args.y ≤ℤ c.self.inside.height = rw (← c.self.view_is) at c.requires.to_bottom in
    let columns : c.line_of.result ≡ line_of c.args.level c.self.inside.width = simp (same_side c.self.inside.width c.self.invariant.width) at c.line_of.ensures.line in
    let row : c.line_of-2.result ≡ line_of c.args.level c.args.y = simp (same_inside c.self.inside.height c.args.y c.self.invariant.height c.requires.from_top to_bottom) at c.line_of-2.ensures.line in
    let column : c.line_of-3.result ≡ line_of c.args.level c.args.x = simp (same_inside c.self.inside.width c.args.x c.self.invariant.width c.requires.from_left to_right) at c.line_of-3.ensures.line in
    let read : c.index-level.result.now ≡ get_or was.levels c.args.level c.index-level.result.now = rw c.from.ensures at c.index-level.ensures in
    let level = level_read-at was c.args.level c.index-level.result.now c.self.invariant c.requires.level read in
    let lent : c.items.result.now ≡ (nth_cell (level_at was c.args.level) (cell_number c.self.inside.width c.args.level (line_of c.args.level c.args.x) (line_of c.args.level c.args.y))).items = rw (columns, row, column, level) at c.items.ensures in
    rw (← c.self.view_is) (lent ∙ ap (λ (state : CellState). state.items) (sym (cell_at-is was c.args.level (line_of c.args.level c.args.x) (line_of c.args.level c.args.y))))
