use Rattle.std.proofs.Common.{◌≡◌, sym, ◌∙◌, to_z, of_z, w64}
use Rattle.std.proofs.lemmas.Int.{to_z-of_z}
use Rattle.std.proofs.lemmas.Bool.{false≢true}
use Rattle.fractions.specs.Rect.{IsEmpty}
use Rattle.spatial_index.specs.Cells.{highest_of}
use Rattle.spatial_index.proofs.PlanLemmas.{level_of-empty, cells_met-empty, is_empty-true, inside_if_some, from_left_to_right, from_top_to_bottom}
use Rattle.spatial_index.proofs.plan.cells_met.Goals as goal

pub returns-then-is_empty-clause-level : goal.returns-then-is_empty-clause-level
returns-then-is_empty-clause-level c =
    sym (level_of-empty c.args.bounds.now (is_empty-true c.args.bounds.now (c.is_empty.ensures.edges.0 c.if-is_empty.true)))

pub returns-then-is_empty-clause-numbers : goal.returns-then-is_empty-clause-numbers
returns-then-is_empty-clause-numbers c =
    sym (cells_met-empty c.args.width c.args.bounds.now (is_empty-true c.args.bounds.now (c.is_empty.ensures.edges.0 c.if-is_empty.true)))

pub some_cells_met-requires-clause-inside : goal.some_cells_met-requires-clause-inside
some_cells_met-requires-clause-inside c =
    let same : to_z w64 (of_z w64 c.args.width) ≡ c.args.width = to_z-of_z w64 c.args.width c.ranges.width in
    let some : IsEmpty c.args.bounds.now → ⊥ = λ empty. false≢true (sym c.if-is_empty.false ∙ c.is_empty.ensures.edges.1 empty) in
    rw same (inside_if_some (highest_of c.args.width) c.args.bounds.now some c.requires.inside)

pub some_cells_met-requires-clause-across : goal.some_cells_met-requires-clause-across
some_cells_met-requires-clause-across c =
    from_left_to_right c.args.bounds.now (λ empty. false≢true (sym c.if-is_empty.false ∙ c.is_empty.ensures.edges.1 empty))

pub some_cells_met-requires-clause-down : goal.some_cells_met-requires-clause-down
some_cells_met-requires-clause-down c =
    from_top_to_bottom c.args.bounds.now (λ empty. false≢true (sym c.if-is_empty.false ∙ c.is_empty.ensures.edges.1 empty))

pub returns-else-is_empty-clause-none : goal.returns-else-is_empty-clause-none
returns-else-is_empty-clause-none c empty = absurd (false≢true (sym c.if-is_empty.false ∙ c.is_empty.ensures.edges.1 empty))
