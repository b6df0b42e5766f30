use Rattle.std.proofs.Common.{◌≡◌, Some, ap, arith}
use Rattle.std.specs.List.{slice_get}
use Rattle.spatial_index.specs.Contents.{CellState, times}
use Rattle.spatial_index.proofs.TimesLemmas.{times-without}
use Rattle.spatial_index.proofs.cell.Cell.take_out.Goals as goal
use Rattle.spatial_index.proofs.cell.Cell.take_out.Goals.{in-Some-last, in_default-last}

pub returns-after-last-clause-items : goal.returns-after-last-clause-items
returns-after-last-clause-items c other =
    let place : slice_get c.self.inside.items.items c.in-Some.place ≡ Some c.args.item = rw c.deref.ensures.value at c.in-Some.ensures.there in
    let same : c.match-last.self-inside.items.items ≡ c.self.inside.items.items =
    elim c.match-last.branch [
      | in-Some-last w ↦ rw w.self-inside-is
      | in_default-last w ↦ rw w.self-inside-is
    ] in
    rw (c.swap_remove.ensures.items, same, ← c.self.view_is) (times-without c.args.item c.self.inside.items.items c.in-Some.place _ other place)

pub returns-in_default-clause-items : goal.returns-in_default-clause-items
returns-in_default-clause-items c other =
    let nowhere : times c.args.item c.self.inside.items.items ≡ 0 = rw c.deref.ensures.value at (c.place_of.ensures.nowhere c.in_default.is) in
    let view : c.self.inside.items.items ≡ c.args.self.now.items = ap (λ (cell : CellState). cell.items) c.self.view_is in
    let absent : times c.args.item c.args.self.now.items ≡ 0 = rw view at nowhere in
    absurd (omega (arith, absent, c.requires))
