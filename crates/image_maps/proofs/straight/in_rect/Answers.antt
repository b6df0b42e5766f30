use Rattle.std.proofs.Common.{rules, pos, get_or, arith, FitsSigned, w64}
use mir.Syntax.{w128}
use Rattle.std.proofs.lemmas.Int.{to_z-of_z}
use Rattle.image_maps.proofs.straight.in_rect.Goals as goal

pub returns-then-is_between : goal.returns-then-is_between
returns-then-is_between c =
    let numbers = c.args.numbers.now in
    let fits_x : FitsSigned w128 c.args.x = c.ranges.x in
    let fits_y : FitsSigned w128 c.args.y = c.ranges.y in
    let fits_0 : FitsSigned w64 (get_or numbers 0 (pos 0)) = search rules in
    let fits_1 : FitsSigned w64 (get_or numbers 1 (pos 0)) = search rules in
    let fits_2 : FitsSigned w64 (get_or numbers 2 (pos 0)) = search rules in
    let fits_3 : FitsSigned w64 (get_or numbers 3 (pos 0)) = search rules in
    let across = simp to_z-of_z at (c.is_between.ensures.0 c.if-is_between.true) in
    let tests_down = simp to_z-of_z at c.is_between-then-is_between.ensures in
    (λ t. record { enough = omega arith; across = across; down = tests_down.0 t }, λ h. tests_down.1 h.down)
