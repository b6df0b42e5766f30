use Rattle.std.proofs.Common.{FitsSigned, List, IsTrue, ◌↔◌, subst, ◌∙◌}
use mir.Syntax.{w128}
use Rattle.std.proofs.lemmas.Int.{to_z-of_z}
use Rattle.svg_shapes.specs.declared.boxes.FineBox.{FineBox}
use Rattle.svg_shapes.specs.Boxes.{InBoxes}
use Rattle.svg_shapes.proofs.boxes.FineBoxes.hold.Goals as goal

pub returns : goal.returns
returns c =
    let fits_x : FitsSigned w128 c.args.x = c.ranges.x in
    let fits_y : FitsSigned w128 c.args.y = c.ranges.y in
    let tests = simp to_z-of_z at c.any_holds.ensures in
    subst (λ (boxes : List FineBox). IsTrue c.any_holds.result ↔ InBoxes boxes c.args.x c.args.y)
    (c.deref.ensures.value ∙ c.self.view_is) tests
