-- The box at the place is one of those of the node.
use Rattle.std.proofs.Common.{◌≡◌, List, Option, Some, None, false, length, refl, sym, ap, ◌∙◌, arith}
use Rattle.std.specs.Prelude.{slice_get}
use Rattle.std.specs.Option.{option_map_or}
use Rattle.std.proofs.lemmas.Int.{ints}
use Rattle.std.proofs.lemmas.Option.{slice_get_read, slice_get_past}
use mir.Syntax.{w128}
use mir.Val.{to_z, of_z}
use Rattle.corner_shapes.specs.declared.rounded.Rounded.{Rounded}
use Rattle.corner_shapes.specs.Held.{in_rounded}
use Rattle.box_tree.specs.declared.piece.Piece.{Piece}
use Rattle.box_tree.specs.Kept.{label_of}
use Rattle.scroll_clip.specs.Curves.{border_curve}
use Rattle.point_query.proofs.admission.some_box_holds.Goals as goal

pub returns-in-Some : goal.returns-in-Some
returns-in-Some c =
    let n = label_of c.args.node.now in
    let at = c.args.at in
    let items = c.as_slice.result.now in
    let found = c.in-Some.ensures.lookup in
    let there : slice_get items c.args.place ≡ Some c.in-Some.piece.now = slice_get_read items (length items) c.args.place c.in-Some.piece.now refl found.3.0 found.1 in
    let x_is : to_z w128 (of_z w128 at.x) ≡ at.x = omega (arith, ints) in
    let y_is : to_z w128 (of_z w128 at.y) ≡ at.y = omega (arith, ints) in
    let held = rw (x_is, y_is) at c.holds.ensures.test in
    held
    ∙ ap (λ (curve : Rounded). in_rounded curve at.x at.y) c.border_curve.ensures.curve
    ∙ ap (λ (o : Option Piece). option_map_or (λ box. in_rounded (border_curve n box) at.x at.y) o false) (sym there ∙ ap (λ (boxes : List Piece). slice_get boxes c.args.place) c.as_slice.ensures)

pub returns-in-None : goal.returns-in-None
returns-in-None c =
    let n = label_of c.args.node.now in
    let at = c.args.at in
    let items = c.as_slice.result.now in
    let missing : slice_get items c.args.place ≡ None = slice_get_past items c.args.place c.in-None.ensures.lookup.3 in
    ap (λ (o : Option Piece). option_map_or (λ box. in_rounded (border_curve n box) at.x at.y) o false) (sym missing ∙ ap (λ (boxes : List Piece). slice_get boxes c.args.place) c.as_slice.ensures)
