-- The areas of the map are its children, which were asked in order.
use Rattle.std.proofs.Common.{◌≡◌, Some, refl, sym, ap, ◌∙◌, FitsSigned, to_z, of_z}
use mir.Syntax.{w128}
use Rattle.std.proofs.lemmas.Int.{to_z-of_z}
use Rattle.box_tree.specs.Contents.{node_of}
use Rattle.box_tree.specs.Covers.{covering_among}
use Rattle.box_tree.proofs.CoverLemmas.{areas-seen}
use Rattle.box_tree.proofs.page.Page.first_cover.Goals as goal

pub returns-clause-first : goal.returns-clause-first
returns-clause-first g c =
    let page = c.args.self.now.contents in
    let node = c.in-Some.node.now in
    let fits_x : FitsSigned w128 c.args.x = c.ranges.x in
    let fits_y : FitsSigned w128 c.args.y = c.ranges.y in
    let x_is : to_z w128 (of_z w128 c.args.x) ≡ c.args.x = simp to_z-of_z refl in
    let y_is : to_z w128 (of_z w128 c.args.y) ≡ c.args.y = simp to_z-of_z refl in
    let seen : node_of page c.args.map ≡ Some node = sym c.in-Some.ensures in
    let areas = areas-seen page c.args.map c.args.x c.args.y node c.validity.ensures seen (sym c.is_map.ensures ∙ c.if-not-is_map.false) in
    c.first_among.ensures.first
    ∙ ap (λ z. covering_among page z (to_z w128 (of_z w128 c.args.y)) c.as_slice.result.now) x_is
    ∙ ap (λ z. covering_among page c.args.x z c.as_slice.result.now) y_is
    ∙ ap (covering_among page c.args.x c.args.y) c.as_slice.ensures
    ∙ areas.first
