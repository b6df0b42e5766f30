-- The boxes of the node are those that go.
use Rattle.std.proofs.Common.{◌≡◌, ◌+◌, ◌-◌, List, length, ap, ◌∙◌, subst, arith}
use Rattle.box_tree.specs.declared.piece.Piece.{Piece}
use Rattle.box_tree.specs.declared.sums.Sums.{Sums}
use Rattle.box_tree.specs.Contents.{IsValid}
use Rattle.box_tree.specs.Edited.{has_too_many_boxes, laid_out}
use Rattle.box_tree.specs.TreeState.{TreeState}
use Rattle.box_tree.specs.Totals.{sums_in, sums_at}
use Rattle.box_tree.proofs.BoxLemmas.{boxes_in, vertices_in, changes_total, boxes_changed}
use Rattle.box_tree.proofs.tree.Tree.has_too_many_placed.Goals as goal

pub without-others-requires-clause-boxes : goal.without-others-requires-clause-boxes
without-others-requires-clause-boxes c =
    let valid = subst (λ (page : TreeState). IsValid page.contents) c.self.view_is c.self.invariant.kept.valid in
    let sums_are = c.self.invariant.sums_are ∙ ap (λ (page : TreeState). sums_in page.contents.tree) c.self.view_is in
    omega (arith, ap (λ (sums : Sums). sums.boxes) sums_are, ap (λ (sums : Sums). sums.boxes) (c.sums_at.ensures ∙ ap sums_at c.find.ensures), (changes_total boxes_in c.args.self.now.contents c.args.id (laid_out c.args._anchor c.args.boxes.now c.args._max) valid c.requires).least)

pub without-others-requires-clause-vertices : goal.without-others-requires-clause-vertices
without-others-requires-clause-vertices c =
    let valid = subst (λ (page : TreeState). IsValid page.contents) c.self.view_is c.self.invariant.kept.valid in
    let sums_are = c.self.invariant.sums_are ∙ ap (λ (page : TreeState). sums_in page.contents.tree) c.self.view_is in
    omega (arith, ap (λ (sums : Sums). sums.vertices) sums_are, ap (λ (sums : Sums). sums.vertices) (c.sums_at.ensures ∙ ap sums_at c.find.ensures), (changes_total vertices_in c.args.self.now.contents c.args.id (laid_out c.args._anchor c.args.boxes.now c.args._max) valid c.requires).least)

pub has_too_many_boxes-requires : goal.has_too_many_boxes-requires
has_too_many_boxes-requires c = omega (arith, ap (λ (sums : Sums). sums.boxes) c.without-others.ensures, ap (λ (sums : Sums). sums.boxes) c.self.invariant.sums_are, c.self.invariant.kept.valid.boxes)

pub returns : goal.returns
returns c =
    let valid = subst (λ (page : TreeState). IsValid page.contents) c.self.view_is c.self.invariant.kept.valid in
    let sums_are = c.self.invariant.sums_are ∙ ap (λ (page : TreeState). sums_in page.contents.tree) c.self.view_is in
    let gone_is = ap (λ (sums : Sums). sums.boxes) (c.sums_at.ensures ∙ ap sums_at c.find.ensures) in
    let changes = boxes_changed c.args.self.now.contents c.args.id c.args._anchor c.args.boxes.now c.args._max c.sums_at.result.boxes valid gone_is c.requires in
    let count_is : c.len.result ≡ length c.args.boxes.now = omega (arith, c.len.ensures, ap (λ (boxes : List Piece). length boxes) c.boxes.view_is) in
    let others_are = ap (λ (sums : Sums). sums.boxes) c.without-others.ensures ∙ ap (λ (sums : Sums). sums.boxes - c.sums_at.result.boxes) sums_are in
    let total_is = ap (λ k. k + c.without-others.result.boxes) count_is ∙ ap (λ k. length c.args.boxes.now + k) others_are ∙ changes.total in
    c.has_too_many_boxes.ensures
    ∙ ap (λ k. has_too_many_boxes k (c.len.result + c.without-others.result.boxes)) count_is
    ∙ ap (has_too_many_boxes (length c.args.boxes.now)) total_is
