-- The place is at most the number of the others.
use Rattle.std.proofs.Common.{[], ap, ◌∙◌, ℕ, List, length, Option, arith}
use Rattle.std.specs.Option.{option_map_or}
use Rattle.box_tree.specs.declared.node.Node.{Node}
use Rattle.box_tree.specs.Planned.{ids_without}
use Rattle.box_tree.proofs.MoveLemmas.{length-others, may_move}
use Rattle.box_tree.proofs.tree.Tree.plan_of_move.Goals as goal

pub with-requires : goal.with-requires
with-requires c =
    let page = c.args.self.now.contents in
    let may = may_move page c.args.id c.args.parent c.args.at c.requires.faultless in
    let others_are = c.in_ok-others.ensures ∙ ap (λ (o : Option Node). option_map_or (λ n. ids_without c.args.id n.children) o []) c.find-2.ensures in
    omega (arith, may.place, length-others page c.validity.ensures c.args.id c.args.parent may.parent_there may.apart, ap (λ (ids : List ℕ). length ids) others_are)
