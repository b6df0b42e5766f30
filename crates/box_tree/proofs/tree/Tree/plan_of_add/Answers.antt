-- The node and the children are those of the plan, since the parent was found as a reader sees it.
use Rattle.std.proofs.Common.{ℕ, ◌≤◌, Option, None, Some, length, refl, sym, ap, subst, ◌∙◌, arith}
use Rattle.std.specs.Option.{option_map_or}
use Rattle.box_tree.specs.declared.node.Node.{Node}
use Rattle.box_tree.specs.Contents.{IsValid}
use Rattle.box_tree.specs.TreeState.{TreeState}
use Rattle.box_tree.specs.Planned.{HasSpareFor}
use Rattle.box_tree.proofs.AddLemmas.{may_add}
use Rattle.box_tree.proofs.PlanLemmas.{child_count-node_of, length-ancestors_below, node_is-added}
use Rattle.box_tree.proofs.tree.Tree.plan_of_add.Goals as goal

at_most : (at : ℕ) (o : Option Node) → at ≤ option_map_or (λ (n : Node). length n.children) o 0 → at ≤ option_map_or (λ (n : Node). length n.children) o at
at_most at None within = omega arith
at_most at (Some n) within = within

pub returns-clause-planned : goal.returns-clause-planned
returns-clause-planned c =
    let page = c.args.self.now.contents in
    let valid = subst (λ (state : TreeState). IsValid state.contents) c.self.view_is c.self.invariant.kept.valid in
    let next_is = ap (λ (state : TreeState). state.contents.next) c.self.view_is in
    let may = may_add page c.args.parent c.args.at c.args.kind c.args.style.now c.args.boxes.now c.requires.faultless in
    record {
      in_range = c.requires.range;
      faultless = c.requires.faultless;
      plan_is = record {
        node_is = node_is-added page c.args.parent c.args.kind c.args.style.now c.args.boxes.now c.self.inside.frame.next c.seat_below.result.depth c.new.result c.in_ok-from_pieces.field-0 c.in_ok-copy.field-0 valid may.present next_is c.new.ensures
            (c.seat_below.ensures.depth ∙ ap (λ o. option_map_or (λ (n : Node). n.depth) o 0) c.find-above.ensures) (c.in_ok-from_pieces.ensures ∙ c.deref.ensures.value ∙ c.boxes.view_is) c.in_ok-copy.ensures;
        place_is = refl;
        may_insert = record {
          within = at_most c.args.at _ (omega (arith, may.place, child_count-node_of page c.args.parent));
          spare_fits = subst (λ o. HasSpareFor o c.in_ok-spare.spare) c.find-above.ensures c.in_ok-spare.ensures;
        };
        room = c.requires.room;
        placed = c.requires.placed;
      };
    }

pub overflow_add-depth : goal.overflow_add-depth
overflow_add-depth c =
    let page = c.args.self.now.contents in
    let may = may_add page c.args.parent c.args.at c.args.kind c.args.style.now c.args.boxes.now c.requires.faultless in
    let depth_is = c.seat_below.ensures.depth ∙ ap (λ o. option_map_or (λ (n : Node). n.depth) o 0) c.find-above.ensures ∙ sym (length-ancestors_below page c.args.parent) in
    omega (arith, may.depth, depth_is)
