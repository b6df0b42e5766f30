use Rattle.std.proofs.Common.{ℕ, List, sym, ap, ◌∙◌, subst, refl}
use Rattle.box_tree.specs.Kept.{node_with}
use Rattle.box_tree.specs.Planned.{relocated_at, MayRelocateAll}
use Rattle.box_tree.proofs.ExchangeLemmas.{RelocatesUpTo, relocates_none, relocates_next, relocates_more, drop_at, drop_all}
use Rattle.box_tree.proofs.tree.moves.relocate_all.Goals as goal

pub loop-id-init : goal.loop-id-init
loop-id-init c = relocates_none _ _ _ (subst (λ (ids : List ℕ). MayRelocateAll c.args.place ids (node_with c.args.nodes.now.nodes)) (sym c.as_slice-id-items.ensures) c.requires)

pub relocate_node-requires : goal.relocate_node-requires
relocate_node-requires c = relocates_next _ _ _ _ _ _ (subst (RelocatesUpTo _ _ _ _) (drop_at _ _ _ 0 c.loop-id-test.true refl) c.loop-id.invariant)

pub loop-id-preserved : goal.loop-id-preserved
loop-id-preserved c = relocates_more _ _ _ _ _ _ _ (subst (RelocatesUpTo _ _ _ _) (drop_at _ _ _ 0 c.loop-id-test.true refl) c.loop-id.invariant) c.relocate_node.ensures

pub returns-clause-looked_up : goal.returns-clause-looked_up
returns-clause-looked_up c = λ k.
    let rest_is = drop_all _ _ c.loop-id-test.false in
    ap (λ rest. relocated_at c.args.place rest k (node_with c.loop-id.nodes.nodes k)) (sym rest_is) ∙ c.loop-id.invariant.looked_up k
    ∙ ap (λ ids. relocated_at c.args.place ids k (node_with c.args.nodes.now.nodes k)) c.as_slice-id-items.ensures

pub returns-clause-count : goal.returns-clause-count
returns-clause-count c = c.loop-id.invariant.count

pub returns-clause-same_room : goal.returns-clause-same_room
returns-clause-same_room c = c.loop-id.invariant.same_room
