use Rattle.std.proofs.Common.{◌≡◌, ◌≤◌, ◌+◌, ℕ, List, length, None, if◌then◌else◌, sym, ap, ◌∙◌, subst, refl, arith}
use Rattle.std.specs.Prelude.{vec_len, vec_capacity}
use Rattle.box_tree.specs.Kept.{node_with}
use Rattle.box_tree.specs.Planned.{is_among, times_in}
use Rattle.box_tree.proofs.ExchangeLemmas.{TakesUpTo, takes_none, takes_next, takes_more, takes_all, drop_at, drop_all}
use Rattle.box_tree.proofs.KeptLemmas.{id-node_with}
use Rattle.box_tree.proofs.tree.removes.take_all.Goals as goal

pub loop-id-init : goal.loop-id-init
loop-id-init c =
    let items = c.as_slice-id-items.ensures in
    takes_none _ _ _ (λ k among. c.requires.there k (ap (λ (ids : List ℕ). is_among ids k) (sym items) ∙ among)) (λ k. subst (λ (ids : List ℕ). times_in k ids ≤ 1) (sym items) (c.requires.distinct k)) c.requires.none
    (subst (λ (ids : List ℕ). vec_len c.args.gone.now + length ids ≤ vec_capacity c.args.gone.now) (sym items) c.requires.room)

pub take-requires : goal.take-requires
take-requires c = takes_next _ _ _ _ _ _ (subst (TakesUpTo _ _ _ _) (drop_at _ _ _ 0 c.loop-id-test.true refl) c.loop-id.invariant)

pub push_reserved-requires : goal.push_reserved-requires
push_reserved-requires c = omega (arith, (subst (TakesUpTo _ _ _ _) (drop_at _ _ _ 0 c.loop-id-test.true refl) c.loop-id.invariant).fits)

pub loop-id-preserved : goal.loop-id-preserved
loop-id-preserved c =
    let took = c.take.ensures in
    let pushed = c.push_reserved.ensures in
    takes_more _ _ _ _ _ _ _ _ c.take.result (subst (TakesUpTo _ _ _ _) (drop_at _ _ _ 0 c.loop-id-test.true refl) c.loop-id.invariant) took.taken (id-node_with _ _ _ (sym took.taken)) took.looked_up took.count took.room took.ids pushed.items pushed.len pushed.capacity

pub returns-clause-looked_up : goal.returns-clause-looked_up
returns-clause-looked_up c = λ k.
    (takes_all _ _ _ _ _ c.loop-id.invariant (drop_all _ _ c.loop-id-test.false)).looked_up k ∙ ap (λ ids. if is_among ids k then None else node_with c.args.nodes.now.nodes k) c.as_slice-id-items.ensures

pub returns-clause-count : goal.returns-clause-count
returns-clause-count c = subst (λ (ids : List ℕ). length c.loop-id.nodes.nodes + length ids ≡ length c.args.nodes.now.nodes) c.as_slice-id-items.ensures (takes_all _ _ _ _ _ c.loop-id.invariant (drop_all _ _ c.loop-id-test.false)).count

pub returns-clause-same_room : goal.returns-clause-same_room
returns-clause-same_room c = c.loop-id.invariant.same_room

pub returns-clause-ids : goal.returns-clause-ids
returns-clause-ids c = (takes_all _ _ _ _ _ c.loop-id.invariant (drop_all _ _ c.loop-id-test.false)).ids_are ∙ c.as_slice-id-items.ensures

pub returns-clause-nodes : goal.returns-clause-nodes
returns-clause-nodes c = c.loop-id.invariant.from
