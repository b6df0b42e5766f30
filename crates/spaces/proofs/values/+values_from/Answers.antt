-- The values of the parent, and one step of inheritance.
use Rattle.std.proofs.Common.{sym, ap, ◌∙◌, arith}
use Rattle.computed_style.specs.declared.inherited.Inherited.{Inherited}
use Rattle.computed_style.specs.Inheritance.{computed}
use Rattle.box_tree.proofs.ContainingLemmas.{ancestors-fewer}
use Rattle.spaces.proofs.ValueLemmas.{values_along-seen}
use Rattle.spaces.proofs.values.+values_from.Goals as goal

pub values_from-above-requires : goal.values_from-above-requires
values_from-above-requires g t c κs within =
    let fewer = ancestors-fewer c.args.page.now.contents c.requires c.args.id c.node-node.result.now c.node-node.ensures.node in
    (omega (arith, fewer), (within, c.requires))

pub returns : goal.returns
returns g t c =
    let node = c.node-node.result.now in
    c.compute.ensures
    ∙ ap (λ (above : Inherited). computed above node.style) c.values_from-above.ensures
    ∙ sym (values_along-seen c.args.page.now.contents c.requires c.args.id node c.node-node.ensures.node)
