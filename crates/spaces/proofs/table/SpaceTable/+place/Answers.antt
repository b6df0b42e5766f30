-- The node holds what is sought, or what holds it is above.
use Rattle.std.proofs.Common.{Option, sym, ap, ◌∙◌, arith}
use Rattle.std.specs.Option.{option_map, option_copied}
use Rattle.affine.specs.declared.map.Parts.{Parts}
use Rattle.box_tree.specs.declared.node.Node.{Node}
use Rattle.box_tree.specs.Containing.{may_hold}
use Rattle.box_tree.specs.Kept.{label_of}
use Rattle.box_tree.proofs.ContainingLemmas.{ancestors-fewer}
use Rattle.spaces.specs.Checked.{checked_products}
use Rattle.spaces.specs.Spaces.{inner_factors, space}
use Rattle.spaces.proofs.SpaceLemmas.{numbers-seen}
use Rattle.spaces.proofs.OutsideLemmas.{place-holds, place-passes, space-entered, entered-parent}
use Rattle.spaces.proofs.table.SpaceTable.+place.Goals as goal

pub inner-requires : goal.inner-requires
inner-requires g t c = numbers-seen c.args.page.now.contents c.requires.valid c.args.id c.node-node.result.now c.node-node.ensures.node

pub returns-then-may_hold : goal.returns-then-may_hold
returns-then-may_hold g t c =
    let page = c.args.page.now.contents in
    let node = c.node-node.result.now in
    c.inner.ensures
    ∙ ap (λ (o : Option Parts). checked_products o (inner_factors (option_map label_of (option_copied c.find-parent.result)) (label_of node))) (c.kept_space-space.ensures ∙ space-entered page c.requires.valid c.args.id node c.node-node.ensures.node c.args.self.now c.requires.entered)
    ∙ ap (λ (o : Option Node). checked_products (space page c.args.id) (inner_factors (option_map label_of o) (label_of node))) c.find-parent.ensures
    ∙ place-holds page c.requires.valid c.args.id node c.node-node.ensures.node c.args.wanted
    (ap (λ (o : Option Node). may_hold c.args.wanted (option_map label_of o) (label_of node)) (sym c.find-parent.ensures) ∙ sym c.may_hold.ensures ∙ c.if-may_hold.true)

pub place-requires : goal.place-requires
place-requires g t c κs within =
    let page = c.args.page.now.contents in
    let node = c.node-node.result.now in
    let fewer = ancestors-fewer page c.requires.valid c.args.id node c.node-node.ensures.node in
    (omega (arith, fewer), (within, (c.requires.valid, entered-parent page c.requires.valid c.args.id node c.node-node.ensures.node c.args.self.now c.requires.entered)))

pub returns : goal.returns
returns g t c =
    let page = c.args.page.now.contents in
    let node = c.node-node.result.now in
    c.place.ensures
    ∙ place-passes page c.requires.valid c.args.id node c.node-node.ensures.node c.args.wanted
    (ap (λ (o : Option Node). may_hold c.args.wanted (option_map label_of o) (label_of node)) (sym c.find-parent.ensures) ∙ sym c.may_hold.ensures ∙ c.if-may_hold.false)
