-- The node's own factors after where it is placed.
use Rattle.std.proofs.Common.{sym, ◌∙◌}
use Rattle.std.specs.Option.{option_copied}
use Rattle.spaces.proofs.SpaceLemmas.{numbers-seen}
use Rattle.spaces.proofs.AroundLemmas.{space-given, space-hidden, bounded-hidden}
use Rattle.spaces.proofs.table.around.Around.space.Goals as goal

pub own-requires : goal.own-requires
own-requires g c = numbers-seen c.args.page.now.contents c.requires.valid c.args.id c.node-node.result.now c.node-node.ensures.node

pub returns-in-Some-clause-space : goal.returns-in-Some-clause-space
returns-in-Some-clause-space g c =
    sym ((space-given c.args.page.now.contents c.requires.valid c.args.id c.node-node.result.now c.node-node.ensures.node c.args.self.now c.requires.around (sym c.has_space.ensures ∙ c.if-not-has_space.false)
    c.sought.result c.sought.ensures c.place.result c.place.ensures (option_copied c.find-parent.result) c.find-parent.ensures c.own.result c.own.ensures).some c.in-Some.space c.in-Some.is).1

pub returns-in-Some-clause-bounded : goal.returns-in-Some-clause-bounded
returns-in-Some-clause-bounded g c =
    ((space-given c.args.page.now.contents c.requires.valid c.args.id c.node-node.result.now c.node-node.ensures.node c.args.self.now c.requires.around (sym c.has_space.ensures ∙ c.if-not-has_space.false)
    c.sought.result c.sought.ensures c.place.result c.place.ensures (option_copied c.find-parent.result) c.find-parent.ensures c.own.result c.own.ensures).some c.in-Some.space c.in-Some.is).0

pub returns-in-None-clause-beyond : goal.returns-in-None-clause-beyond
returns-in-None-clause-beyond g c =
    (space-given c.args.page.now.contents c.requires.valid c.args.id c.node-node.result.now c.node-node.ensures.node c.args.self.now c.requires.around (sym c.has_space.ensures ∙ c.if-not-has_space.false)
    c.sought.result c.sought.ensures c.place.result c.place.ensures (option_copied c.find-parent.result) c.find-parent.ensures c.own.result c.own.ensures).none c.in-None.is

pub returns-then-not-has_space-clause-space : goal.returns-then-not-has_space-clause-space
returns-then-not-has_space-clause-space g c = space-hidden c.args.page.now.contents c.requires.valid c.args.id c.node-node.result.now c.node-node.ensures.node c.args.self.now c.requires.around (sym c.has_space.ensures ∙ c.if-not-has_space.true)

pub returns-then-not-has_space-clause-bounded : goal.returns-then-not-has_space-clause-bounded
returns-then-not-has_space-clause-bounded g c = bounded-hidden c.args.page.now.contents c.requires.valid c.args.id c.node-node.result.now c.node-node.ensures.node c.args.self.now c.requires.around (sym c.has_space.ensures ∙ c.if-not-has_space.true)
