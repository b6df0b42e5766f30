-- A number that is free was given before.
use Rattle.box_tree.proofs.NumberLemmas.{times-last}
use Rattle.box_tree.proofs.items.give.Goals as goal

pub index_mut-requires : goal.index_mut-requires
index_mut-requires c = c.requires.within c.in-Some.number (times-last c.args.free.now.items c.pop.new.self.items c.in-Some.number c.in-Some.ensures.items)
