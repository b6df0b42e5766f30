-- The list is another one at the id alone.
use Rattle.std.proofs.Common.{ℕ, set, map, ap, ◌∙◌}
use Rattle.std.proofs.lemmas.List.{map-set}
use Rattle.smallvec.specs.SmallVec.{SmallVec}
use Rattle.box_tree.proofs.items.exchange.Goals as goal

pub returns-clause-lists : goal.returns-clause-lists
returns-clause-lists c =
    map-set (λ (l : SmallVec ℕ). l.items) c.args.lists.now.items c.args.id c.replace.new.dest
    ∙ ap (λ (l : SmallVec ℕ). set (map (λ (m : SmallVec ℕ). m.items) c.args.lists.now.items) c.args.id l.items) c.replace.ensures.after
