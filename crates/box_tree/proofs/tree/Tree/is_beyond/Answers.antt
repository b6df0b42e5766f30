-- The others are the children that the parent has on the page without the moved tree.
use Rattle.std.proofs.Common.{◌≡◌, ℕ, List, [], length, Option, None, Some, refl, ap, ◌∙◌}
use Rattle.std.specs.Prelude.{nat_lt}
use Rattle.std.specs.Option.{option_map_or}
use Rattle.box_tree.specs.declared.node.Node.{Node}
use Rattle.box_tree.specs.Contents.{node_of}
use Rattle.box_tree.specs.Planned.{ids_without}
use Rattle.box_tree.proofs.MoveLemmas.{length-others}
use Rattle.box_tree.proofs.tree.Tree.is_beyond.Goals as goal

length_or : (f : Node → List ℕ) (o : Option Node) → option_map_or (λ n. length (f n)) o 0 ≡ length (option_map_or f o [])
length_or f None = refl
length_or f (Some n) = refl

pub returns : goal.returns
returns c =
    let page = c.args.self.now.contents in
    ap (λ k. nat_lt k c.args.at)
    (c.others_below.ensures ∙ ap (λ (o : Option Node). option_map_or (λ n. length (ids_without c.args.id n.children)) o 0) c.find.ensures
    ∙ length_or (λ n. ids_without c.args.id n.children) (node_of page c.args.parent)
    ∙ length-others page c.validity.ensures c.args.id c.args.parent c.requires.there c.requires.apart)
