-- The walk gives the ids of the tree.
use Rattle.std.proofs.Common.{◌≡◌, ◌++◌, ℕ, List, ◌∙◌, ap, subst}
use Rattle.std.specs.Prelude.{IfOk}
use Rattle.box_tree.specs.Contents.{tree_of}
use Rattle.box_tree.specs.Forest.{ids_in}
use Rattle.box_tree.proofs.tree.removes.ids_of_tree.Goals as goal

pub returns : goal.returns
returns c = subst (λ (xs : List ℕ). IfOk c.from_vec.result (λ list. list ≡ xs)) (c.in_ok-push_ids.ensures ∙ ap (λ ids. ids ++ ids_in (tree_of c.args.tree.now.contents c.args.id)) c.new-ids.ensures.items) c.from_vec.ensures
