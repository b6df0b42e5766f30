-- A node of a page, as a reader sees it, suits its place.
use Rattle.std.proofs.Common.{◌≡◌, ℕ, [], Some, sym, subst}
use Rattle.box_tree.specs.declared.node.Node.{Node}
use Rattle.box_tree.specs.Forest.{Label}
use Rattle.box_tree.specs.Contents.{Contents, node_of, IsValid, IsSuited}
use Rattle.box_tree.specs.Kept.{label_of}
use Rattle.box_tree.proofs.MoveLemmas.{each-placed}
use Rattle.box_tree.proofs.PlacedLemmas.{seen_at}
use Rattle.box_tree.proofs.ContainingLemmas.{standing, label-seen}

pub suited-seen : (page : Contents) (valid : IsValid page) (id : ℕ) (node : Node) (seen : node_of page id ≡ Some node) → IsSuited (standing page valid id node seen).above (label_of node)
suited-seen page valid id node seen =
    let at = seen_at page id node seen in
    subst (λ (l : Label). IsSuited (standing page valid id node seen).above l) (sym (label-seen page valid id node seen)) (each-placed IsSuited page.tree [] id at.place valid.suited at.found).0
