-- Whether the ancestors of a node show what is in them, as a reader goes up from it.
use Rattle.std.proofs.Common.{◌≡◌, ℕ, List, Some, sym, ap, ◌∙◌}
use Rattle.std.specs.Prelude.{◌&&◌}
use Rattle.std.specs.List.{list_all}
use Rattle.box_tree.specs.declared.node.Node.{Node}
use Rattle.box_tree.specs.Forest.{Label}
use Rattle.box_tree.specs.Contents.{Contents, node_of, IsValid}
use Rattle.box_tree.specs.Edited.{ancestors_below}
use Rattle.box_tree.specs.Kept.{label_of}
use Rattle.box_tree.proofs.ContainingLemmas.{standing, label-seen, ancestors-seen, above-seen}
use Rattle.spaces.specs.Spaces.{shows}

module _ (page : Contents) (valid : IsValid page) (id : ℕ) (node : Node) (seen : node_of page id ≡ Some node) where
  -- the node, and those above it
  pub shown-seen : list_all shows (ancestors_below page id) ≡ (shows (label_of node) && list_all shows (ancestors_below page node.parent))
  shown-seen =
      ap (list_all shows) (ancestors-seen page valid id node seen)
      ∙ ap (λ (l : Label). shows l && list_all shows (standing page valid id node seen).above) (sym (label-seen page valid id node seen))
      ∙ ap (λ (above : List Label). shows (label_of node) && list_all shows above) (sym (above-seen page valid id node seen))
