-- The nearest stacking context above a node, one step up after another.
use Rattle.std.proofs.Common.{◌≡◌, ℕ, List, [], Option, Some, false, sym, ap, ◌∙◌}
use Rattle.std.specs.Prelude.{if◌then◌else◌}
use Rattle.std.specs.Option.{option_map_or}
use Rattle.box_tree.specs.declared.node.Node.{Node}
use Rattle.box_tree.specs.Forest.{Label, Placed}
use Rattle.box_tree.specs.Contents.{Contents, node_of, IsValid}
use Rattle.box_tree.specs.Edited.{ancestors_below}
use Rattle.box_tree.specs.Containing.{parent_of, makes_context}
use Rattle.box_tree.specs.Used.{is_real_context}
use Rattle.box_tree.proofs.PlacedLemmas.{id-placed_in}
use Rattle.box_tree.proofs.AddLemmas.{ancestors_below-none}
use Rattle.box_tree.proofs.ContainingLemmas.{place_is, standing, ancestors-seen, above-seen}
use Rattle.stacking.specs.Contexts.{nearest_context, context_of}

module _ (page : Contents) (valid : IsValid page) (id : ℕ) (node : Node) (seen : node_of page id ≡ Some node) where
  -- the ancestors of a node are its parent and those of its parent
  pub context-start : nearest_context (ancestors_below page node.parent) ≡ context_of page id
  context-start =
      ap nearest_context (above-seen page valid id node seen)
      ∙ sym (ap (λ (o : Option Placed). nearest_context (option_map_or (λ p. p.above) o [])) (place_is page valid id node seen).found)

  -- a node itself, or else the nearest above it
  pub context-step : nearest_context (ancestors_below page id) ≡ (if makes_context page id then id else nearest_context (ancestors_below page node.parent))
  context-step =
      ap nearest_context (ancestors-seen page valid id node seen)
      ∙ ap (λ (i : ℕ). if is_real_context (parent_of (standing page valid id node seen).above) (standing page valid id node seen).label then i else nearest_context (standing page valid id node seen).above) (id-placed_in page.tree [] id (place_is page valid id node seen).place (place_is page valid id node seen).found)
      ∙ ap (λ b. if b then id else nearest_context (standing page valid id node seen).above) (sym (ap (λ (o : Option Placed). option_map_or (λ p. is_real_context (parent_of p.above) p.label) o false) (place_is page valid id node seen).found))
      ∙ ap (λ (above : List Label). if makes_context page id then id else nearest_context above) (sym (above-seen page valid id node seen))

-- nothing is above no node
pub context-none : (page : Contents) → IsValid page → nearest_context (ancestors_below page 0) ≡ 0
context-none page valid = ap nearest_context (ancestors_below-none page valid)
