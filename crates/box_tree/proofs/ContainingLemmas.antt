-- The ancestors of a node of a valid page: each is in the page with the others above it as its ancestors.
use Rattle.std.proofs.Common.{◌≡◌, ◌⊎◌, ℕ, ◌<◌, List, [], ◌∷◌, length, Option, Some, None, Bool, true, false, if◌then◌else◌, refl, sym, ap, ◌∙◌, subst, inl, inr, arith}
use Rattle.std.specs.Option.{option_map, option_map_or}
use Rattle.box_tree.specs.declared.containing.Wanted.{Wanted}
use Rattle.box_tree.specs.declared.containing.Wanted.TheVariants.{Container, Positioned, Transformed, Parent}
use Rattle.box_tree.specs.declared.node.Node.{Node}
use Rattle.box_tree.specs.declared.containing.Holder.{Holder}
use Rattle.box_tree.specs.declared.containing.Holder.TheVariants.{Node as HolderNode, Initial}
use Rattle.box_tree.specs.Forest.{Label, Forest, Placed}
use Rattle.box_tree.specs.Contents.{Contents, placed_of, node_of, node_at, parent_id, IsValid}
use Rattle.box_tree.specs.Edited.{ancestors_below}
use Rattle.box_tree.specs.Kept.{label_of}
use Rattle.box_tree.specs.Used.{is_clipping, is_real_context}
use Rattle.box_tree.specs.Containing.{parent_of, sought, may_hold, outermost, holder_among, holders_among, Standing, containing_block_chain, containing_block, makes_context, clips}
use Rattle.box_tree.proofs.AddLemmas.{ancestors_below-none}
use Rattle.box_tree.proofs.PlacedLemmas.{id-placed_in, page-at_places, IsSeenAt, seen_at}
use Rattle.box_tree.proofs.SubtreeLemmas.{parent_above}

-- a node that stands in the page below these ancestors
pub record StandsBelow (page : Contents) (n : Label) (above : List Label) : Type 0 where
  pub below : Forest
  pub found : placed_of page n.id ≡ Some (record { label = n; above = above; below = below })

-- each of these ancestors stands in the page below the others
abbrev pub AreAncestors : Contents → List Label → Type 0
AreAncestors page [] = Unit {0}
AreAncestors page (n ∷ above) = StandsBelow page n above × AreAncestors page above

pub are_ancestors : (page : Contents) (above : List Label) (id : ℕ) (p : Placed) → IsValid page → placed_of page id ≡ Some p → p.above ≡ above → AreAncestors page above
are_ancestors page [] id p valid found is = tt
are_ancestors page (n ∷ above) id p valid found is = elim (parent_above page page.tree [] id p (page-at_places page valid) found) [
  | inl at_head ↦ absurd cc
  | inr there ↦
      let same : n ∷ above ≡ there.label ∷ there.others = sym is ∙ there.above_is in
      let label_is : there.label ≡ n = cc in
      let others_are : there.others ≡ above = cc in
      let found' : placed_of page n.id ≡ Some (record { label = n; above = above; below = there.below }) =
      subst (λ (a : List Label). placed_of page n.id ≡ Some (record { label = n; above = a; below = there.below })) others_are
      (subst (λ (l : Label). placed_of page l.id ≡ Some (record { label = l; above = there.others; below = there.below })) label_is there.found) in
      (record { below = there.below; found = found' }, are_ancestors page above n.id _ valid found' refl)
]

-- looking up the parent of what has these ancestors finds the first of them
pub ancestors_below-parent : (page : Contents) (above : List Label) → IsValid page → AreAncestors page above → ancestors_below page (parent_id above) ≡ above
ancestors_below-parent page [] valid stand = ancestors_below-none page valid
ancestors_below-parent page (n ∷ above) valid stand = ap (λ o. option_map_or (λ p. p.label ∷ p.above) o []) stand.0.found

pub parent-node_of : (page : Contents) (id : ℕ) → option_map label_of (node_of page id) ≡ parent_of (ancestors_below page id)
parent-node_of page id = by_place (placed_of page id)
  where
    by_place : (o : Option Placed) → option_map label_of (option_map node_at o) ≡ parent_of (option_map_or (λ p. p.label ∷ p.above) o [])
    by_place None = refl
    by_place (Some p) = refl

-- no node, and so nothing above
pub ancestors_below-unseen : (page : Contents) (id : ℕ) → node_of page id ≡ None → ancestors_below page id ≡ []
ancestors_below-unseen page id none = by_place (placed_of page id) none
  where
    by_place : (o : Option Placed) → option_map node_at o ≡ None → option_map_or (λ p. p.label ∷ p.above) o [] ≡ []
    by_place None is = refl
    by_place (Some p) is = absurd cc

-- a node with its ancestors, as a reader sees it by its id and by that of its parent
module _ (page : Contents) (valid : IsValid page) (id : ℕ) (node : Node) (seen : node_of page id ≡ Some node) where
  abbrev pub place_is : IsSeenAt page id node
  place_is = seen_at page id node seen

  abbrev pub standing : Standing
  standing = record { label = place_is.place.label; above = place_is.place.above }

  pub label-seen : label_of node ≡ standing.label
  label-seen = ap label_of (sym place_is.node_is)

  pub ancestors-seen : ancestors_below page id ≡ standing.label ∷ standing.above
  ancestors-seen = ap (λ o. option_map_or (λ p. p.label ∷ p.above) o []) place_is.found

  pub stand-seen : AreAncestors page standing.above
  stand-seen = are_ancestors page standing.above id place_is.place valid place_is.found refl

  pub above-seen : ancestors_below page node.parent ≡ standing.above
  above-seen = ap (λ (n : Node). ancestors_below page n.parent) (sym place_is.node_is) ∙ ancestors_below-parent page standing.above valid stand-seen

  pub parent-seen : option_map label_of (node_of page node.parent) ≡ parent_of standing.above
  parent-seen = parent-node_of page node.parent ∙ ap parent_of above-seen

  -- one step up
  pub holder-step : (wanted : Wanted) → holder_among wanted (ancestors_below page id) ≡ (if may_hold wanted (option_map label_of (node_of page node.parent)) (label_of node) then HolderNode id else holder_among wanted (ancestors_below page node.parent))
  holder-step wanted =
      ap (holder_among wanted) ancestors-seen
      ∙ ap (λ m. if may_hold wanted (parent_of standing.above) standing.label then HolderNode m else holder_among wanted standing.above) (id-placed_in page.tree [] id place_is.place place_is.found)
      ∙ ap (λ (o : Option Label). if may_hold wanted o standing.label then HolderNode id else holder_among wanted standing.above) (sym parent-seen)
      ∙ ap (λ (l : Label). if may_hold wanted (option_map label_of (node_of page node.parent)) l then HolderNode id else holder_among wanted standing.above) (sym label-seen)
      ∙ ap (λ (above : List Label). if may_hold wanted (option_map label_of (node_of page node.parent)) (label_of node) then HolderNode id else holder_among wanted above) (sym above-seen)

  pub ancestors-fewer : length (ancestors_below page node.parent) < length (ancestors_below page id)
  ancestors-fewer = rw (above-seen, ancestors-seen) (omega arith)

  pub containing_block-seen : containing_block page id ≡ holder_among (sought (label_of node)) (ancestors_below page node.parent)
  containing_block-seen =
      ap (λ (o : Option Placed). option_map_or (λ p. holder_among (sought p.label) p.above) o Initial) place_is.found
      ∙ ap (λ (l : Label). holder_among (sought l) standing.above) (sym label-seen)
      ∙ ap (holder_among (sought (label_of node))) (sym above-seen)

  pub makes_context-seen : makes_context page id ≡ is_real_context (option_map label_of (node_of page node.parent)) (label_of node)
  makes_context-seen =
      ap (λ (o : Option Placed). option_map_or (λ p. is_real_context (parent_of p.above) p.label) o false) place_is.found
      ∙ ap (λ (o : Option Label). is_real_context o standing.label) (sym parent-seen)
      ∙ ap (λ (l : Label). is_real_context (option_map label_of (node_of page node.parent)) l) (sym label-seen)

  pub clips-seen : clips page id ≡ is_clipping (option_map label_of (node_of page node.parent)) (label_of node)
  clips-seen =
      ap (λ (o : Option Placed). option_map_or (λ p. is_clipping (parent_of p.above) p.label) o false) place_is.found
      ∙ ap (λ (o : Option Label). is_clipping o standing.label) (sym parent-seen)
      ∙ ap (λ (l : Label). is_clipping (option_map label_of (node_of page node.parent)) l) (sym label-seen)

-- a containing block and a chain of them, of what has so many ancestors: the chain goes on with that of the containing block
pub record IsHeld (page : Contents) (count : ℕ) (by : Holder) (chain : List Standing) : Type 0 where
  pub holder : Standing
  pub stands : StandsBelow page holder.label holder.above
  pub holder_is : by ≡ HolderNode holder.label.id
  pub chain_is : chain ≡ holder ∷ containing_block_chain holder
  pub fewer : length holder.above < count

-- no ancestor may hold what seeks this, or the chain begins with the nearest that may
pub held : (page : Contents) (wanted : Wanted) (above : List Label) → AreAncestors page above →
    ((holder_among wanted above ≡ outermost wanted) × (holders_among wanted above ≡ []))
    ⊎ IsHeld page (length above) (holder_among wanted above) (holders_among wanted above)
held page wanted [] stand = inl (refl, refl)
held page wanted (n ∷ above) stand = by_test (may_hold wanted (parent_of above) n) (held page wanted above stand.1)
  where
    by_test : (holds : Bool) →
        ((holder_among wanted above ≡ outermost wanted) × (holders_among wanted above ≡ []))
        ⊎ IsHeld page (length above) (holder_among wanted above) (holders_among wanted above) →
        (((if holds then HolderNode n.id else holder_among wanted above) ≡ outermost wanted)
        × ((if holds then record { label = n; above = above } ∷ holders_among (sought n) above else holders_among wanted above) ≡ []))
        ⊎ IsHeld page (length (n ∷ above)) (if holds then HolderNode n.id else holder_among wanted above)
        (if holds then record { label = n; above = above } ∷ holders_among (sought n) above else holders_among wanted above)
    by_test true rest = inr (record { holder = record { label = n; above = above }; stands = stand.0; holder_is = refl; chain_is = refl; fewer = omega arith })
    by_test false (inl none) = inl none
    by_test false (inr is) = inr (record { holder = is.holder; stands = is.stands; holder_is = is.holder_is; chain_is = is.chain_is; fewer = omega (arith, is.fewer) })

outermost-no_node : (wanted : Wanted) (id : ℕ) → outermost wanted ≡ HolderNode id → ⊥
outermost-no_node Container id is = cc
outermost-no_node Positioned id is = cc
outermost-no_node Transformed id is = cc
outermost-no_node Parent id is = cc

-- what holds a node of the page, by what holds it as a reader is told
module _ (page : Contents) (valid : IsValid page) (id : ℕ) (node : Node) (seen : node_of page id ≡ Some node) where
  abbrev n : Standing
  n = standing page valid id node seen

  containing_block-standing : containing_block page id ≡ holder_among (sought n.label) n.above
  containing_block-standing = ap (λ (o : Option Placed). option_map_or (λ p. holder_among (sought p.label) p.above) o Initial) (seen_at page id node seen).found

  -- a node in whose chain the nearest is the node that holds it
  pub record IsHeldBy (holder : ℕ) : Type 0 where
    pub standing_is : Standing
    pub stands : StandsBelow page standing_is.label standing_is.above
    pub id_is : standing_is.label.id ≡ holder
    pub chain_is : containing_block_chain n ≡ standing_is ∷ containing_block_chain standing_is
    pub fewer : length standing_is.above < length n.above

  pub held_by : (holder : ℕ) → containing_block page id ≡ HolderNode holder → IsHeldBy holder
  held_by holder is = elim (held page (sought n.label) n.above (stand-seen page valid id node seen)) [
    | inl none ↦ absurd (outermost-no_node (sought n.label) holder (sym none.0 ∙ sym containing_block-standing ∙ is))
    | inr by ↦
        let same : HolderNode by.holder.label.id ≡ HolderNode holder = sym by.holder_is ∙ sym containing_block-standing ∙ is in
        record { standing_is = by.holder; stands = by.stands; id_is = cc; chain_is = by.chain_is; fewer = by.fewer }
  ]

  -- a node that no node holds
  pub unheld : (by : Holder) → containing_block page id ≡ by → ((holder : ℕ) → by ≡ HolderNode holder → ⊥) → (outermost (sought n.label) ≡ by) × (containing_block_chain n ≡ [])
  unheld by is no_node = elim (held page (sought n.label) n.above (stand-seen page valid id node seen)) [
    | inl none ↦ (sym none.0 ∙ sym containing_block-standing ∙ is, none.1)
    | inr there ↦ absurd (no_node there.holder.label.id (sym is ∙ containing_block-standing ∙ there.holder_is))
  ]
