-- The chain of an element by a walk from parent to parent.
use Rattle.std.proofs.Common.{◌≡◌, ◌≤◌, ℕ, List, [], ◌∷◌, ◌++◌, length, map, reverse, Option, Some, None, refl, sym, ap, ◌∙◌, append_assoc, arith}
use Rattle.std.specs.Option.{option_map_or}
use Rattle.std.proofs.lemmas.List.{append-nil, length-map, length-reverse}
use Rattle.box_tree.specs.declared.node.Node.{Node}
use Rattle.box_tree.specs.Forest.{Label, Placed}
use Rattle.box_tree.specs.Contents.{Contents, placed_of, node_of, IsValid}
use Rattle.box_tree.specs.Edited.{ancestors_below}
use Rattle.box_tree.proofs.AddLemmas.{ancestors_below-none}
use Rattle.box_tree.proofs.ContainingLemmas.{place_is, ancestors-seen, above-seen}
use Rattle.box_tree.proofs.PlacedLemmas.{depth-placed_in}
use Rattle.box_tree.proofs.PlanLemmas.{id-placed_in}
use Rattle.point_query.specs.Chain.{chain_of}

-- the ids from a node on up, none where the node isn't there
abbrev pub upwards : Contents → ℕ → List ℕ
upwards page id = map (λ (n : Label). n.id) (ancestors_below page id)

-- a node, and what is above its parent
pub upwards-step : (page : Contents) → IsValid page → (id : ℕ) (node : Node) → node_of page id ≡ Some node → upwards page id ≡ id ∷ upwards page node.parent
upwards-step page valid id node seen =
    let at = place_is page valid id node seen in
    ap (map (λ (n : Label). n.id)) (ancestors-seen page valid id node seen)
    ∙ ap (λ m. m ∷ map (λ (n : Label). n.id) at.place.above) (id-placed_in page.tree [] id at.place at.found)
    ∙ ap (λ (above : List Label). id ∷ map (λ (n : Label). n.id) above) (sym (above-seen page valid id node seen))

-- one step more of a walk
pub walked : (page : Contents) → IsValid page → (id : ℕ) (node : Node) (ids all : List ℕ) → node_of page id ≡ Some node → ids ++ upwards page id ≡ all → (ids ++ id ∷ []) ++ upwards page node.parent ≡ all
walked page valid id node ids all seen so_far = append_assoc ids (id ∷ []) (upwards page node.parent) ∙ ap (λ (more : List ℕ). ids ++ more) (sym (upwards-step page valid id node seen)) ∙ so_far

-- the walk is over above the root
pub all_walked : (page : Contents) → IsValid page → (ids all : List ℕ) → ids ++ upwards page 0 ≡ all → ids ≡ all
all_walked page valid ids all so_far = sym (append-nil ids) ∙ ap (λ (above : List Label). ids ++ map (λ (n : Label). n.id) above) (sym (ancestors_below-none page valid)) ∙ so_far

pub chain-upwards : (page : Contents) (id : ℕ) → reverse (upwards page id) ≡ chain_of page id
chain-upwards page id = by_place (placed_of page id)
  where
    by_place : (o : Option Placed) → reverse (map (λ (n : Label). n.id) (option_map_or (λ p. p.label ∷ p.above) o [])) ≡ option_map_or (λ p. reverse (map (λ (n : Label). n.id) (p.label ∷ p.above))) o []
    by_place None = refl
    by_place (Some p) = refl

-- a page is at most 256 levels deep
pub chain-short : (page : Contents) → IsValid page → (id : ℕ) → length (chain_of page id) ≤ 256
chain-short page valid id = by_place (placed_of page id) refl
  where
    by_place : (o : Option Placed) → placed_of page id ≡ o → length (option_map_or (λ p. reverse (map (λ (n : Label). n.id) (p.label ∷ p.above))) o []) ≤ 256
    by_place None is = omega arith
    by_place (Some p) is = omega (arith, length-reverse (map (λ (n : Label). n.id) (p.label ∷ p.above)), length-map (p.label ∷ p.above) (λ (n : Label). n.id), depth-placed_in page.tree [] id p is, valid.depth)
