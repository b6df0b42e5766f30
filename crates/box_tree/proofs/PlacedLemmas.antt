-- In a valid page each node is found at its place, and a walk over the trees meets each node there.
use Rattle.std.proofs.Common.{◌≡◌, ◌≢◌, ℕ, zero, suc, ◌+◌, ◌<◌, ◌≤◌, ◌==◌, List, [], ◌∷◌, length, get_or, Option, Some, None, if◌then◌else◌, true, false, Bool, refl, sym, ap, add-one, ◌∙◌, subst, inl, inr, arith}
use Rattle.std.specs.Option.{option_or, option_map}
use Rattle.box_tree.specs.declared.node.Node.{Node}
use Rattle.std.proofs.lemmas.Bool.{cases_eq}
use Rattle.std.proofs.lemmas.Bool.Decides.{nat_tests}
use Rattle.box_tree.specs.Forest.{Label, Forest, End, Grow, roots_of, height_of, occurrences, Placed, placed_in}
use Rattle.box_tree.specs.Contents.{Contents, node_at, node_of, placed_of, IsValid}
use Rattle.box_tree.proofs.ForestLemmas.{placed_in-head, placed_in-below, placed_in-others}

-- each node of the trees is found in the page at its place below these ancestors
abbrev pub AreAtPlaces : Contents → List Label → Forest → Type 0
AreAtPlaces page above End = Unit {0}
AreAtPlaces page above (Grow n below others) =
    (placed_of page n.id ≡ Some (record { label = n; above = above; below = below }))
    × (AreAtPlaces page (n ∷ above) below × AreAtPlaces page above others)

-- trees whose ids stand in them once
at_places : (page : Contents) (f : Forest) (above : List Label) → ((id : ℕ) → occurrences f id ≤ 1) → ((id : ℕ) → 0 < occurrences f id → placed_of page id ≡ placed_in above f id) → AreAtPlaces page above f
at_places page End above once known = tt
at_places page (Grow n below others) above once known = (
  known n.id (grind (arith, nat_tests)) ∙ placed_in-head n below others above,
  (
    at_places page below (n ∷ above) (λ id. grind (arith, once id)) (λ id some. known id (grind arith) ∙ placed_in-below n below others above id (apart-below id some) some),
    at_places page others above (λ id. grind (arith, once id)) (λ id some. known id (grind arith) ∙ placed_in-others n below others above id (apart-others id some) (omega (arith, once id))),
  ),
)
  where
    apart-below : (id : ℕ) → 0 < occurrences below id → n.id ≢ id
    apart-below id some = grind (arith, nat_tests, once id)

    apart-others : (id : ℕ) → 0 < occurrences others id → n.id ≢ id
    apart-others id some = grind (arith, nat_tests, once id)

-- the nodes of a valid page
pub page-at_places : (page : Contents) → IsValid page → AreAtPlaces page [] page.tree
page-at_places page valid = at_places page page.tree [] valid.distinct (λ id some. refl)

-- the nodes below a node that was found
below-at_places : (page : Contents) (f : Forest) (above : List Label) (id : ℕ) (p : Placed) → AreAtPlaces page above f → placed_in above f id ≡ Some p → AreAtPlaces page (p.label ∷ p.above) p.below
below-at_places page End above id p known found = absurd cc
below-at_places page (Grow n below others) above id p known found =
    by_test (n.id == id) found (λ found'. below-at_places page below (n ∷ above) id p known.1.0 found') (λ found'. below-at_places page others above id p known.1.1 found')
  where
    by_test : (same : Bool) → (if same then Some (record { label = n; above = above; below = below }) else option_or (placed_in (n ∷ above) below id) (placed_in above others id)) ≡ Some p → (placed_in (n ∷ above) below id ≡ Some p → AreAtPlaces page (p.label ∷ p.above) p.below) → (placed_in above others id ≡ Some p → AreAtPlaces page (p.label ∷ p.above) p.below) → AreAtPlaces page (p.label ∷ p.above) p.below
    by_test true is in_below in_others =
        let label_is : n ≡ p.label = cc in
        let above_is : above ≡ p.above = cc in
        let below_is : below ≡ p.below = cc in
        subst (λ (b : Forest). AreAtPlaces page (p.label ∷ p.above) b) below_is (subst (λ (a : List Label). AreAtPlaces page (p.label ∷ a) below) above_is (subst (λ (l : Label). AreAtPlaces page (l ∷ above) below) label_is known.1.0))
    by_test false is in_below in_others = by_place (placed_in (n ∷ above) below id) is in_below
      where
        by_place : (first : Option Placed) → option_or first (placed_in above others id) ≡ Some p → (first ≡ Some p → AreAtPlaces page (p.label ∷ p.above) p.below) → AreAtPlaces page (p.label ∷ p.above) p.below
        by_place None is' in_first = in_others is'
        by_place (Some q) is' in_first = in_first is'

pub found-at_places : (page : Contents) (id : ℕ) (p : Placed) → IsValid page → placed_of page id ≡ Some p → AreAtPlaces page (p.label ∷ p.above) p.below
found-at_places page id p valid found = below-at_places page page.tree [] id p (page-at_places page valid) found

-- the trees from a number of them on
abbrev pub trees_from : ℕ → Forest → Forest
trees_from zero f = f
trees_from (suc k) End = End
trees_from (suc k) (Grow n below others) = trees_from k others

-- a tree is the first of the trees from its number on
pub record IsTreeAt (f : Forest) (k id : ℕ) : Type 0 where
  pub label : Label
  pub below : Forest
  pub id_is : label.id ≡ id
  pub trees_are : trees_from k f ≡ Grow label below (trees_from (k + 1) f)

pub tree_at : (f : Forest) (k id d : ℕ) → k < length (roots_of f) → get_or (roots_of f) k d ≡ id → IsTreeAt f k id
tree_at End k id d within is = absurd (omega arith)
tree_at (Grow n below others) zero id d within is = record { label = n; below = below; id_is = is; trees_are = refl }
tree_at (Grow n below others) (suc k) id d within is =
    let deeper = tree_at others k id d (omega arith) is in
    record { label = deeper.label; below = deeper.below; id_is = deeper.id_is; trees_are = deeper.trees_are ∙ ap (Grow deeper.label deeper.below) (one_more k) }
  where
    one_more : (j : ℕ) → trees_from (j + 1) others ≡ trees_from (suc j + 1) (Grow n below others)
    one_more j = rw (add-one j, add-one (suc j)) refl

-- no tree is left after the last
pub trees_from-all : (f : Forest) (k : ℕ) → length (roots_of f) ≤ k → trees_from k f ≡ End
trees_from-all End zero all = refl
trees_from-all End (suc k) all = refl
trees_from-all (Grow n below others) zero all = absurd (omega arith)
trees_from-all (Grow n below others) (suc k) all = trees_from-all others k (omega arith)

-- the trees from a number on are at their places too
pub from-at_places : (page : Contents) (above : List Label) (f : Forest) (k : ℕ) → AreAtPlaces page above f → AreAtPlaces page above (trees_from k f)
from-at_places page above f zero known = known
from-at_places page above End (suc k) known = tt
from-at_places page above (Grow n below others) (suc k) known = from-at_places page above others k known.1.1

-- a node that was found has fewer ancestors than there are levels
pub depth-placed_in : (f : Forest) (above : List Label) (id : ℕ) (p : Placed) → placed_in above f id ≡ Some p → length p.above < length above + height_of f
depth-placed_in End above id p found = absurd cc
depth-placed_in (Grow n below others) above id p found =
    by_test (n.id == id) found (λ found'. depth-placed_in below (n ∷ above) id p found') (λ found'. depth-placed_in others above id p found')
  where
    by_test : (same : Bool) → (if same then Some (record { label = n; above = above; below = below }) else option_or (placed_in (n ∷ above) below id) (placed_in above others id)) ≡ Some p → (placed_in (n ∷ above) below id ≡ Some p → length p.above < length (n ∷ above) + height_of below) → (placed_in above others id ≡ Some p → length p.above < length above + height_of others) → length p.above < length above + height_of (Grow n below others)
    by_test true is in_below in_others =
        let above_is : above ≡ p.above = cc in
        omega (arith, ap (λ (a : List Label). length a) above_is)
    by_test false is in_below in_others = by_place (placed_in (n ∷ above) below id) is in_below
      where
        by_place : (first : Option Placed) → option_or first (placed_in above others id) ≡ Some p → (first ≡ Some p → length p.above < length (n ∷ above) + height_of below) → length p.above < length above + height_of (Grow n below others)
        by_place None is' in_first = omega (arith, in_others is')
        by_place (Some q) is' in_first = omega (arith, in_first is')

-- the place of a node that a reader sees
pub record IsSeenAt (page : Contents) (id : ℕ) (node : Node) : Type 0 where
  pub place : Placed
  pub found : placed_of page id ≡ Some place
  pub node_is : node_at place ≡ node

pub seen_at : (page : Contents) (id : ℕ) (node : Node) → node_of page id ≡ Some node → IsSeenAt page id node
seen_at page id node seen = by_place (placed_of page id) refl seen
  where
    by_place : (place : Option Placed) → placed_of page id ≡ place → option_map node_at place ≡ Some node → IsSeenAt page id node
    by_place None is seen' = absurd cc
    by_place (Some p) is seen' = record { place = p; found = is; node_is = cc }

-- the place of an id is that of a node with the id
pub id-placed_in : (f : Forest) (above : List Label) (id : ℕ) (p : Placed) → placed_in above f id ≡ Some p → p.label.id ≡ id
id-placed_in End above id p is = absurd cc
id-placed_in (Grow n below others) above id p is = elim (cases_eq n.id id) [
  | inl here ↦ grind (arith, nat_tests)
  | inr other ↦ from_parts (placed_in (n ∷ above) below id) (λ found. id-placed_in below (n ∷ above) id p found) (λ found. id-placed_in others above id p found) (grind (arith, nat_tests))
]
  where
    from_parts : (first : Option Placed) → (first ≡ Some p → p.label.id ≡ id) → (placed_in above others id ≡ Some p → p.label.id ≡ id) → option_or first (placed_in above others id) ≡ Some p → p.label.id ≡ id
    from_parts None from_below from_others found = from_others found
    from_parts (Some q) from_below from_others found = from_below found

-- and so is a node that a reader sees
pub id-node_of : (page : Contents) (id : ℕ) (n : Node) → node_of page id ≡ Some n → n.id ≡ id
id-node_of page id n seen =
    let at = seen_at page id n seen in
    sym (ap (λ (m : Node). m.id) at.node_is) ∙ id-placed_in page.tree [] id at.place at.found

-- a child of a node that was found: it is found too, below that node, and its tree comes before those of the children after it
pub record IsChildAt (page : Contents) (p : Placed) (k child : ℕ) : Type 0 where
  pub label : Label
  pub below : Forest
  pub found : placed_of page child ≡ Some (record { label = label; above = p.label ∷ p.above; below = below })
  pub trees_are : trees_from k p.below ≡ Grow label below (trees_from (k + 1) p.below)

pub child_at : (page : Contents) (id : ℕ) (p : Placed) (k child d : ℕ) → IsValid page → placed_of page id ≡ Some p → k < length (roots_of p.below) → get_or (roots_of p.below) k d ≡ child → IsChildAt page p k child
child_at page id p k child d valid found within is =
    let tree = tree_at p.below k child d within is in
    let places = from-at_places page (p.label ∷ p.above) p.below k (found-at_places page id p valid found) in
    let places' = subst (AreAtPlaces page (p.label ∷ p.above)) tree.trees_are places in
    record {
      label = tree.label;
      below = tree.below;
      found = ap (placed_of page) (sym tree.id_is) ∙ places'.0;
      trees_are = tree.trees_are;
    }
