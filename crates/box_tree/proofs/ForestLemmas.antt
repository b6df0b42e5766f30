-- What holds of every forest.
use Rattle.std.proofs.Common.{◌≡◌, ◌≢◌, ◌⊎◌, ℕ, zero, suc, ◌+◌, ◌<◌, ◌≤◌, ◌==◌, List, [], ◌∷◌, length, Option, Some, None, if◌then◌else◌, Bool, true, false, is_some, refl, sym, ap, subst, inl, inr, arith}
use Rattle.std.specs.Option.{option_or, option_map, option_map_or}
use mathlib.Core.Bool.{false≢true}
use Rattle.std.proofs.lemmas.Bool.{cases_lt, cases_eq}
use Rattle.std.proofs.lemmas.Bool.Decides.{nat_tests}
use Rattle.std.specs.List.{insert}
use Rattle.box_tree.specs.declared.node.Node.{Node}
use Rattle.box_tree.specs.Contents.{node_at}
use Rattle.box_tree.specs.Edited.{put_in, put_below}
use Rattle.box_tree.specs.Forest.{Label, Forest, End, Grow, roots_of, node_count, occurrences, Placed, placed_in}

-- an id that does not stand in the trees has no place there
pub placed_in-absent : (f : Forest) (above : List Label) (id : ℕ) → occurrences f id ≡ 0 → placed_in above f id ≡ None
placed_in-absent End above id none = refl
placed_in-absent (Grow n below others) above id none =
    grind (arith, nat_tests, placed_in-absent below (n ∷ above) id, placed_in-absent others above id)

-- an id that stands in the trees has a place there
pub placed_in-present : (f : Forest) (above : List Label) (id : ℕ) → 0 < occurrences f id → is_some (placed_in above f id) ≡ true
placed_in-present End above id some = absurd (omega arith)
placed_in-present (Grow n below others) above id some =
    grind (arith, nat_tests, placed_in-present below (n ∷ above) id, placed_in-present others above id)

-- a node is found at the head of its tree
pub placed_in-head : (n : Label) (below others : Forest) (above : List Label) → placed_in above (Grow n below others) n.id ≡ Some (record { label = n; above = above; below = below })
placed_in-head n below others above = grind (arith, nat_tests)

-- one tree
abbrev pub single : Label → Forest → Forest
single n below = Grow n below End

-- putting a tree in adds the ids of that tree
pub occurrences-put_in : (f : Forest) (at : ℕ) (n : Label) (below : Forest) (id : ℕ) → occurrences (put_in at n below f) id ≡ occurrences (single n below) id + occurrences f id
occurrences-put_in f zero n below id = grind arith
occurrences-put_in End (suc at) n below id = grind arith
occurrences-put_in (Grow first firsts others) (suc at) n below id = grind (arith, occurrences-put_in others at n below id)

-- a tree that goes below a node which isn't there goes nowhere
pub put_below-absent : (f : Forest) (parent at : ℕ) (n : Label) (below : Forest) → occurrences f parent ≡ 0 → put_below parent at n below f ≡ f
put_below-absent End parent at n below none = refl
put_below-absent (Grow first firsts others) parent at n below none =
    grind (arith, nat_tests, put_below-absent firsts parent at n below, put_below-absent others parent at n below)

-- where a tree goes that is put below a node: here, or below another
pub put_below-here : (first : Label) (firsts others : Forest) (parent at : ℕ) (n : Label) (below : Forest) → first.id ≡ parent → put_below parent at n below (Grow first firsts others) ≡ Grow first (put_in at n below firsts) others
put_below-here first firsts others parent at n below here = grind (arith, nat_tests)

pub put_below-other : (first : Label) (firsts others : Forest) (parent at : ℕ) (n : Label) (below : Forest) → first.id ≢ parent → put_below parent at n below (Grow first firsts others) ≡ Grow first (put_below parent at n below firsts) (put_below parent at n below others)
put_below-other first firsts others parent at n below other = grind (arith, nat_tests)

-- putting a tree below a node adds the ids of that tree
pub occurrences-put_below : (f : Forest) (parent at : ℕ) (n : Label) (below : Forest) (id : ℕ) → occurrences f parent ≡ 1 → occurrences (put_below parent at n below f) id ≡ occurrences (single n below) id + occurrences f id
occurrences-put_below End parent at n below id once = absurd (omega arith)
occurrences-put_below (Grow first firsts others) parent at n below id once =
    grind (arith, nat_tests, occurrences-put_in firsts at n below id, put_below-absent firsts parent at n below, put_below-absent others parent at n below, occurrences-put_below firsts parent at n below id, occurrences-put_below others parent at n below id)

-- the ids at the head of the trees, with one put in
pub roots-put_in : (f : Forest) (at : ℕ) (n : Label) (below : Forest) → at ≤ length (roots_of f) → roots_of (put_in at n below f) ≡ insert (roots_of f) at n.id
roots-put_in f zero n below within = refl
roots-put_in End (suc at) n below within = absurd (omega arith)
roots-put_in (Grow first firsts others) (suc at) n below within = ap (λ ids. first.id ∷ ids) (roots-put_in others at n below (omega arith))

-- nothing changes at the head of the trees
pub roots-put_below : (f : Forest) (parent at : ℕ) (n : Label) (below : Forest) → roots_of (put_below parent at n below f) ≡ roots_of f
roots-put_below End parent at n below = refl
roots-put_below (Grow first firsts others) parent at n below = grind (arith, nat_tests, roots-put_below others parent at n below)

-- the number of nodes, with a tree put in
pub node_count-put_in : (f : Forest) (at : ℕ) (n : Label) (below : Forest) → node_count (put_in at n below f) ≡ 1 + node_count below + node_count f
node_count-put_in f zero n below = grind arith
node_count-put_in End (suc at) n below = grind arith
node_count-put_in (Grow first firsts others) (suc at) n below = grind (arith, node_count-put_in others at n below)

pub node_count-put_below : (f : Forest) (parent at : ℕ) (n : Label) (below : Forest) → occurrences f parent ≡ 1 → node_count (put_below parent at n below f) ≡ 1 + node_count below + node_count f
node_count-put_below End parent at n below once = absurd (omega arith)
node_count-put_below (Grow first firsts others) parent at n below once =
    grind (arith, nat_tests, node_count-put_in firsts at n below, put_below-absent firsts parent at n below, put_below-absent others parent at n below, node_count-put_below firsts parent at n below, node_count-put_below others parent at n below)

-- what a reader sees of an id in trees that stand below these ancestors
abbrev pub node_in : List Label → Forest → ℕ → Option Node
node_in above f id = option_map node_at (placed_in above f id)

-- a node with one more child, where it is the parent
abbrev pub with_child : ℕ → ℕ → ℕ → Node → Node
with_child parent at child n = if n.id == parent then record n { children = insert n.children at child } else n

-- the ancestors of the children of an id
abbrev pub ancestors_in : List Label → Forest → ℕ → List Label
ancestors_in above f id = option_map_or (λ p. p.label ∷ p.above) (placed_in above f id) []

-- the number of children of an id
abbrev pub children_in : List Label → Forest → ℕ → ℕ
children_in above f id = option_map_or (λ p. length (roots_of p.below)) (placed_in above f id) 0

pub map-or : {A B : Type 0} (f : A → B) (x y : Option A) → option_map f (option_or x y) ≡ option_or (option_map f x) (option_map f y)
map-or f None y = refl
map-or f (Some x) y = refl

-- of one, or of one of two others, each changed
pub if_map : {X Y : Type 0} (g : X → Y) (b : Bool) (x : X) (o o' : Option X) (y : Y) (u u' : Option Y) → y ≡ g x → u ≡ option_map g o → u' ≡ option_map g o' → (if b then Some y else option_or u u') ≡ option_map g (if b then Some x else option_or o o')
if_map g true x o o' y u u' same first second = ap Some same
if_map g false x o o' y u u' same first second = rw (first, second) (sym (map-or g o o'))

or_assoc : {A : Type 0} (x y z : Option A) → option_or (option_or x y) z ≡ option_or x (option_or y z)
or_assoc None y z = refl
or_assoc (Some x) y z = refl

pub or-none : {A : Type 0} (x : Option A) → option_or x None ≡ x
or-none None = refl
or-none (Some x) = refl

-- a node is at the head, or below it, or in the other trees
pub node_in-cons : (n : Label) (below others : Forest) (above : List Label) (id : ℕ) → node_in above (Grow n below others) id ≡ (if n.id == id then Some (node_at (record { label = n; above = above; below = below })) else option_or (node_in (n ∷ above) below id) (node_in above others id))
node_in-cons n below others above id = elim (n.id == id) as (λ b. option_map node_at (if b then Some (record { label = n; above = above; below = below }) else option_or (placed_in (n ∷ above) below id) (placed_in above others id)) ≡ (if b then Some (node_at (record { label = n; above = above; below = below })) else option_or (node_in (n ∷ above) below id) (node_in above others id))) [
  | true ↦ refl
  | false ↦ map-or node_at (placed_in (n ∷ above) below id) (placed_in above others id)
]

pub node_in-absent : (f : Forest) (above : List Label) (id : ℕ) → occurrences f id ≡ 0 → node_in above f id ≡ None
node_in-absent f above id none = ap (option_map node_at) (placed_in-absent f above id none)

node_in-put_first : (f : Forest) (above : List Label) (n : Label) (below : Forest) (id : ℕ) → occurrences (single n below) id + occurrences f id ≤ 1 → node_in above (Grow n below f) id ≡ option_or (node_in above f id) (node_in above (single n below) id)
node_in-put_first f above n below id apart = rw (node_in-cons n below f above id, node_in-cons n below End above id)
    (grind (arith, nat_tests, or-none (node_in (n ∷ above) below id), node_in-absent f above id, node_in-absent below (n ∷ above) id))

-- looking an id up in trees with one more
pub node_in-put_in : (f : Forest) (above : List Label) (at : ℕ) (n : Label) (below : Forest) (id : ℕ) → occurrences (single n below) id + occurrences f id ≤ 1 → node_in above (put_in at n below f) id ≡ option_or (node_in above f id) (node_in above (single n below) id)
node_in-put_in f above zero n below id apart = node_in-put_first f above n below id apart
node_in-put_in End above (suc at) n below id apart = refl
node_in-put_in (Grow first firsts others) above (suc at) n below id apart =
    rw (node_in-cons first firsts (put_in at n below others) above id, node_in-cons first firsts others above id)
    (grind (arith, nat_tests, or_assoc (node_in (first ∷ above) firsts id) (node_in above others id) (node_in above (single n below) id), node_in-put_in others above at n below id))

-- a child more is none for the nodes of trees in which the parent isn't
with_child-absent : (f : Forest) (above : List Label) (parent at child id : ℕ) → occurrences f parent ≡ 0 → option_map (with_child parent at child) (node_in above f id) ≡ node_in above f id
with_child-absent End above parent at child id none = refl
with_child-absent (Grow n below others) above parent at child id none =
    rw (node_in-cons n below others above id)
    (grind (arith, nat_tests, map-or (with_child parent at child) (node_in (n ∷ above) below id) (node_in above others id), with_child-absent below (n ∷ above) parent at child id, with_child-absent others above parent at child id))

-- where an id is looked for when it isn't that of the first node
pub placed_in-below : (n : Label) (below others : Forest) (above : List Label) (id : ℕ) → n.id ≢ id → 0 < occurrences below id → placed_in above (Grow n below others) id ≡ placed_in (n ∷ above) below id
placed_in-below n below others above id other there = found (placed_in (n ∷ above) below id) (placed_in-present below (n ∷ above) id there)
  where
    found : (place : Option Placed) → is_some place ≡ true → (if n.id == id then Some (record { label = n; above = above; below = below }) else option_or place (placed_in above others id)) ≡ place
    found None some = absurd (false≢true some)
    found (Some p) some = grind (arith, nat_tests)

pub placed_in-others : (n : Label) (below others : Forest) (above : List Label) (id : ℕ) → n.id ≢ id → occurrences below id ≡ 0 → placed_in above (Grow n below others) id ≡ placed_in above others id
placed_in-others n below others above id other none = grind (arith, nat_tests, placed_in-absent below (n ∷ above) id)

-- two of which one at least is not there may change their places
or_swap : {A : Type 0} (a x y : Option A) → (x ≡ None) ⊎ (y ≡ None) → option_or (option_or a x) y ≡ option_or (option_or a y) x
or_swap a x y (inl none) = rw none (rw (or-none a) (sym (or-none (option_or a y))))
or_swap a x y (inr none) = rw none (rw (or-none a) (or-none (option_or a x)))

-- of two trees that share no id one at least has none of it
one_absent : (f g : Forest) (above above' : List Label) (id : ℕ) → occurrences f id + occurrences g id ≤ 1 → (node_in above f id ≡ None) ⊎ (node_in above' g id ≡ None)
one_absent f g above above' id apart = elim (cases_lt 0 (occurrences f id)) [
  | inl some ↦ inr (node_in-absent g above' id (omega arith))
  | inr none ↦ inl (node_in-absent f above id (omega arith))
]

module _ (first : Label) (firsts others : Forest) (above : List Label) (parent at : ℕ) (n : Label) (below : Forest) (id : ℕ) (apart : occurrences (single n below) id + occurrences (Grow first firsts others) id ≤ 1) where
  -- the node itself is the parent
  put_here : first.id ≡ parent → occurrences firsts parent ≡ 0 → occurrences others parent ≡ 0 → at ≤ length (roots_of firsts) →
      node_in above (Grow first (put_in at n below firsts) others) id ≡ option_or (option_map (with_child parent at n.id) (node_in above (Grow first firsts others) id)) (node_in (first ∷ above) (single n below) id)
  put_here here once once' within = rw (node_in-cons first (put_in at n below firsts) others above id, node_in-cons first firsts others above id, roots-put_in firsts at n below within)
      (grind (
        arith,
        nat_tests,
        node_in-put_in firsts (first ∷ above) at n below id,
        map-or (with_child parent at n.id) (node_in (first ∷ above) firsts id) (node_in above others id),
        with_child-absent firsts (first ∷ above) parent at n.id id,
        with_child-absent others above parent at n.id id,
        or_swap (node_in (first ∷ above) firsts id) (node_in (first ∷ above) (single n below) id) (node_in above others id),
        one_absent (single n below) others (first ∷ above) above id,
      ))

  -- the parent is below the node
  put_deeper : (new : List Label) (changed : Forest) → first.id ≢ parent → roots_of changed ≡ roots_of firsts → occurrences others parent ≡ 0 →
      node_in (first ∷ above) changed id ≡ option_or (option_map (with_child parent at n.id) (node_in (first ∷ above) firsts id)) (node_in new (single n below) id) →
      node_in above (Grow first changed others) id ≡ option_or (option_map (with_child parent at n.id) (node_in above (Grow first firsts others) id)) (node_in new (single n below) id)
  put_deeper new changed other same none known = rw (node_in-cons first changed others above id, node_in-cons first firsts others above id, same)
      (grind (
        arith,
        nat_tests,
        known,
        map-or (with_child parent at n.id) (node_in (first ∷ above) firsts id) (node_in above others id),
        with_child-absent others above parent at n.id id,
        or_swap (option_map (with_child parent at n.id) (node_in (first ∷ above) firsts id)) (node_in new (single n below) id) (node_in above others id),
        one_absent (single n below) others new above id,
      ))

  -- the parent is in the other trees
  put_beside : (new : List Label) (changed : Forest) → first.id ≢ parent → occurrences firsts parent ≡ 0 →
      node_in above changed id ≡ option_or (option_map (with_child parent at n.id) (node_in above others id)) (node_in new (single n below) id) →
      node_in above (Grow first firsts changed) id ≡ option_or (option_map (with_child parent at n.id) (node_in above (Grow first firsts others) id)) (node_in new (single n below) id)
  put_beside new changed other none known = rw (node_in-cons first firsts changed above id, node_in-cons first firsts others above id)
      (grind (
        arith,
        nat_tests,
        known,
        map-or (with_child parent at n.id) (node_in (first ∷ above) firsts id) (node_in above others id),
        with_child-absent firsts (first ∷ above) parent at n.id id,
        or_assoc (node_in (first ∷ above) firsts id) (option_map (with_child parent at n.id) (node_in above others id)) (node_in new (single n below) id),
      ))

-- looking an id up in trees with one more below the node `parent`: it is one of the nodes that were there, of which
-- the parent has a child more, or one of the new tree
pub node_in-put_below : (f : Forest) (above : List Label) (parent at : ℕ) (n : Label) (below : Forest) (id : ℕ) → occurrences f parent ≡ 1 → at ≤ children_in above f parent → occurrences (single n below) id + occurrences f id ≤ 1 → node_in above (put_below parent at n below f) id ≡ option_or (option_map (with_child parent at n.id) (node_in above f id)) (node_in (ancestors_in above f parent) (single n below) id)
node_in-put_below End above parent at n below id once within apart = absurd (omega arith)
node_in-put_below (Grow first firsts others) above parent at n below id once within apart = elim (cases_eq first.id parent) [
  | inl here ↦
      let none : occurrences firsts parent ≡ 0 = grind (arith, nat_tests) in
      let none' : occurrences others parent ≡ 0 = grind (arith, nat_tests) in
      let place : placed_in above (Grow first firsts others) parent ≡ Some (record { label = first; above = above; below = firsts }) = rw (← here) (placed_in-head first firsts others above) in
      rw (put_below-here first firsts others parent at n below here, ap (λ p. option_map_or (λ q. q.label ∷ q.above) p []) place)
      (put_here first firsts others above parent at n below id apart here none none' (subst (λ (p : Option Placed). at ≤ option_map_or (λ q. length (roots_of q.below)) p 0) place within))
  | inr other ↦ elim (cases_lt 0 (occurrences firsts parent)) [
    | inl some ↦
        let none : occurrences others parent ≡ 0 = grind (arith, nat_tests) in
        let once' : occurrences firsts parent ≡ 1 = grind (arith, nat_tests) in
        let place = placed_in-below first firsts others above parent other some in
        rw (put_below-other first firsts others parent at n below other, put_below-absent others parent at n below none, ap (λ p. option_map_or (λ q. q.label ∷ q.above) p []) place)
        (put_deeper first firsts others above parent at n below id apart _ _ other (roots-put_below firsts parent at n below) none
        (node_in-put_below firsts (first ∷ above) parent at n below id once' (subst (λ (p : Option Placed). at ≤ option_map_or (λ q. length (roots_of q.below)) p 0) place within) (grind (arith, nat_tests))))
    | inr few ↦
        let none : occurrences firsts parent ≡ 0 = omega arith in
        let once' : occurrences others parent ≡ 1 = grind (arith, nat_tests) in
        let place = placed_in-others first firsts others above parent other none in
        rw (put_below-other first firsts others parent at n below other, put_below-absent firsts parent at n below none, ap (λ p. option_map_or (λ q. q.label ∷ q.above) p []) place)
        (put_beside first firsts others above parent at n below id apart _ _ other none
        (node_in-put_below others above parent at n below id once' (subst (λ (p : Option Placed). at ≤ option_map_or (λ q. length (roots_of q.below)) p 0) place within) (grind (arith, nat_tests))))
  ]
]
