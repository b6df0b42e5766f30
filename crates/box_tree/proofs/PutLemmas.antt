-- What holds of trees with one more.
use Rattle.std.proofs.Common.{◌≡◌, ◌≢◌, ◌⊎◌, ℕ, zero, suc, ◌+◌, ◌≤◌, max, List, [], ◌∷◌, length, Some, refl, ap, subst, inl, inr, arith}
use Rattle.std.specs.Option.{option_map_or}
use Rattle.std.proofs.lemmas.Bool.{cases_lt, cases_eq}
use Rattle.std.proofs.lemmas.Bool.Decides.{nat_tests}
use Rattle.box_tree.specs.Forest.{Label, Forest, End, Grow, height_of, occurrences, placed_in, EachNode}
use Rattle.box_tree.specs.Contents.{IsGiven}
use Rattle.box_tree.specs.Edited.{put_in, put_below}
use Rattle.box_tree.proofs.ForestLemmas.{single, ancestors_in, placed_in-head, placed_in-below, placed_in-others, put_below-absent, put_below-here, put_below-other}

-- where a tree is put below a node: the node is the first, or it is below the first, or it is in the other trees
pub data Where (first : Label) (firsts others : Forest) (above : List Label) (parent at : ℕ) (n : Label) (below : Forest) : Type 0 where
  Here : first.id ≡ parent → put_below parent at n below (Grow first firsts others) ≡ Grow first (put_in at n below firsts) others → ancestors_in above (Grow first firsts others) parent ≡ first ∷ above → Where first firsts others above parent at n below
  Deeper : occurrences firsts parent ≡ 1 → put_below parent at n below (Grow first firsts others) ≡ Grow first (put_below parent at n below firsts) others → ancestors_in above (Grow first firsts others) parent ≡ ancestors_in (first ∷ above) firsts parent → Where first firsts others above parent at n below
  Beside : occurrences others parent ≡ 1 → put_below parent at n below (Grow first firsts others) ≡ Grow first firsts (put_below parent at n below others) → ancestors_in above (Grow first firsts others) parent ≡ ancestors_in above others parent → Where first firsts others above parent at n below

pub where_put : (first : Label) (firsts others : Forest) (above : List Label) (parent at : ℕ) (n : Label) (below : Forest) → occurrences (Grow first firsts others) parent ≡ 1 → Where first firsts others above parent at n below
where_put first firsts others above parent at n below once = elim (cases_eq first.id parent) [
  | inl here ↦
      let place : placed_in above (Grow first firsts others) parent ≡ Some (record { label = first; above = above; below = firsts }) = rw (← here) (placed_in-head first firsts others above) in
      Here here (put_below-here first firsts others parent at n below here) (ap (λ p. option_map_or (λ q. q.label ∷ q.above) p []) place)
  | inr other ↦ elim (cases_lt 0 (occurrences firsts parent)) [
    | inl some ↦
        let none : occurrences others parent ≡ 0 = grind (arith, nat_tests) in
        Deeper (grind (arith, nat_tests)) (rw (put_below-other first firsts others parent at n below other, put_below-absent others parent at n below none) refl)
        (ap (λ p. option_map_or (λ q. q.label ∷ q.above) p []) (placed_in-below first firsts others above parent other some))
    | inr few ↦
        let none : occurrences firsts parent ≡ 0 = omega arith in
        Beside (grind (arith, nat_tests)) (rw (put_below-other first firsts others parent at n below other, put_below-absent firsts parent at n below none) refl)
        (ap (λ p. option_map_or (λ q. q.label ∷ q.above) p []) (placed_in-others first firsts others above parent other none))
  ]
]

-- the levels of trees with one more
pub height-put_in : (f : Forest) (at : ℕ) (n : Label) (below : Forest) → height_of (put_in at n below f) ≡ max (height_of (single n below)) (height_of f)
height-put_in f zero n below = omega arith
height-put_in End (suc at) n below = omega arith
height-put_in (Grow first firsts others) (suc at) n below = omega (arith, height-put_in others at n below)

pub height-put_below : (f : Forest) (above : List Label) (parent at : ℕ) (n : Label) (below : Forest) (most : ℕ) → occurrences f parent ≡ 1 → length above + height_of f ≤ most → length (ancestors_in above f parent) + height_of (single n below) ≤ most → length above + height_of (put_below parent at n below f) ≤ most
height-put_below End above parent at n below most once within fits = absurd (omega arith)
height-put_below (Grow first firsts others) above parent at n below most once within fits = elim (where_put first firsts others above parent at n below once) [
  | Here here put is ↦
      let fits' = subst (λ (a : List Label). length a + height_of (single n below) ≤ most) is fits in
      rw put (omega (arith, height-put_in firsts at n below))
  | Deeper once' put is ↦
      let fits' = subst (λ (a : List Label). length a + height_of (single n below) ≤ most) is fits in
      rw put (omega (arith, height-put_below firsts (first ∷ above) parent at n below most once' (omega arith) fits'))
  | Beside once' put is ↦
      let fits' = subst (λ (a : List Label). length a + height_of (single n below) ≤ most) is fits in
      rw put (omega (arith, height-put_below others above parent at n below most once' (omega arith) fits'))
]

-- what holds of each node of the trees, and of the one more, holds of each node of the trees with it
pub each-put_in : (P : List Label → Label → Type 0) (f : Forest) (above : List Label) (at : ℕ) (n : Label) (below : Forest) → EachNode P above f → EachNode P above (single n below) → EachNode P above (put_in at n below f)
each-put_in P f above zero n below each new = (new.0, (new.1.0, each))
each-put_in P End above (suc at) n below each new = new
each-put_in P (Grow first firsts others) above (suc at) n below each new = (each.0, (each.1.0, each-put_in P others above at n below each.1.1 new))

pub each-put_below : (P : List Label → Label → Type 0) (f : Forest) (above : List Label) (parent at : ℕ) (n : Label) (below : Forest) → occurrences f parent ≡ 1 → EachNode P above f → EachNode P (ancestors_in above f parent) (single n below) → EachNode P above (put_below parent at n below f)
each-put_below P End above parent at n below once each new = absurd (omega arith)
each-put_below P (Grow first firsts others) above parent at n below once each new = elim (where_put first firsts others above parent at n below once) [
  | Here here put is ↦ rw put (each.0, (each-put_in P firsts (first ∷ above) at n below each.1.0 (subst (λ a. EachNode P a (single n below)) is new), each.1.1))
  | Deeper once' put is ↦ rw put (each.0, (each-put_below P firsts (first ∷ above) parent at n below once' each.1.0 (subst (λ a. EachNode P a (single n below)) is new), each.1.1))
  | Beside once' put is ↦ rw put (each.0, (each.1.0, each-put_below P others above parent at n below once' each.1.1 (subst (λ a. EachNode P a (single n below)) is new)))
]

-- what follows for each node
pub each-map : (P Q : List Label → Label → Type 0) → ((above : List Label) (n : Label) → P above n → Q above n) → (f : Forest) (above : List Label) → EachNode P above f → EachNode Q above f
each-map P Q follows End above each = tt
each-map P Q follows (Grow n below others) above each = (follows above n each.0, (each-map P Q follows below (n ∷ above) each.1.0, each-map P Q follows others above each.1.1))

-- no node has the id 0, or one that was not given yet
pub given-absent : (f : Forest) (above : List Label) (next id : ℕ) → EachNode (IsGiven next) above f → (id ≡ 0) ⊎ (next ≤ id) → occurrences f id ≡ 0
given-absent End above next id each outside = refl
given-absent (Grow n below others) above next id each outside =
    let other : n.id ≢ id = λ same. not_given n next id each.0 outside same in
    grind (arith, nat_tests, given-absent below (n ∷ above) next id each.1.0 outside, given-absent others above next id each.1.1 outside)
  where
    not_given : (m : Label) (next' id' : ℕ) → IsGiven next' above m → (id' ≡ 0) ⊎ (next' ≤ id') → m.id ≢ id'
    not_given m next' id' given (inl zero_id) same = omega (arith, given.positive)
    not_given m next' id' given (inr late) same = omega (arith, given.below_next)
