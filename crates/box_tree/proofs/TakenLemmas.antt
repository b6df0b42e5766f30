-- What holds of trees without the tree of a node.
use Rattle.std.proofs.Common.{◌≡◌, ◌≢◌, ℕ, ◌+◌, ◌<◌, ◌≤◌, ◌==◌, List, [], ◌∷◌, length, Some, Bool, true, false, not, if◌then◌else◌, refl, sym, ap, ◌∙◌, subst, inl, inr, arith}
use Rattle.std.specs.Option.{option_map, option_map_or}
use Rattle.std.proofs.lemmas.Bool.{cases_lt, cases_eq}
use Rattle.std.proofs.lemmas.Bool.Decides.{nat_tests}
use Rattle.box_tree.specs.Forest.{Label, Forest, End, Grow, roots_of, node_count, height_of, occurrences, Placed, placed_in, EachNode}
use Rattle.box_tree.specs.Edited.{taken_out}
use Rattle.box_tree.specs.Planned.{ids_without}
use Rattle.box_tree.proofs.ForestLemmas.{placed_in-head, placed_in-below, placed_in-others}

-- the first node is the one that goes, or another one is
pub taken_out-head : (first : Label) (firsts others : Forest) (id : ℕ) → first.id ≡ id → taken_out id (Grow first firsts others) ≡ taken_out id others
taken_out-head first firsts others id here = grind (arith, nat_tests)

pub taken_out-other : (first : Label) (firsts others : Forest) (id : ℕ) → first.id ≢ id → taken_out id (Grow first firsts others) ≡ Grow first (taken_out id firsts) (taken_out id others)
taken_out-other first firsts others id other = grind (arith, nat_tests)

-- nothing goes where the node does not stand
pub taken_out-absent : (f : Forest) (id : ℕ) → occurrences f id ≡ 0 → taken_out id f ≡ f
taken_out-absent End id none = refl
taken_out-absent (Grow first firsts others) id none = grind (arith, nat_tests, taken_out-absent firsts id, taken_out-absent others id)

-- no id stands there more often, no level and no node is there more
pub occurrences-taken_out : (f : Forest) (id other : ℕ) → occurrences (taken_out id f) other ≤ occurrences f other
occurrences-taken_out End id other = omega arith
occurrences-taken_out (Grow first firsts others) id other = elim (cases_eq first.id id) [
  | inl here ↦ rw (taken_out-head first firsts others id here) (omega (arith, occurrences-taken_out others id other))
  | inr apart ↦ rw (taken_out-other first firsts others id apart) (omega (arith, occurrences-taken_out firsts id other, occurrences-taken_out others id other))
]

pub height-taken_out : (f : Forest) (id : ℕ) → height_of (taken_out id f) ≤ height_of f
height-taken_out End id = omega arith
height-taken_out (Grow first firsts others) id = elim (cases_eq first.id id) [
  | inl here ↦ rw (taken_out-head first firsts others id here) (omega (arith, height-taken_out others id))
  | inr apart ↦ rw (taken_out-other first firsts others id apart) (omega (arith, height-taken_out firsts id, height-taken_out others id))
]

pub node_count-taken_out : (f : Forest) (id : ℕ) → node_count (taken_out id f) ≤ node_count f
node_count-taken_out End id = omega arith
node_count-taken_out (Grow first firsts others) id = elim (cases_eq first.id id) [
  | inl here ↦ rw (taken_out-head first firsts others id here) (omega (arith, node_count-taken_out others id))
  | inr apart ↦ rw (taken_out-other first firsts others id apart) (omega (arith, node_count-taken_out firsts id, node_count-taken_out others id))
]

-- what holds of each node holds of each that stays
pub each-taken_out : (P : List Label → Label → Type 0) (f : Forest) (above : List Label) (id : ℕ) → EachNode P above f → EachNode P above (taken_out id f)
each-taken_out P End above id each = tt
each-taken_out P (Grow first firsts others) above id each = elim (cases_eq first.id id) [
  | inl here ↦ rw (taken_out-head first firsts others id here) (each-taken_out P others above id each.1.1)
  | inr apart ↦ rw (taken_out-other first firsts others id apart) (each.0, (each-taken_out P firsts (first ∷ above) id each.1.0, each-taken_out P others above id each.1.1))
]

-- the ids at the head are those that stay
pub roots-taken_out : (f : Forest) (id : ℕ) → roots_of (taken_out id f) ≡ ids_without id (roots_of f)
roots-taken_out End id = refl
roots-taken_out (Grow first firsts others) id = grind (arith, nat_tests, roots-taken_out others id)

pub length-ids_without : (ids : List ℕ) (id : ℕ) → length (ids_without id ids) ≤ length ids
length-ids_without [] id = omega arith
length-ids_without (first ∷ ids) id = by_test (not (first == id)) (length-ids_without ids id)
  where
    by_test : (b : Bool) → length (ids_without id ids) ≤ length ids → length (if b then first ∷ ids_without id ids else ids_without id ids) ≤ length (first ∷ ids)
    by_test true fewer = omega (arith, fewer)
    by_test false fewer = omega (arith, fewer)

-- the place of a node that stays, without the tree of one that goes
abbrev pub place_without : ℕ → Placed → Placed
place_without id p = record p { below = taken_out id p.below }

pub placed_in-taken_out : (f : Forest) (above : List Label) (id other : ℕ) → occurrences f other ≤ 1 → 0 < occurrences (taken_out id f) other → placed_in above (taken_out id f) other ≡ option_map (place_without id) (placed_in above f other)
placed_in-taken_out End above id other once some = refl
placed_in-taken_out (Grow first firsts others) above id other once some = elim (cases_eq first.id id) [
  | inl here ↦
      let some' : 0 < occurrences (taken_out id others) other = subst (λ (f : Forest). 0 < occurrences f other) (taken_out-head first firsts others id here) some in
      let more = occurrences-taken_out others id other in
      let none : occurrences firsts other ≡ 0 = grind (arith, nat_tests) in
      let ne : first.id ≢ other = grind (arith, nat_tests) in
      rw (taken_out-head first firsts others id here, placed_in-others first firsts others above other ne none) (placed_in-taken_out others above id other (omega (arith, once)) some')
  | inr apart ↦ rw (taken_out-other first firsts others id apart) (elim (cases_eq first.id other) [
    | inl same ↦ rw (← same) (placed_in-head first (taken_out id firsts) (taken_out id others) above ∙ sym (ap (option_map (place_without id)) (placed_in-head first firsts others above)))
    | inr ne ↦
        let some' : 0 < occurrences (Grow first (taken_out id firsts) (taken_out id others)) other = subst (λ (f : Forest). 0 < occurrences f other) (taken_out-other first firsts others id apart) some in
        let more = occurrences-taken_out firsts id other in
        let more' = occurrences-taken_out others id other in
        elim (cases_lt 0 (occurrences (taken_out id firsts) other)) [
          | inl deeper ↦
              placed_in-below first (taken_out id firsts) (taken_out id others) above other ne deeper
              ∙ placed_in-taken_out firsts (first ∷ above) id other (omega (arith, once)) deeper
              ∙ sym (ap (option_map (place_without id)) (placed_in-below first firsts others above other ne (omega (arith, deeper, more))))
          | inr few ↦
              let beside : 0 < occurrences (taken_out id others) other = grind (arith, nat_tests) in
              let none : occurrences firsts other ≡ 0 = grind (arith, nat_tests) in
              placed_in-others first (taken_out id firsts) (taken_out id others) above other ne (omega (arith, few))
              ∙ placed_in-taken_out others above id other (omega (arith, once)) beside
              ∙ sym (ap (option_map (place_without id)) (placed_in-others first firsts others above other ne none))
        ]
  ])
]

-- the tree of a node of the trees
abbrev pub tree_in : List Label → Forest → ℕ → Forest
tree_in above f id = option_map_or (λ p. Grow p.label p.below End) (placed_in above f id) End

-- an id stands in the tree that goes or in what stays
pub occurrences-parted : (f : Forest) (above : List Label) (id other : ℕ) → occurrences f id ≤ 1 → occurrences f other ≡ occurrences (taken_out id f) other + occurrences (tree_in above f id) other
occurrences-parted End above id other once = refl
occurrences-parted (Grow first firsts others) above id other once = elim (cases_eq first.id id) [
  | inl here ↦
      let place : placed_in above (Grow first firsts others) id ≡ Some (record { label = first; above = above; below = firsts }) = rw (← here) (placed_in-head first firsts others above) in
      let none : occurrences others id ≡ 0 = grind (arith, nat_tests) in
      rw (taken_out-head first firsts others id here, taken_out-absent others id none, ap (λ p. option_map_or (λ q. Grow q.label q.below End) p End) place) (omega arith)
  | inr apart ↦ elim (cases_lt 0 (occurrences firsts id)) [
    | inl some ↦
        let none : occurrences others id ≡ 0 = grind (arith, nat_tests) in
        rw (taken_out-other first firsts others id apart, taken_out-absent others id none, ap (λ p. option_map_or (λ q. Grow q.label q.below End) p End) (placed_in-below first firsts others above id apart some))
        (omega (arith, occurrences-parted firsts (first ∷ above) id other (omega (arith, once))))
    | inr few ↦
        let none : occurrences firsts id ≡ 0 = omega arith in
        rw (taken_out-other first firsts others id apart, taken_out-absent firsts id none, ap (λ p. option_map_or (λ q. Grow q.label q.below End) p End) (placed_in-others first firsts others above id apart none))
        (omega (arith, occurrences-parted others above id other (omega (arith, once))))
  ]
]

-- a node is in the tree that goes or in what stays
pub node_count-parted : (f : Forest) (above : List Label) (id : ℕ) → occurrences f id ≤ 1 → node_count f ≡ node_count (taken_out id f) + node_count (tree_in above f id)
node_count-parted End above id once = refl
node_count-parted (Grow first firsts others) above id once = elim (cases_eq first.id id) [
  | inl here ↦
      let place : placed_in above (Grow first firsts others) id ≡ Some (record { label = first; above = above; below = firsts }) = rw (← here) (placed_in-head first firsts others above) in
      let none : occurrences others id ≡ 0 = grind (arith, nat_tests) in
      rw (taken_out-head first firsts others id here, taken_out-absent others id none, ap (λ p. option_map_or (λ q. Grow q.label q.below End) p End) place) (omega arith)
  | inr apart ↦ elim (cases_lt 0 (occurrences firsts id)) [
    | inl some ↦
        let none : occurrences others id ≡ 0 = grind (arith, nat_tests) in
        rw (taken_out-other first firsts others id apart, taken_out-absent others id none, ap (λ p. option_map_or (λ q. Grow q.label q.below End) p End) (placed_in-below first firsts others above id apart some))
        (omega (arith, node_count-parted firsts (first ∷ above) id (omega (arith, once))))
    | inr few ↦
        let none : occurrences firsts id ≡ 0 = omega arith in
        rw (taken_out-other first firsts others id apart, taken_out-absent firsts id none, ap (λ p. option_map_or (λ q. Grow q.label q.below End) p End) (placed_in-others first firsts others above id apart none))
        (omega (arith, node_count-parted others above id (omega (arith, once))))
  ]
]
