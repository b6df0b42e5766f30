-- What the nodes of trees have together, where trees change: for any number of a node.
use Rattle.std.proofs.Common.{◌≡◌, ℕ, zero, suc, ◌+◌, ◌≤◌, ◌==◌, List, ◌∷◌, Option, Some, None, if◌then◌else◌, Bool, true, false, refl, sym, ap, ◌∙◌, inl, inr, arith}
use Rattle.std.specs.Option.{option_or, option_map_or}
use Rattle.std.proofs.lemmas.Bool.{cases_lt, cases_eq}
use Rattle.std.proofs.lemmas.Bool.Decides.{nat_tests}
use Rattle.box_tree.specs.Forest.{Label, Forest, End, Grow, node_count, occurrences, Placed, placed_in}
use Rattle.box_tree.specs.declared.sums.Sums.{Sums}
use Rattle.box_tree.specs.Totals.{total_over}
use Rattle.box_tree.specs.Edited.{put_in, put_below, taken_out, relabelled}
use Rattle.box_tree.proofs.ForestLemmas.{single, placed_in-head, placed_in-below, placed_in-others, put_below-absent, put_below-here, put_below-other}
use Rattle.box_tree.proofs.TakenLemmas.{taken_out-head, taken_out-other, taken_out-absent, tree_in}

-- sums are known by their two numbers
pub same_sums : (sums others : Sums) → sums.boxes ≡ others.boxes → sums.vertices ≡ others.vertices → sums ≡ others
same_sums sums others boxes vertices = rw (boxes, vertices) refl

module _ (weight : Label → ℕ) where
  -- no node, and so nothing of one
  pub total-none : (f : Forest) → node_count f ≡ 0 → total_over weight f ≡ 0
  total-none End none = refl
  total-none (Grow n below others) none = absurd (omega arith)

  -- a tree more
  pub total-put_in : (f : Forest) (at : ℕ) (n : Label) (below : Forest) → total_over weight (put_in at n below f) ≡ total_over weight (single n below) + total_over weight f
  total-put_in f zero n below = omega arith
  total-put_in End (suc at) n below = omega arith
  total-put_in (Grow first firsts others) (suc at) n below = omega (arith, total-put_in others at n below)

  pub total-put_below : (f : Forest) (parent at : ℕ) (n : Label) (below : Forest) → occurrences f parent ≡ 1 → total_over weight (put_below parent at n below f) ≡ total_over weight (single n below) + total_over weight f
  total-put_below End parent at n below once = absurd (omega arith)
  total-put_below (Grow first firsts others) parent at n below once = elim (cases_eq first.id parent) [
    | inl here ↦ rw (put_below-here first firsts others parent at n below here) (omega (arith, total-put_in firsts at n below))
    | inr other ↦ rw (put_below-other first firsts others parent at n below other) (elim (cases_lt 0 (occurrences firsts parent)) [
      | inl some ↦
          let none : occurrences others parent ≡ 0 = grind (arith, nat_tests) in
          let once' : occurrences firsts parent ≡ 1 = grind (arith, nat_tests) in
          rw (put_below-absent others parent at n below none) (omega (arith, total-put_below firsts parent at n below once'))
      | inr few ↦
          let none : occurrences firsts parent ≡ 0 = omega arith in
          let once' : occurrences others parent ≡ 1 = grind (arith, nat_tests) in
          rw (put_below-absent firsts parent at n below none) (omega (arith, total-put_below others parent at n below once'))
    ])
  ]

  -- a tree less
  pub total-taken_out : (f : Forest) (id : ℕ) → total_over weight (taken_out id f) ≤ total_over weight f
  total-taken_out End id = omega arith
  total-taken_out (Grow first firsts others) id = elim (cases_eq first.id id) [
    | inl here ↦ rw (taken_out-head first firsts others id here) (omega (arith, total-taken_out others id))
    | inr apart ↦ rw (taken_out-other first firsts others id apart) (omega (arith, total-taken_out firsts id, total-taken_out others id))
  ]

  pub total-parted : (f : Forest) (above : List Label) (id : ℕ) → occurrences f id ≤ 1 → total_over weight f ≡ total_over weight (taken_out id f) + total_over weight (tree_in above f id)
  total-parted End above id once = refl
  total-parted (Grow first firsts others) above id once = elim (cases_eq first.id id) [
    | inl here ↦
        let place : placed_in above (Grow first firsts others) id ≡ Some (record { label = first; above = above; below = firsts }) = rw (← here) (placed_in-head first firsts others above) in
        let none : occurrences others id ≡ 0 = grind (arith, nat_tests) in
        rw (taken_out-head first firsts others id here, taken_out-absent others id none, ap (λ p. option_map_or (λ q. Grow q.label q.below End) p End) place) (omega arith)
    | inr apart ↦ elim (cases_lt 0 (occurrences firsts id)) [
      | inl some ↦
          let none : occurrences others id ≡ 0 = grind (arith, nat_tests) in
          rw (taken_out-other first firsts others id apart, taken_out-absent others id none, ap (λ p. option_map_or (λ q. Grow q.label q.below End) p End) (placed_in-below first firsts others above id apart some))
          (omega (arith, total-parted firsts (first ∷ above) id (omega (arith, once))))
      | inr few ↦
          let none : occurrences firsts id ≡ 0 = omega arith in
          rw (taken_out-other first firsts others id apart, taken_out-absent firsts id none, ap (λ p. option_map_or (λ q. Grow q.label q.below End) p End) (placed_in-others first firsts others above id apart none))
          (omega (arith, total-parted others above id (omega (arith, once))))
    ]
  ]

  -- the number of one node is at most that of all
  pub weight-placed : (f : Forest) (above : List Label) (id : ℕ) (p : Placed) → placed_in above f id ≡ Some p → weight p.label ≤ total_over weight f
  weight-placed End above id p found = absurd cc
  weight-placed (Grow n below others) above id p found =
      by_test (n.id == id) found (λ is. weight-placed below (n ∷ above) id p is) (λ is. weight-placed others above id p is)
    where
      in_parts : (o : Option Placed) → (o ≡ Some p → weight p.label ≤ total_over weight below) → (placed_in above others id ≡ Some p → weight p.label ≤ total_over weight others) → option_or o (placed_in above others id) ≡ Some p → weight p.label ≤ total_over weight (Grow n below others)
      in_parts None from_below from_others is = omega (arith, from_others is)
      in_parts (Some q) from_below from_others is = omega (arith, from_below is)

      by_test : (b : Bool) → (if b then Some (record { label = n; above = above; below = below }) else option_or (placed_in (n ∷ above) below id) (placed_in above others id)) ≡ Some p → (placed_in (n ∷ above) below id ≡ Some p → weight p.label ≤ total_over weight below) → (placed_in above others id ≡ Some p → weight p.label ≤ total_over weight others) → weight p.label ≤ total_over weight (Grow n below others)
      by_test true is from_below from_others = let label_is : n ≡ p.label = cc in omega (arith, ap weight label_is)
      by_test false is from_below from_others = in_parts (placed_in (n ∷ above) below id) from_below from_others is

  -- another label for a node
  module _ (id : ℕ) (change : Label → Label) where
    pub total-relabelled-same : ((n : Label) → weight (change n) ≡ weight n) → (f : Forest) → total_over weight (relabelled id change f) ≡ total_over weight f
    total-relabelled-same same End = refl
    total-relabelled-same same (Grow n below others) = omega (arith, by_test (n.id == id), total-relabelled-same same below, total-relabelled-same same others)
      where
        by_test : (b : Bool) → weight (if b then change n else n) ≡ weight n
        by_test true = same n
        by_test false = refl

    pub total-relabelled-absent : (f : Forest) → occurrences f id ≡ 0 → total_over weight (relabelled id change f) ≡ total_over weight f
    total-relabelled-absent End none = refl
    total-relabelled-absent (Grow n below others) none =
        let other : (n.id == id) ≡ false = grind (arith, nat_tests) in
        rw other (omega (arith, total-relabelled-absent below (grind arith), total-relabelled-absent others (grind arith)))

    pub total-relabelled : (f : Forest) (above : List Label) (p : Placed) → occurrences f id ≤ 1 → placed_in above f id ≡ Some p → total_over weight (relabelled id change f) + weight p.label ≡ total_over weight f + weight (change p.label)
    total-relabelled End above p once found = absurd cc
    total-relabelled (Grow n below others) above p once found = elim (cases_eq n.id id) [
      | inl here ↦
          let same : (n.id == id) ≡ true = grind (arith, nat_tests) in
          let none : occurrences below id ≡ 0 = grind (arith, nat_tests) in
          let none' : occurrences others id ≡ 0 = grind (arith, nat_tests) in
          let is : Some (record { label = n; above = above; below = below }) ≡ Some p = sym (rw (← here) (placed_in-head n below others above)) ∙ found in
          let label_is : n ≡ p.label = cc in
          rw (← label_is, same, total-relabelled-absent below none, total-relabelled-absent others none') (omega arith)
      | inr apart ↦
          let apart' : (n.id == id) ≡ false = grind (arith, nat_tests) in
          rw apart' (elim (cases_lt 0 (occurrences below id)) [
            | inl some ↦
                let none : occurrences others id ≡ 0 = grind (arith, nat_tests) in
                rw (total-relabelled-absent others none) (omega (arith, total-relabelled below (n ∷ above) p (omega (arith, once)) (sym (placed_in-below n below others above id apart some) ∙ found)))
            | inr few ↦
                let none : occurrences below id ≡ 0 = omega arith in
                rw (total-relabelled-absent below none) (omega (arith, total-relabelled others above p (omega (arith, once)) (sym (placed_in-others n below others above id apart none) ∙ found)))
          ])
    ]
