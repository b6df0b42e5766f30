-- What stands next to a node is near it, and a list of ids with one more, where it is new.
use Rattle.std.proofs.Common.{◌≡◌, ◌⊎◌, ℕ, ◌<◌, ◌≤◌, ◌==◌, List, [], ◌∷◌, ◌++◌, ◌+◌, length, take, get_or, add-one, cond, Option, Some, None, is_some, Bool, true, false, refl, sym, ap, ◌∙◌, subst, inl, inr, arith}
use Rattle.std.specs.Prelude.{if◌then◌else◌, not, ◌||◌, ◌&&◌}
use Rattle.std.specs.Option.{option_map_or}
use Rattle.std.specs.BTreeMap.{is_at}
use Rattle.std.specs.Ordering.{nat_cmp}
use Rattle.std.proofs.Math.Seq.{take-suc}
use Rattle.std.proofs.lemmas.Grind.{common_steps}
use Rattle.std.proofs.lemmas.List.{append-nil}
use Rattle.std.proofs.lemmas.Bool.{cases_eq, false≢true}
use Rattle.std.proofs.lemmas.Bool.Decides.{nat_tests}
use Rattle.box_tree.specs.Forest.{Label, Forest, End, Grow, Placed, placed_in, roots_of, occurrences}
use Rattle.box_tree.specs.Contents.{Contents, placed_of, below_of, ancestors_of, parent_id, has_id, IsValid}
use Rattle.box_tree.specs.Containing.{makes_context}
use Rattle.box_tree.specs.Planned.{is_among, times_in}
use Rattle.box_tree.proofs.AddLemmas.{once_there}
use Rattle.box_tree.proofs.CountLemmas.{among-times, times_in-append}
use Rattle.box_tree.proofs.PlacedLemmas.{AreAtPlaces, page-at_places}
use Rattle.box_tree.proofs.SubtreeLemmas.{Head, Deeper, Beside, found_in}
use Rattle.stacking.specs.Frame.{is_next_to}
use Rattle.stacking.specs.Contexts.{context_of}
use Rattle.stacking.specs.Touched.{contexts_among, near, near_there}
use Rattle.stacking.proofs.FrameLemmas.{context-there}
use Rattle.stacking.proofs.TouchedLemmas.{among-both, among-filter, near-next, zero-absent}

module _ (page : Contents) (valid : IsValid page) where
  -- a node is a root of the trees in which it was found, or a child of its parent
  found-child : (f : Forest) (above : List Label) (k : ℕ) (q : Placed) → AreAtPlaces page above f → placed_in above f k ≡ Some q →
      ((q.above ≡ above) × (is_among (roots_of f) k ≡ true)) ⊎ (is_among (roots_of (below_of page (parent_id q.above))) k ≡ true)
  found-child End above k q known found = absurd cc
  found-child (Grow n below others) above k q known found = elim (found_in n below others above k q found) [
    | Head here is ↦ inl (ap (λ (p : Placed). p.above) is, grind (arith, nat_tests, here))
    | Deeper other is ↦ elim (found-child below (n ∷ above) k q known.1.0 is) [
      | inl child ↦ inr (
          ap (λ (a : List Label). is_among (roots_of (below_of page (parent_id a))) k) child.0
          ∙ ap (λ (o : Option Placed). is_among (roots_of (option_map_or (λ p. p.below) o End)) k) known.0
          ∙ child.1)
      | inr deeper ↦ inr deeper
    ]
    | Beside other is ↦ elim (found-child others above k q known.1.1 is) [
      | inl root ↦ inl (root.0, or-later (n.id == k) (is_among (roots_of others) k) root.1)
      | inr child ↦ inr child
    ]
  ]
    where
      or-later : (a b : Bool) → b ≡ true → (a || b) ≡ true
      or-later true b is = refl
      or-later false b is = is

  child-of : (id k : ℕ) → has_id page id ≡ true → has_id page k ≡ true → parent_id (ancestors_of page k) ≡ id → is_among (roots_of (below_of page id)) k ≡ true
  child-of id k there there' parent_is = by_place (placed_of page k) refl there'
    where
      by_place : (o : Option Placed) → placed_of page k ≡ o → is_some o ≡ true → is_among (roots_of (below_of page id)) k ≡ true
      by_place None found some = absurd (false≢true some)
      by_place (Some q) found some =
          let is : parent_id q.above ≡ id = sym (ap (λ (o : Option Placed). parent_id (option_map_or (λ p. p.above) o [])) found) ∙ parent_is in
          elim (found-child page.tree [] k q (page-at_places page valid) found) [
            | inl root ↦
                let zero_is : 0 ≡ id = sym (ap parent_id root.0) ∙ is in
                absurd (omega (arith, once_there page id valid there, zero-absent page valid, ap (λ (i : ℕ). occurrences page.tree i) zero_is))
            | inr child ↦ subst (λ (i : ℕ). is_among (roots_of (below_of page i)) k ≡ true) is child
          ]

  -- a stacking context that is next to a node is near it
  next-near : (id k : ℕ) → has_id page id ≡ true → makes_context page k ≡ true → is_next_to page id k ≡ true → is_among (near page id) k ≡ true
  next-near id k there real next = by_tests (context_of page id == k) (id == k) (parent_id (ancestors_of page k) == id) (is_among (roots_of (below_of page id)) k) child next
    where
      child : (parent_id (ancestors_of page k) == id) ≡ true → is_among (roots_of (below_of page id)) k ≡ true
      child is = child-of id k there (context-there page k real) (grind (arith, nat_tests, is))

      by_tests : (a b c d : Bool) → (c ≡ true → d ≡ true) → (a || (b || c)) ≡ true → (a || (b || d)) ≡ true
      by_tests true b c d more is = refl
      by_tests false true c d more is = refl
      by_tests false false c d more is = more is

  -- the contexts that are to be made anew
  module _ (node : ℕ) (touched : List ℕ) (k : ℕ) where
    abbrev pub all : List ℕ
    all = contexts_among page (near_there page node ++ touched)

    among-all : is_among all k ≡ ((is_among (near_there page node) k || is_among touched k) && makes_context page k)
    among-all = among-filter (makes_context page) (near_there page node ++ touched) k ∙ ap (λ b. b && makes_context page k) (among-both (near_there page node) touched k)

    joined : (a b c : Bool) → c ≡ true → (a ≡ true) ⊎ (b ≡ true) → ((a || b) && c) ≡ true
    joined true b true is one = refl
    joined false true true is one = refl
    joined false false true is (inl one) = one
    joined false false true is (inr one) = one
    joined a b false is one = absurd (false≢true is)

    parted : (a b c : Bool) → ((a || b) && c) ≡ true → (c ≡ true) × ((a ≡ true) ⊎ (b ≡ true))
    parted true b true is = (refl, inl refl)
    parted false true true is = (refl, inr refl)
    parted false false true is = absurd (false≢true is)
    parted true b false is = absurd (false≢true is)
    parted false true false is = absurd (false≢true is)
    parted false false false is = absurd (false≢true is)

    pub all-real : is_among all k ≡ true → makes_context page k ≡ true
    all-real is = (parted (is_among (near_there page node) k) (is_among touched k) (makes_context page k) (sym among-all ∙ is)).0

    pub all-touched : is_among touched k ≡ true → makes_context page k ≡ true → is_among all k ≡ true
    all-touched is real = among-all ∙ joined (is_among (near_there page node) k) (is_among touched k) (makes_context page k) real (inr is)

    pub all-next : has_id page node ≡ true → makes_context page k ≡ true → is_next_to page node k ≡ true → is_among all k ≡ true
    all-next there real next =
        let is_near = ap (λ b. is_among (if b then near page node else []) k) there ∙ next-near node k there real next in
        among-all ∙ joined (is_among (near_there page node) k) (is_among touched k) (makes_context page k) real (inl is_near)

    pub all-only : is_among all k ≡ true → (is_among touched k ≡ true) ⊎ ((has_id page node ≡ true) × (is_next_to page node k ≡ true))
    all-only is = elim (parted (is_among (near_there page node) k) (is_among touched k) (makes_context page k) (sym among-all ∙ is)).1 [
      | inl is_near ↦ inr (by_test (has_id page node) refl is_near)
      | inr was ↦ inl was
    ]
      where
        by_test : (b : Bool) → has_id page node ≡ b → is_among (if b then near page node else []) k ≡ true → (has_id page node ≡ true) × (is_next_to page node k ≡ true)
        by_test true there is_near = (there, near-next page valid node k is_near)
        by_test false absent is_near = absurd (false≢true is_near)

-- ids that were collected from those that were seen, with one more of these
module _ (once seen : List ℕ) (x q : ℕ) (same : (k : ℕ) → is_among once k ≡ is_among seen k) where
  pub same-more : is_among (once ++ (if not (is_among seen x) then x ∷ [] else [])) q ≡ is_among (seen ++ x ∷ []) q
  same-more = by_test (is_among seen x) refl
    where
      by_test : (b : Bool) → is_among seen x ≡ b → is_among (once ++ (if not b then x ∷ [] else [])) q ≡ is_among (seen ++ x ∷ []) q
      by_test true there = ap (λ ids. is_among ids q) (append-nil once) ∙ same q ∙ already ∙ sym (among-both seen (x ∷ []) q)
        where
          already : is_among seen q ≡ (is_among seen q || ((x == q) || false))
          already = elim (cases_eq x q) [
            | inl is ↦ let there' = sym (ap (is_among seen) is) ∙ there in there' ∙ sym (ap (λ b. b || ((x == q) || false)) there')
            | inr other ↦ grind (arith, nat_tests)
          ]
      by_test false apart = among-both once (x ∷ []) q ∙ ap (λ b. b || ((x == q) || false)) (same q) ∙ sym (among-both seen (x ∷ []) q)

  pub once-more : times_in q once ≤ 1 → times_in q (once ++ (if not (is_among seen x) then x ∷ [] else [])) ≤ 1
  once-more few = by_test (is_among seen x) refl
    where
      by_test : (b : Bool) → is_among seen x ≡ b → times_in q (once ++ (if not b then x ∷ [] else [])) ≤ 1
      by_test true there = omega (arith, ap (times_in q) (append-nil once), few)
      by_test false apart =
          let both = times_in-append q once (x ∷ []) in
          elim (cases_eq x q) [
            | inl is ↦
                let none = sym (among-times once q) ∙ same q ∙ ap (is_among seen) (sym is) ∙ apart in
                grind (arith, nat_tests, both, none)
            | inr other ↦ grind (arith, nat_tests, both, few)
          ]

-- a set with one more id
pub seen-more : (seen : List ℕ) (x q : ℕ) (before : Bool) → before ≡ is_among seen q → cond (is_at (nat_cmp x) q) true before ≡ is_among (seen ++ x ∷ []) q
seen-more seen x q before same = rw same (one_more (is_among seen q) ∙ sym (among-both seen (x ∷ []) q))
  where
    one_more : (there : Bool) → cond (is_at (nat_cmp x) q) true there ≡ (there || ((x == q) || false))
    one_more there = grind (arith, nat_tests, common_steps)

-- some members of a list, and one more of them
pub take-more : (ids : List ℕ) (k : ℕ) → k < length ids → take (k + 1) ids ≡ take k ids ++ get_or ids k 0 ∷ []
take-more ids k within = rw (add-one k) (take-suc ids k 0 within)
