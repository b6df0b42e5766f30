-- Changes of the bounds of items, one after another, and what they make of a grid that has each number by its bounds.
use Rattle.std.proofs.Common.{◌≡◌, ◌≢◌, ℕ, zero, suc, ◌+◌, ◌<◌, ◌==◌, List, [], ◌∷◌, ◌++◌, length, get_or, set, take, ◌⊎◌, inl, inr, Bool, true, false, if◌then◌else◌, refl, sym, ap, subst, ◌∙◌, arith}
use Rattle.std.specs.Prelude.{All}
use Rattle.std.proofs.Math.Seq.{take-suc}
use Rattle.std.proofs.lemmas.Bool.{cases_eq}
use Rattle.std.proofs.lemmas.Bool.Decides.{nat_tests}
use Rattle.std.proofs.lemmas.Int.{ints}
use Rattle.std.proofs.lemmas.List.{get_or-set_same, get_or-set_other}
use Rattle.fractions.specs.declared.rect.Rect.{Rect}
use Rattle.affine.specs.Hull.{no_rect}
use Rattle.spatial_index.specs.declared.change.Change.{Change}
use Rattle.spatial_index.specs.Cells.{Region, IsCell, IsEmptyOrInside, is_met}
use Rattle.spatial_index.specs.Contents.{GridState, once_if, StandsBy, StandsNowhere, StandsAlike, AreOfDistinctItems, AreOfOthers}
use Rattle.box_tree.specs.Contents.{Contents}
use Rattle.box_tree.specs.Numbers.{ItemsState}
use Rattle.tree_edits.specs.Cells.{region_of, rect_under, IsGridOf, AreBoundsOf, IsGridBy}
use Rattle.tree_edits.specs.Changes.{placed_by}

-- bounds in their slot
rect-set : (bounds : List Rect) (i k : ℕ) (r : Rect) → i < length bounds → rect_under (set bounds i r) k ≡ (if i == k then r else rect_under bounds k)
rect-set bounds i k r within = elim (cases_eq i k) [
  | inl here ↦
      let same : (i == k) ≡ true = grind (arith, nat_tests) in
      ap (rect_under (set bounds i r)) (sym here) ∙ get_or-set_same bounds i r no_rect within ∙ sym (ap (λ (b : Bool). if b then r else rect_under bounds k) same)
  | inr other ↦
      let apart : (i == k) ≡ false = grind (arith, nat_tests) in
      get_or-set_other bounds i k r no_rect (λ e. other (sym e)) ∙ sym (ap (λ (b : Bool). if b then r else rect_under bounds k) apart)
]

-- changes after changes
pub placed-append : (xs ys : List Change) (k : ℕ) (before : Rect) → placed_by (xs ++ ys) k before ≡ placed_by ys k (placed_by xs k before)
placed-append [] ys k before = refl
placed-append (c ∷ xs) ys k before = placed-append xs ys k (if c.item == k then c.new else before)

-- one change more
pub placed-step : (bounds before : List Rect) (changes : List Change) (i : ℕ) (none : Change) → i < length changes → (get_or changes i none).item < length bounds →
    ((k : ℕ) → rect_under bounds k ≡ placed_by (take i changes) k (rect_under before k)) →
    (k : ℕ) → rect_under (set bounds (get_or changes i none).item (get_or changes i none).new) k ≡ placed_by (take (i + 1) changes) k (rect_under before k)
placed-step bounds before changes i none within room known k =
    let next : i + 1 ≡ suc i = omega arith in
    let c = get_or changes i none in
    rect-set bounds c.item k c.new room
    ∙ ap (λ (r : Rect). if c.item == k then c.new else r) (known k)
    ∙ sym (placed-append (take i changes) (c ∷ []) k (rect_under before k))
    ∙ ap (λ (xs : List Change). placed_by xs k (rect_under before k)) (sym (take-suc changes i none within) ∙ ap (λ (n : ℕ). take n changes) (sym next))

-- a number that no change is of keeps its bounds
pub placed-others : (changes : List Change) (k : ℕ) (before : Rect) → AreOfOthers k changes → placed_by changes k before ≡ before
placed-others [] k before others = refl
placed-others (c ∷ changes) k before others =
    let other : c.item ≢ k = others 0 c (omega arith) in
    let apart : (c.item == k) ≡ false = grind (arith, nat_tests) in
    ap (λ (b : Bool). placed_by changes k (if b then c.new else before)) apart
    ∙ placed-others changes k before (λ i d within. others (suc i) d (omega (arith, within)))

-- the number of one of distinct changes has its new bounds
pub placed-at : (changes : List Change) (i : ℕ) (d : Change) (before : Rect) → AreOfDistinctItems changes → i < length changes → placed_by changes (get_or changes i d).item before ≡ (get_or changes i d).new
placed-at [] i d before distinct within = absurd (omega (arith, within))
placed-at (c ∷ changes) zero d before distinct within =
    let same : (c.item == c.item) ≡ true = grind (arith, nat_tests) in
    ap (λ (b : Bool). placed_by changes c.item (if b then c.new else before)) same
    ∙ placed-others changes c.item c.new (λ i e later is. distinct 0 (suc i) e (omega arith) (omega (arith, later)) (sym is))
placed-at (c ∷ changes) (suc i) d before distinct within =
    placed-at changes i d (if c.item == (get_or changes i d).item then c.new else before)
    (λ j k e lt later. distinct (suc j) (suc k) e (omega (arith, lt)) (omega (arith, later))) (omega (arith, within))

-- a change of a number
pub record IsChanged (changes : List Change) (k : ℕ) : Type 0 where
  pub place : ℕ
  pub within : place < length changes
  pub item_is : (d : Change) → (get_or changes place d).item ≡ k

others-more : (c : Change) (changes : List Change) (k : ℕ) → c.item ≢ k → AreOfOthers k changes → AreOfOthers k (c ∷ changes)
others-more c changes k apart others zero d within = apart
others-more c changes k apart others (suc i) d within = others i d (omega (arith, within))

-- one of the changes is of a number, or none
pub which_change : (changes : List Change) (k : ℕ) → IsChanged changes k ⊎ AreOfOthers k changes
which_change [] k = inr (λ i d within. absurd (omega (arith, within)))
which_change (c ∷ changes) k = elim (cases_eq c.item k) [
  | inl same ↦ inl (record { place = 0; within = omega arith; item_is = λ d. same })
  | inr apart ↦ elim (which_change changes k) [
    | inl is ↦ inl (record { place = suc is.place; within = omega (arith, is.within); item_is = is.item_is })
    | inr others ↦ inr (others-more c changes k apart others)
  ]
]

-- ---- a grid by bounds

module _ (old new : GridState) (bounds after : List Rect) (changes : List Change) (by : IsGridBy old bounds) (distinct : AreOfDistinctItems changes) (region : new.region ≡ old.region)
    (known : (k : ℕ) → rect_under after k ≡ placed_by changes k (rect_under bounds k)) where
  abbrev none : Change
  none = record { item = 0; old = no_rect; new = no_rect }

  -- the new bounds of a number that is changed
  bounds-changed : (k : ℕ) (is : IsChanged changes k) → rect_under after k ≡ (get_or changes is.place none).new
  bounds-changed k is = known k ∙ ap (λ (n : ℕ). placed_by changes n (rect_under bounds k)) (sym (is.item_is none)) ∙ placed-at changes is.place none (rect_under bounds k) distinct is.within

  bounds-kept : (k : ℕ) → AreOfOthers k changes → rect_under after k ≡ rect_under bounds k
  bounds-kept k others = known k ∙ placed-others changes k (rect_under bounds k) others

  pub grid-changed : All (λ c. StandsBy new c.item c.new) changes → ((item : ℕ) → AreOfOthers item changes → StandsAlike old new item) → All (λ c. IsEmptyOrInside old.region c.new) changes → IsGridBy new after
  grid-changed moved alike inside = record {
    stands = λ k. elim (which_change changes k) [
      | inl is ↦
          subst (λ (r : Rect). StandsBy new k r) (sym (bounds-changed k is))
          (subst (λ (n : ℕ). StandsBy new n (get_or changes is.place none).new) (is.item_is none) (moved is.place none is.within))
      | inr others ↦ λ level column row cell.
          let cell' : IsCell old.region level column row = subst (λ (r : Region). IsCell r level column row) region cell in
          alike k others level column row cell' ∙ by.stands k level column row cell'
          ∙ ap (λ (r : Rect). once_if (is_met r level column row)) (sym (bounds-kept k others))
    ];
    inside = λ k.
        subst (λ (r : Region). IsEmptyOrInside r (rect_under after k)) (sym region)
        (elim (which_change changes k) [
          | inl is ↦ subst (IsEmptyOrInside old.region) (sym (bounds-changed k is)) (inside is.place none is.within)
          | inr others ↦ subst (IsEmptyOrInside old.region) (sym (bounds-kept k others)) (by.inside k)
        ]);
  }

-- a new grid, in which the items of the changes alone stand
pub grid-rebuilt : (new : GridState) (bounds after : List Rect) (changes : List Change) → AreOfDistinctItems changes → ((k : ℕ) → rect_under after k ≡ placed_by changes k (rect_under bounds k)) →
    All (λ c. StandsBy new c.item c.new) changes → ((item : ℕ) → AreOfOthers item changes → StandsNowhere new item) → ((k : ℕ) → AreOfOthers k changes → rect_under bounds k ≡ no_rect) →
    All (λ c. IsEmptyOrInside new.region c.new) changes → IsGridBy new after
unfolding is_met
grid-rebuilt new bounds after changes distinct known stand nowhere none inside = record {
  stands = λ k. elim (which_change changes k) [
    | inl is ↦
        subst (λ (r : Rect). StandsBy new k r) (sym (at k is))
        (subst (λ (n : ℕ). StandsBy new n (get_or changes is.place nothing).new) (is.item_is nothing) (stand is.place nothing is.within))
    | inr others ↦ subst (StandsBy new k) (sym (kept k others)) (nowhere k others)
  ];
  inside = λ k. elim (which_change changes k) [
    | inl is ↦ subst (IsEmptyOrInside new.region) (sym (at k is)) (inside is.place nothing is.within)
    | inr others ↦ subst (IsEmptyOrInside new.region) (sym (kept k others)) (inl (inl (omega (arith, ints))))
  ];
}
  where
    nothing : Change
    nothing = record { item = 0; old = no_rect; new = no_rect }

    at : (k : ℕ) (is : IsChanged changes k) → rect_under after k ≡ (get_or changes is.place nothing).new
    at k is = known k ∙ ap (λ (n : ℕ). placed_by changes n (rect_under bounds k)) (sym (is.item_is nothing)) ∙ placed-at changes is.place nothing (rect_under bounds k) distinct is.within

    kept : (k : ℕ) → AreOfOthers k changes → rect_under after k ≡ no_rect
    kept k others = known k ∙ placed-others changes k (rect_under bounds k) others ∙ none k others

-- a grid that has each number by the bounds of its item is the grid of the page
pub grid-of : (grid : GridState) (bounds : List Rect) (page : Contents) (items : ItemsState) → IsGridBy grid bounds → grid.region ≡ region_of page.viewport → AreBoundsOf bounds page items → IsGridOf grid page items
unfolding is_met
grid-of grid bounds page items by region are = record {
  region = region;
  stands = λ number item named. subst (StandsBy grid number) (are.named number item named) (by.stands number);
  no_other = λ number none. subst (StandsBy grid number) (are.no_other number none) (by.stands number);
}
