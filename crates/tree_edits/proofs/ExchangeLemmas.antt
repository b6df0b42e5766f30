-- Lists exchanged in a forest that follows the edits of a page.
use Rattle.std.proofs.Common.{◌≡◌, ◌≢◌, ◌⊎◌, ℕ, zero, suc, ◌<◌, ◌==◌, List, [], ◌∷◌, Some, None, IsSome, is_some, Bool, true, false, if◌then◌else◌, refl, sym, ap, ◌∙◌, subst, inl, inr, arith}
use Rattle.std.specs.Prelude.{◌||◌, ◌&&◌, not, unwrap_or}
use Rattle.std.specs.List.{AllByRecursion}
use Rattle.std.specs.Option.{option_map_or, option_or}
use Rattle.std.proofs.lemmas.Bool.{cases_eq, false≢true}
use Rattle.std.proofs.lemmas.Bool.Decides.{nat_tests}
use Rattle.box_tree.specs.Forest.{Forest, End, Grow, Placed, placed_in, roots_of}
use Rattle.box_tree.specs.Contents.{Contents, IsValid, IsGiven}
use Rattle.box_tree.specs.Containing.{parent_of, makes_context}
use Rattle.box_tree.specs.Numbers.{ItemsState}
use Rattle.box_tree.specs.Planned.{is_among}
use Rattle.box_tree.specs.Used.{is_real_context}
use Rattle.box_tree.proofs.PlacedLemmas.{id-placed_in}
use Rattle.box_tree.proofs.MoveLemmas.{each-placed}
use Rattle.paint_order.specs.declared.entry.Entry.{Entry}
use Rattle.paint_order.specs.Lists.{Lists, list_under, entries_of}
use Rattle.paint_order.specs.State.{State}
use Rattle.stacking.specs.Lists.{kept_list, HasOnlyListsOf}
use Rattle.stacking.proofs.MemberLemmas.{context_at}
use Rattle.tree_edits.specs.Exchange.{ContextList, IsListOf, contexts_of, MayExchange}
use Rattle.tree_edits.specs.Faithful.{root_number, is_bare, list_of}
use Rattle.tree_edits.proofs.TableLemmas.{Slot, all_made, all_made-is}

-- ---- ids of stacking contexts

-- a stacking context has an id from 1 to below the next one
pub given-context : (page : Contents) (id : ℕ) → IsValid page → makes_context page id ≡ true → (0 < id) × (id < page.next)
given-context page id valid real =
    let c = context_at page id real in
    let given = (each-placed (IsGiven page.next) page.tree [] id c.place valid.given c.found).0 in
    let same = id-placed_in page.tree [] id c.place c.found in
    (subst (λ (i : ℕ). 0 < i) same given.positive, subst (λ (i : ℕ). i < page.next) same given.below_next)

pub zero-no_context : (page : Contents) → IsValid page → makes_context page 0 ≡ false
zero-no_context page valid = by_test (makes_context page 0) refl
  where
    by_test : (b : Bool) → makes_context page 0 ≡ b → b ≡ false
    by_test true real = absurd (omega (arith, (given-context page 0 valid real).0))
    by_test false real = refl

-- the root is one
pub root-context : (page : Contents) → is_bare (roots_of page.tree) ≡ false → makes_context page (root_number (roots_of page.tree)) ≡ true
root-context page grown = by_tree page.tree grown
  where
    by_tree : (f : Forest) → is_bare (roots_of f) ≡ false → option_map_or (λ p. is_real_context (parent_of p.above) p.label) (placed_in [] f (root_number (roots_of f))) false ≡ true
    by_tree End none = absurd (false≢true (sym none))
    by_tree (Grow n below others) some =
        let same : (n.id == n.id) ≡ true = grind (arith, nat_tests) in
        let p : Placed = record { label = n; above = []; below = below } in
        ap (λ (b : Bool). option_map_or (λ p. is_real_context (parent_of p.above) p.label) (if b then Some p else option_or (placed_in (n ∷ []) below n.id) (placed_in [] others n.id)) false) same

-- lists of the page are those of stacking contexts
pub listed-real : (page : Contents) (items : ItemsState) (fresh : List ContextList) (id : ℕ) → AllByRecursion (IsListOf page items) fresh → is_among (contexts_of fresh) id ≡ true → makes_context page id ≡ true
listed-real page items [] id all among = absurd (false≢true among)
listed-real page items (l ∷ fresh) id all among = elim (cases_eq l.context id) [
  | inl here ↦ subst (λ (i : ℕ). makes_context page i ≡ true) here all.0.real
  | inr other ↦
      let is : (l.context == id) ≡ false = grind (arith, nat_tests) in
      listed-real page items fresh id all.1 (sym (ap (λ b. b || is_among (contexts_of fresh) id) is) ∙ among)
]

-- ---- the exchange

abbrev blank : Slot
blank = Some []

abbrev entries_in : Slot → List Entry
entries_in o = unwrap_or o []

-- one more list of the page
pub put-only : (page : Contents) (items : ItemsState) (before after : Lists) (context : ℕ) (entries : List Entry) → makes_context page context ≡ true → entries ≡ kept_list items page context →
    ((n : ℕ) → list_under after n ≡ (if context == n then Some entries else list_under before n)) → HasOnlyListsOf before page items → HasOnlyListsOf after page items
put-only page items before after context entries real listed is only = λ id. elim (cases_eq context id) [
  | inl here ↦
      let same : (context == id) ≡ true = grind (arith, nat_tests) in
      inr (subst (λ (k : ℕ). makes_context page k ≡ true) here real, ap entries_in (is id ∙ ap (λ (b : Bool). if b then Some entries else list_under before id) same) ∙ listed ∙ ap (kept_list items page) here)
  | inr other ↦
      let apart : (context == id) ≡ false = grind (arith, nat_tests) in
      let kept : entries_of after id ≡ entries_of before id = ap entries_in (is id ∙ ap (λ (b : Bool). if b then Some entries else list_under before id) apart) in
      elim (only id) [
        | inl none ↦ inl (kept ∙ none)
        | inr stands ↦ inr (stands.0, kept ∙ stands.1)
      ]
]

-- all new lists
pub all-put : (page : Contents) (items : ItemsState) (fresh : List ContextList) (n : ℕ) (before : Slot) → AllByRecursion (IsListOf page items) fresh →
    all_made (λ (list : ContextList). list.context) (λ list o. Some list.entries) fresh n before ≡ (if is_among (contexts_of fresh) n then Some (kept_list items page n) else before)
all-put page items fresh n before all = all_made-is (λ (list : ContextList). list.context) (λ list o. Some list.entries) n (λ o. Some (kept_list items page n)) (λ o. refl) fresh before (each fresh all)
  where
    each : (lists : List ContextList) → AllByRecursion (IsListOf page items) lists → AllByRecursion (λ (list : ContextList). list.context ≡ n → (o : Slot) → Some list.entries ≡ Some (kept_list items page n)) lists
    each [] all' = tt
    each (l ∷ lists) all' = (λ here o. ap Some (all'.0.listed ∙ ap (kept_list items page) here), each lists all'.1)

-- what the lists come to that stand under each number: where those of the touched contexts are empty, with the new ones, with
-- the root list set, and without those that are of no stacking context
module _ (page : Contents) (items : ItemsState) (forest : State) (touched : List ℕ) (fresh : List ContextList) (was_bare : Bool) (valid : IsValid page)
    (may : MayExchange forest page items touched fresh was_bare) where
  abbrev pub AreCleared : Lists → Type 0
  AreCleared lists = (id : ℕ) → list_under lists id ≡ (if is_among touched id then Some [] else list_under forest.lists id)

  abbrev pub ArePut : (before lists : Lists) → Type 0
  ArePut before lists = (id : ℕ) → list_under lists id ≡ (if is_among (contexts_of fresh) id then Some (kept_list items page id) else list_under before id)

  abbrev pub AreRooted : (before lists : Lists) → Type 0
  AreRooted before lists =
      (list_under lists 0 ≡ (if is_bare (roots_of page.tree) then Some [] else (if was_bare then None else list_under before 0)))
      × ((id : ℕ) → 0 < id → list_under lists id ≡ list_under before id)

  abbrev pub AreDropped : (before lists : Lists) → Type 0
  AreDropped before lists = (id : ℕ) → list_under lists id ≡ (if is_among touched id && not (makes_context page id) then None else list_under before id)

  module _ (cleared : Lists) (are_cleared : AreCleared cleared) where
    cleared-touched : (id : ℕ) → is_among touched id ≡ true → list_under cleared id ≡ Some []
    cleared-touched id is = are_cleared id ∙ ap (λ (b : Bool). if b then Some [] else list_under forest.lists id) is

    cleared-other : (id : ℕ) → is_among touched id ≡ false → list_under cleared id ≡ list_under forest.lists id
    cleared-other id is = are_cleared id ∙ ap (λ (b : Bool). if b then Some [] else list_under forest.lists id) is

    pub cleared-only : HasOnlyListsOf cleared page items
    cleared-only = λ id. by_tests id (is_among touched id) (makes_context page id) refl refl
      where
        empty : (b : Bool) → entries_in (if b then Some [] else None) ≡ []
        empty true = refl
        empty false = refl

        by_tests : (id : ℕ) (t m : Bool) → is_among touched id ≡ t → makes_context page id ≡ m → (entries_of cleared id ≡ []) ⊎ ((makes_context page id ≡ true) × (entries_of cleared id ≡ kept_list items page id))
        by_tests id true m is real = inl (ap entries_in (cleared-touched id is))
        by_tests id false true is real = elim (may.others id is real) [
          | inl stands ↦ inr (real, ap entries_in (cleared-other id is ∙ stands))
          | inr none ↦ inl (ap entries_in (cleared-other id is ∙ none.0))
        ]
        by_tests id false false is real = inl (ap entries_in (cleared-other id is ∙ may.none id is real) ∙ empty (was_bare && (id == 0)))

    module _ (put : Lists) (are_put : ArePut cleared put) where
      put-fresh : (id : ℕ) → is_among (contexts_of fresh) id ≡ true → list_under put id ≡ Some (kept_list items page id)
      put-fresh id is = are_put id ∙ ap (λ (b : Bool). if b then Some (kept_list items page id) else list_under cleared id) is

      put-other : (id : ℕ) → is_among (contexts_of fresh) id ≡ false → list_under put id ≡ list_under cleared id
      put-other id is = are_put id ∙ ap (λ (b : Bool). if b then Some (kept_list items page id) else list_under cleared id) is

      not_fresh : (id : ℕ) → makes_context page id ≡ false → is_among (contexts_of fresh) id ≡ false
      not_fresh id plain = by_test (is_among (contexts_of fresh) id) refl
        where
          by_test : (b : Bool) → is_among (contexts_of fresh) id ≡ b → b ≡ false
          by_test true is = absurd (false≢true (sym plain ∙ listed-real page items fresh id may.lists is))
          by_test false is = refl

      -- each stacking context has its list
      put-context : (id : ℕ) → makes_context page id ≡ true → list_under put id ≡ Some (kept_list items page id)
      put-context id real = by_tests (is_among (contexts_of fresh) id) (is_among touched id) refl refl
        where
          by_tests : (f t : Bool) → is_among (contexts_of fresh) id ≡ f → is_among touched id ≡ t → list_under put id ≡ Some (kept_list items page id)
          by_tests true t is is' = put-fresh id is
          by_tests false true is is' = absurd (false≢true (sym is ∙ may.renewed id is' real))
          by_tests false false is is' = elim (may.others id is' real) [
            | inl stands ↦ put-other id is ∙ cleared-other id is' ∙ stands
            | inr new ↦ absurd (false≢true (sym is ∙ new.1))
          ]

      -- what is none and was not touched has none, but the empty list of a page without a tree
      put-none : (id : ℕ) → is_among touched id ≡ false → makes_context page id ≡ false → list_under put id ≡ (if was_bare && (id == 0) then Some [] else None)
      put-none id is plain = put-other id (not_fresh id plain) ∙ cleared-other id is ∙ may.none id is plain

      zero-untouched : is_among touched 0 ≡ false
      zero-untouched = by_test (is_among touched 0) refl
        where
          by_test : (b : Bool) → is_among touched 0 ≡ b → b ≡ false
          by_test true is = absurd (omega (arith, may.positive 0 is))
          by_test false is = refl

      put-zero : list_under put 0 ≡ (if was_bare then Some [] else None)
      put-zero = put-none 0 zero-untouched (zero-no_context page valid) ∙ by_test was_bare
        where
          by_test : (b : Bool) → (if b && (0 == 0) then Some [] else None) ≡ (if b then blank else None)
          by_test true = refl
          by_test false = refl

      pub first-stands : was_bare ≡ true → IsSome (list_under put 0)
      first-stands was = ap is_some (put-zero ∙ ap (λ (b : Bool). if b then Some [] else None) was)

      pub root-stands : is_bare (roots_of page.tree) ≡ false → IsSome (list_under put (root_number (roots_of page.tree)))
      root-stands grown = ap is_some (put-context (root_number (roots_of page.tree)) (root-context page grown))

      pub root-positive : is_bare (roots_of page.tree) ≡ false → 0 < root_number (roots_of page.tree)
      root-positive grown = (given-context page (root_number (roots_of page.tree)) valid (root-context page grown)).0

      module _ (rooted : Lists) (are_rooted : AreRooted put rooted) where
        pub touched-stand : (id : ℕ) → is_among touched id ≡ true → IsSome (list_under rooted id)
        touched-stand id is = ap is_some (are_rooted.1 id (may.positive id is)) ∙ by_test (is_among (contexts_of fresh) id) refl
          where
            by_test : (b : Bool) → is_among (contexts_of fresh) id ≡ b → is_some (list_under put id) ≡ true
            by_test true new = ap is_some (put-fresh id new)
            by_test false old = ap is_some (put-other id old ∙ cleared-touched id is)

        pub touched-apart : (id : ℕ) → is_among touched id ≡ true → makes_context page id ≡ false → id ≢ root_number (roots_of page.tree)
        touched-apart id is plain = λ same. by_test same (is_bare (roots_of page.tree)) refl
          where
            bare-zero : (roots : List ℕ) → is_bare roots ≡ true → root_number roots ≡ 0
            bare-zero [] bare = refl
            bare-zero (root ∷ others) bare = absurd (false≢true bare)

            by_test : id ≡ root_number (roots_of page.tree) → (b : Bool) → is_bare (roots_of page.tree) ≡ b → ⊥
            by_test same true bare = omega (arith, same, bare-zero (roots_of page.tree) bare, may.positive id is)
            by_test same false grown = false≢true (sym plain ∙ ap (makes_context page) same ∙ root-context page grown)

        module _ (dropped : Lists) (are_dropped : AreDropped rooted dropped) where
          at : (id : ℕ) (t m : Bool) → is_among touched id ≡ t → makes_context page id ≡ m → list_under dropped id ≡ (if t && not m then None else list_under rooted id)
          at id t m is is' =
              are_dropped id
              ∙ ap (λ (b : Bool). if b && not (makes_context page id) then None else list_under rooted id) is
              ∙ ap (λ (b : Bool). if t && not b then None else list_under rooted id) is'

          expected : (id : ℕ) (m : Bool) → makes_context page id ≡ m → (if m then Some (kept_list items page id) else (if is_bare (roots_of page.tree) && (id == 0) then Some [] else None)) ≡ list_of page items id
          expected id m is = sym (ap (λ (b : Bool). if b then Some (kept_list items page id) else (if is_bare (roots_of page.tree) && (id == 0) then Some [] else None)) is)

          neither : (b c : Bool) → c ≡ false → (if b && c then blank else None) ≡ None
          neither true c is = ap (λ (x : Bool). if x then blank else None) is
          neither false c is = refl

          -- the list under 0
          zero-rooted : (bare was : Bool) → (if bare then Some [] else (if was then None else (if was then Some [] else None))) ≡ (if bare && (0 == 0) then blank else None)
          zero-rooted true was = refl
          zero-rooted false true = refl
          zero-rooted false false = refl

          plain-rooted : (id : ℕ) → is_among touched id ≡ false → makes_context page id ≡ false → list_under rooted id ≡ (if is_bare (roots_of page.tree) && (id == 0) then Some [] else None)
          plain-rooted zero is plain =
              are_rooted.0 ∙ ap (λ (o : Slot). if is_bare (roots_of page.tree) then Some [] else (if was_bare then None else o)) put-zero ∙ zero-rooted (is_bare (roots_of page.tree)) was_bare
          plain-rooted (suc id) is plain =
              let not_zero : (suc id == 0) ≡ false = grind (arith, nat_tests) in
              are_rooted.1 (suc id) (omega arith) ∙ put-none (suc id) is plain ∙ neither was_bare (suc id == 0) not_zero ∙ sym (neither (is_bare (roots_of page.tree)) (suc id == 0) not_zero)

          pub exchanged : (id : ℕ) → list_under dropped id ≡ list_of page items id
          exchanged id = by_tests (is_among touched id) (makes_context page id) refl refl
            where
              rest : (t : Bool) → (if t && false then None else list_under rooted id) ≡ list_under rooted id
              rest true = refl
              rest false = refl

              by_tests : (t m : Bool) → is_among touched id ≡ t → makes_context page id ≡ m → list_under dropped id ≡ list_of page items id
              by_tests t true is real = at id t true is real ∙ rest t ∙ are_rooted.1 id (given-context page id valid real).0 ∙ put-context id real ∙ expected id true real
              by_tests true false is plain =
                  let positive = may.positive id is in
                  let not_zero : (id == 0) ≡ false = grind (arith, nat_tests, positive) in
                  at id true false is plain ∙ sym (neither (is_bare (roots_of page.tree)) (id == 0) not_zero) ∙ expected id false plain
              by_tests false false is plain = at id false false is plain ∙ plain-rooted id is plain ∙ expected id false plain
