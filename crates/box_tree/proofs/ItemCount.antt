-- There are as many numbers as items.
use Rattle.std.proofs.Common.{◌≡◌, ◌⊎◌, ℕ, zero, suc, ◌+◌, ◌≤◌, ◌==◌, List, [], ◌∷◌, length, get_or, Option, Some, None, Bool, true, false, if◌then◌else◌, refl, sym, ap, ◌∙◌, inl, inr, arith}
use Rattle.std.specs.Prelude.{sum_by}
use Rattle.std.specs.Option.{option_map, option_map_or}
use Rattle.std.proofs.lemmas.Bool.Decides.{nat_tests}
use Rattle.std.proofs.lemmas.List.{get_or_past}
use Rattle.std.proofs.lemmas.List.Sums.{sum_by-cons}
use Rattle.box_tree.specs.Contents.{Contents, node_at, placed_of, IsValid}
use Rattle.box_tree.specs.Forest.{Placed, ids_in, occurrences}
use Rattle.box_tree.specs.Items.{items_of, items_at, node_items, item_count}
use Rattle.box_tree.specs.Numbers.{ItemsState, numbers_of, IsNumbered}
use Rattle.box_tree.specs.Planned.{times_in}
use Rattle.box_tree.proofs.CountLemmas.{times_in-ids_in, weight_of, sum-ids_in}
use Rattle.box_tree.proofs.ForestLemmas.{node_in-absent}
use Rattle.box_tree.proofs.PlacedLemmas.{page-at_places}

-- the sum of a number over the numbers below another one
abbrev sum_to : ℕ → (ℕ → ℕ) → ℕ
sum_to zero f = 0
sum_to (suc n) f = f 0 + sum_to n (λ i. f (suc i))

sum_to-same : (n : ℕ) (f g : ℕ → ℕ) → ((i : ℕ) → f i ≡ g i) → sum_to n f ≡ sum_to n g
sum_to-same zero f g same = refl
sum_to-same (suc n) f g same = omega (arith, same 0, sum_to-same n (λ i. f (suc i)) (λ i. g (suc i)) (λ i. same (suc i)))

sum_to-plus : (n : ℕ) (f g : ℕ → ℕ) → sum_to n (λ i. f i + g i) ≡ sum_to n f + sum_to n g
sum_to-plus zero f g = refl
sum_to-plus (suc n) f g = omega (arith, sum_to-plus n (λ i. f (suc i)) (λ i. g (suc i)))

sum_to-zero : (n : ℕ) (f : ℕ → ℕ) → ((i : ℕ) → f i ≡ 0) → sum_to n f ≡ 0
sum_to-zero zero f none = refl
sum_to-zero (suc n) f none = omega (arith, none 0, sum_to-zero n (λ i. f (suc i)) (λ i. none (suc i)))

-- a number at one place alone
sum_to-one : (n k : ℕ) (f : ℕ → ℕ) → (n ≤ k → f k ≡ 0) → sum_to n (λ i. if k == i then f i else 0) ≡ f k
sum_to-one zero k f past = sym (past (omega arith))
sum_to-one (suc n) zero f past =
    let rest : sum_to n (λ i. if zero == suc i then f (suc i) else 0) ≡ 0 = sum_to-zero n (λ i. if zero == suc i then f (suc i) else 0) (λ i. grind (arith, nat_tests)) in
    let first : (if zero == 0 then f 0 else 0) ≡ f 0 = grind (arith, nat_tests) in
    omega (arith, rest, first)
sum_to-one (suc n) (suc k) f past =
    let rest = sum_to-same n (λ i. if suc k == suc i then f (suc i) else 0) (λ i. if k == i then f (suc i) else 0) (λ i. grind (arith, nat_tests)) in
    let first : (if suc k == 0 then f 0 else 0) ≡ 0 = grind (arith, nat_tests) in
    omega (arith, rest, first, sum_to-one n k (λ i. f (suc i)) (λ le. past (omega (arith, le))))

-- what some ids have at one of them
abbrev share : List ℕ → (ℕ → ℕ) → ℕ → ℕ
share [] f i = 0
share (id ∷ ids) f i = (if id == i then f i else 0) + share ids f i

abbrev one_if : Bool → ℕ
one_if b = if b then 1 else 0

none_first : (b : Bool) (t rest here : ℕ) → one_if b + t ≡ 0 → (t ≡ 0 → rest ≡ 0) → (if b then here else 0) + rest ≡ 0
none_first true t rest here none less = absurd (omega (arith, none))
none_first false t rest here none less = omega (arith, less (omega (arith, none)))

once_first : (b : Bool) (t rest here : ℕ) → one_if b + t ≡ 1 → (t ≡ 0 → rest ≡ 0) → (t ≡ 1 → rest ≡ here) → (if b then here else 0) + rest ≡ here
once_first true t rest here once none more = omega (arith, none (omega (arith, once)))
once_first false t rest here once none more = omega (arith, more (omega (arith, once)))

share-none : (ids : List ℕ) (f : ℕ → ℕ) (i : ℕ) → times_in i ids ≡ 0 → share ids f i ≡ 0
share-none [] f i none = refl
share-none (id ∷ ids) f i none = none_first (id == i) (times_in i ids) (share ids f i) (f i) none (share-none ids f i)

share-once : (ids : List ℕ) (f : ℕ → ℕ) (i : ℕ) → times_in i ids ≡ 1 → share ids f i ≡ f i
share-once [] f i once = absurd (omega (arith, once))
share-once (id ∷ ids) f i once = once_first (id == i) (times_in i ids) (share ids f i) (f i) once (share-none ids f i) (share-once ids f i)

sum-share : (ids : List ℕ) (n : ℕ) (f : ℕ → ℕ) → ((k : ℕ) → n ≤ k → f k ≡ 0) → sum_to n (share ids f) ≡ sum_by f ids
sum-share [] n f past = sum_to-zero n (λ i. 0) (λ i. refl)
sum-share (id ∷ ids) n f past =
    omega (arith, sum_to-plus n (λ i. if id == i then f i else 0) (share ids f), sum_to-one n id f (past id), sum-share ids n f past, sum_by-cons f id ids)

sum-lists : (lists : List (List ℕ)) → sum_by (λ list. length list) lists ≡ sum_to (length lists) (λ i. length (get_or lists i []))
sum-lists [] = refl
sum-lists (list ∷ lists) = omega (arith, sum_by-cons (λ (l : List ℕ). length l) list lists, sum-lists lists)

sum_by-same : (f g : ℕ → ℕ) (ids : List ℕ) → ((i : ℕ) → f i ≡ g i) → sum_by f ids ≡ sum_by g ids
sum_by-same f g [] same = refl
sum_by-same f g (id ∷ ids) same = omega (arith, sum_by-cons f id ids, sum_by-cons g id ids, same id, sum_by-same f g ids same)

at_most_once : (n : ℕ) → n ≤ 1 → (n ≡ 0) ⊎ (n ≡ 1)
at_most_once zero most = inl refl
at_most_once (suc zero) most = inr refl
at_most_once (suc (suc n)) most = absurd (omega (arith, most))

module _ (page : Contents) (valid : IsValid page) (s : ItemsState) (numbered : IsNumbered s (node_items page)) where
  abbrev numbers : ℕ → ℕ
  numbers id = length (numbers_of s id)

  numbers-weight : (id : ℕ) → length (numbers_of s id) ≡ weight_of (λ n. length (items_of n)) page id
  numbers-weight id = numbered.count id ∙ by_place (placed_of page id)
    where
      by_place : (o : Option Placed) → length (items_at (option_map node_at o)) ≡ option_map_or (λ p. length (items_of p.label)) o 0
      by_place None = refl
      by_place (Some p) = refl

  each_share : (id : ℕ) → share (ids_in page.tree) (λ i. length (numbers_of s i)) id ≡ length (numbers_of s id)
  each_share id = elim (at_most_once (occurrences page.tree id) (valid.distinct id)) [
    | inl none ↦
        let nothing : length (numbers_of s id) ≡ 0 = numbered.count id ∙ ap (λ o. length (items_at o)) (node_in-absent page.tree [] id none) in
        share-none (ids_in page.tree) (λ i. length (numbers_of s i)) id (times_in-ids_in page.tree id ∙ none) ∙ sym nothing
    | inr once ↦ share-once (ids_in page.tree) (λ i. length (numbers_of s i)) id (times_in-ids_in page.tree id ∙ once)
  ]

  pub count_is : sum_by (λ list. length list) s.lists ≡ item_count page.tree
  count_is =
      sum-lists s.lists
      ∙ sum_to-same (length s.lists) (λ i. length (numbers_of s i)) (share (ids_in page.tree) (λ i. length (numbers_of s i))) (λ i. sym (each_share i))
      ∙ sum-share (ids_in page.tree) (length s.lists) (λ i. length (numbers_of s i)) (λ k past. ap (λ (l : List ℕ). length l) (get_or_past s.lists k [] past))
      ∙ sum_by-same (λ i. length (numbers_of s i)) (weight_of (λ n. length (items_of n)) page) (ids_in page.tree) numbers-weight
      ∙ sum-ids_in (λ n. length (items_of n)) page page.tree [] (page-at_places page valid)
