-- Ways down to items: the lesser of two ways leads to the earlier item of the flattened list, and where each list
-- stands once there is one way from the root list to an item.
use Rattle.std.proofs.Common.{◌≡◌, ℕ, zero, suc, ◌+◌, ◌≤◌, Bool, true, false, ◌&&◌, ◌||◌, inl, inr, List, [], ◌∷◌, length, Option, Some, None, Ordering, Less, Equal, Greater, cond, IsSome, IsTrue, ◌↔◌, eqb, ltb, slice_get, unwrap_or, reverse, refl, sym, ap, ◌∙◌, subst, arith}
use Rattle.std.proofs.Math.Bool.{or-false, and-false}
use Rattle.std.proofs.lemmas.Bool.{or_cases, and_parts, and_from, false≢true, eqb-true, eq-eqb, ltb-true, lt-ltb, le-ltb, cases_eq}
use Rattle.std.proofs.lemmas.List.{reverse-reverse}
use Rattle.std.proofs.lemmas.Option.{none-some, same_Some}
use mathlib.Core.List.{reverse_aux}
use Rattle.std.specs.Ordering.{is_some_and, is_lt, partial_ordering_then, nat_cmp}
use Rattle.std.specs.Cmp.Lexicographic.{slice_partial_cmp}
use Rattle.paint_order.specs.declared.entry.Entry.{Entry}
use Rattle.paint_order.specs.declared.entry.Entry.TheVariants.{Item, Sub}
use Rattle.paint_order.specs.Lists.{Lists, list_under, entries_of, StandsAt, Stands}
use Rattle.paint_order.specs.Order.{items_of, flattened, is_member, is_earlier, NestsWithin, NestWithin, IsWhole}
use Rattle.paint_order.specs.Paths.{LeadsTo, LeadsOn}
use Rattle.paint_order.specs.Places.{PlaceTables, place, ArePlaced}
use Rattle.paint_order.specs.declared.place.Place.{Place}
use Rattle.paint_order.proofs.FlatLemmas.{or_first, or_second, member-piece, earlier-in_piece, earlier-by_piece, piece_of, pieces_of}

-- the order of ways: where they first differ the lesser number comes first, and else the shorter way
abbrev pub is_less : List ℕ → List ℕ → Bool
is_less [] [] = false
is_less [] (k ∷ ks) = true
is_less (j ∷ js) [] = false
is_less (j ∷ js) (k ∷ ks) = ltb j k || (eqb j k && is_less js ks)

less_by_tests : (a b : Bool) (p : Option Ordering) (r : Bool) → is_some_and is_lt p ≡ r
    → is_some_and is_lt (partial_ordering_then (Some (cond a Less (cond b Equal Greater))) p) ≡ (a || (b && r))
less_by_tests true b p r e = refl
less_by_tests false true p r e = e
less_by_tests false false p r e = refl

-- `<` of two slices of numbers is this order
pub slices-less : (js ks : List ℕ)
    → is_some_and is_lt (slice_partial_cmp (λ x y. Some (nat_cmp x y)) js ks) ≡ is_less js ks
slices-less [] [] = refl
slices-less [] (k ∷ ks) = refl
slices-less (j ∷ js) [] = refl
slices-less (j ∷ js) (k ∷ ks) =
    less_by_tests (ltb j k) (eqb j k) (slice_partial_cmp (λ x y. Some (nat_cmp x y)) js ks) _ (slices-less js ks)

-- a front that two ways share decides nothing
less_after : (rs js ks : List ℕ) → is_less (reverse_aux rs js) (reverse_aux rs ks) ≡ is_less js ks
less_after [] js ks = refl
less_after (r ∷ rs) js ks = less_after rs (r ∷ js) (r ∷ ks) ∙ less_same r js ks
  where
    less_same : (r : ℕ) (js ks : List ℕ) → is_less (r ∷ js) (r ∷ ks) ≡ is_less js ks
    less_same r js ks = ap (λ t. t || (eqb r r && is_less js ks)) (le-ltb r r (omega arith)) ∙ ap (λ t. t && is_less js ks) (eq-eqb r r refl)

less_ends : (a b : ℕ) → is_less (a ∷ []) (b ∷ []) ≡ ltb a b
less_ends a b = ap (λ t. ltb a b || t) (and-false (eqb a b)) ∙ or-false (ltb a b)

less-nil : (js : List ℕ) → is_less js [] ≡ false
less-nil [] = refl
less-nil (j ∷ js) = refl

module _ (lists : Lists) where
  -- ---- from ways to the flattened list

  -- a way's first entry stands for the item that it leads to
  entry_of_way : (n l k : ℕ) (ks : List ℕ) (i : ℕ)
      → ((m : ℕ) → LeadsTo lists m ks i → is_member i (flattened n lists m) ≡ true)
      → LeadsTo lists l (k ∷ ks) i
      → (entry : Entry) × StandsAt lists entry l k × (is_member i (items_of (flattened n lists) entry) ≡ true)
  unfolding LeadsTo
  entry_of_way n l k ks i below (inl here) = (Item i, here.1, or_first _ _ (eq-eqb i i refl))
  entry_of_way n l k ks i below (inr on) = (Sub on.0, on.1, below on.0 on.2)

  member-from_way : (n l : ℕ) (ks : List ℕ) (i : ℕ) → LeadsTo lists l ks i → length ks ≤ n
      → is_member i (flattened n lists l) ≡ true
  unfolding LeadsTo flattened
  member-from_way n l [] i way short = absurd way
  member-from_way zero l (k ∷ ks) i way short = absurd (omega arith)
  member-from_way (suc n) l (k ∷ ks) i way short =
      let first = entry_of_way n l k ks i (λ m w. member-from_way n m ks i w (omega arith)) way in
      member-piece (items_of (flattened n lists)) i (entries_of lists l) k first.0 first.1 first.2

  same_sub : (l k m n : ℕ) → StandsAt lists (Sub m) l k → StandsAt lists (Sub n) l k → m ≡ n
  same_sub l k m n p q = let e : Some (Sub m) ≡ Some (Sub n) = sym p ∙ q in cc

  not_both : (l k i m : ℕ) → StandsAt lists (Item i) l k → StandsAt lists (Sub m) l k → ⊥
  not_both l k i m p q = let e : Some (Item i) ≡ Some (Sub m) = sym p ∙ q in cc

  -- two ways that begin with one entry go into the same list
  earlier-in_entry : (n l a b : ℕ) (js ks : List ℕ) (i j : ℕ)
      → ((m : ℕ) → LeadsTo lists m js i → LeadsTo lists m ks j → is_earlier i j (flattened n lists m) ≡ true)
      → LeadsTo lists l (a ∷ js) i → LeadsTo lists l (b ∷ ks) j → a ≡ b → is_less js ks ≡ true
      → is_earlier i j (flattened (suc n) lists l) ≡ true
  unfolding LeadsTo flattened
  earlier-in_entry n l a b js ks i j below (inl here) (inl there) e less =
      absurd (false≢true (sym (ap (λ xs. is_less xs ks) here.0 ∙ ap (is_less []) there.0) ∙ less))
  earlier-in_entry n l a b js ks i j below (inl here) (inr on) e less =
      absurd (not_both l b i on.0 (subst (λ k. StandsAt lists (Item i) l k) e here.1) on.1)
  earlier-in_entry n l a b js ks i j below (inr on) (inl there) e less =
      absurd (false≢true (sym (ap (is_less js) there.0 ∙ less-nil js) ∙ less))
  earlier-in_entry n l a b js ks i j below (inr on) (inr to) e less =
      let same = same_sub l b on.0 to.0 (subst (λ k. StandsAt lists (Sub on.0) l k) e on.1) to.1 in
      earlier-in_piece (items_of (flattened n lists)) i j (entries_of lists l) a (Sub on.0) on.1
      (below on.0 on.2 (subst (λ m. LeadsTo lists m ks j) (sym same) to.2))

  -- the lesser way leads to the earlier item
  earlier-from_ways : (n l : ℕ) (js ks : List ℕ) (i j : ℕ) → LeadsTo lists l js i → LeadsTo lists l ks j
      → length js ≤ n → length ks ≤ n → is_less js ks ≡ true → is_earlier i j (flattened n lists l) ≡ true
  unfolding LeadsTo flattened
  earlier-from_ways n l [] ks i j first second p q less = absurd first
  earlier-from_ways n l (a ∷ js) [] i j first second p q less = absurd second
  earlier-from_ways zero l (a ∷ js) (b ∷ ks) i j first second p q less = absurd (omega arith)
  earlier-from_ways (suc n) l (a ∷ js) (b ∷ ks) i j first second p q less =
      elim (or_cases (ltb a b) (eqb a b && is_less js ks) less) [
        | inl e ↦
            let one = entry_of_way n l a js i (λ m w. member-from_way n m js i w (omega arith)) first in
            let two = entry_of_way n l b ks j (λ m w. member-from_way n m ks j w (omega arith)) second in
            earlier-by_piece (items_of (flattened n lists)) i j (entries_of lists l) a b one.0 two.0 one.1 two.1
            (ltb-true a b e) one.2 two.2
        | inr e ↦
            let parts = and_parts (eqb a b) (is_less js ks) e in
            earlier-in_entry n l a b js ks i j
            (λ m v w. earlier-from_ways n m js ks i j v w (omega arith) (omega arith) parts.1)
            first second (eqb-true a b parts.0) parts.1
      ]

  -- ---- from the flattened list to ways

  way_through : (n l k : ℕ) (i : ℕ) (entry : Entry)
      → ((m : ℕ) → is_member i (flattened n lists m) ≡ true → (ks : List ℕ) × LeadsTo lists m ks i)
      → StandsAt lists entry l k → is_member i (items_of (flattened n lists) entry) ≡ true
      → (ks : List ℕ) × LeadsTo lists l (k ∷ ks) i
  unfolding LeadsTo
  way_through n l k i (Item y) below at m =
      let same : y ≡ i = eqb-true y i (sym (or-false (eqb y i)) ∙ m) in
      ([], inl (refl, subst (λ x. StandsAt lists (Item x) l k) same at))
  way_through n l k i (Sub m) below at h = let rest = below m h in (rest.0, inr (m, at, rest.1))

  way-from_member : (n l i : ℕ) → is_member i (flattened n lists l) ≡ true → (ks : List ℕ) × LeadsTo lists l ks i
  unfolding flattened
  way-from_member zero l i h = absurd (false≢true h)
  way-from_member (suc n) l i h =
      let piece = piece_of (items_of (flattened n lists)) i (entries_of lists l) h in
      let way = way_through n l piece.0 i piece.1 (λ m g. way-from_member n m i g) piece.2 piece.3 in
      (piece.0 ∷ way.0, way.1)

  abbrev Ways : (l i j : ℕ) → Type 0
  Ways l i j =
      (js : List ℕ) × (ks : List ℕ) × LeadsTo lists l js i × LeadsTo lists l ks j × (is_less js ks ≡ true)

  -- two items of one entry
  ways_in_entry : (n l k i j : ℕ) (entry : Entry)
      → ((m : ℕ) → is_earlier i j (flattened n lists m) ≡ true → Ways m i j) → StandsAt lists entry l k
      → is_earlier i j (items_of (flattened n lists) entry) ≡ true → Ways l i j
  unfolding LeadsTo
  ways_in_entry n l k i j (Item y) below at h =
      absurd (false≢true (sym (or-false (eqb y i && false) ∙ and-false (eqb y i)) ∙ h))
  ways_in_entry n l k i j (Sub m) below at h =
      let w = below m h in (
        k ∷ w.0,
        k ∷ w.1,
        inr (m, at, w.2),
        inr (m, at, w.3),
        or_second (ltb k k) _ (and_from (eqb k k) _ (eq-eqb k k refl) w.4),
      )

  -- the earlier item has the lesser way
  ways-from_earlier : (n l i j : ℕ) → is_earlier i j (flattened n lists l) ≡ true → Ways l i j
  unfolding flattened
  ways-from_earlier zero l i j h = absurd (false≢true h)
  ways-from_earlier (suc n) l i j h =
      elim (pieces_of (items_of (flattened n lists)) i j (entries_of lists l) h) [
        | inl p ↦ ways_in_entry n l p.0 i j p.1 (λ m g. ways-from_earlier n m i j g) p.2 p.3
        | inr p ↦
            let first = way_through n l p.0 i p.2 (λ m g. way-from_member n m i g) p.5 p.7 in
            let second = way_through n l p.1 j p.3 (λ m g. way-from_member n m j g) p.6 p.8 in
            (p.0 ∷ first.0, p.1 ∷ second.0, first.1, second.1, or_first _ _ (lt-ltb p.0 p.1 p.4))
      ]

  -- ---- how long a way is

  pub length_way : (n l : ℕ) (ks : List ℕ) (i : ℕ) → NestsWithin n lists l → LeadsTo lists l ks i → length ks ≤ n
  unfolding LeadsTo NestsWithin
  length_way n l [] i nests way = absurd way
  length_way zero l (k ∷ ks) i nests way = absurd nests
  length_way (suc n) l (k ∷ ks) i nests (inl here) = rw (here.0) (omega arith)
  length_way (suc n) l (k ∷ ks) i nests (inr on) =
      let rest = length_way n on.0 ks i (nests k on.0 on.1) on.2 in omega arith

  -- ---- one way from the root list

  -- the numbers lead up from the list number l to the root list
  abbrev Climbs : (root : ℕ) → List ℕ → ℕ → Type 0
  Climbs root [] l = l ≡ root
  Climbs root (r ∷ rs) l = (m : ℕ) × StandsAt lists (Sub l) m r × Climbs root rs m

  -- the numbers lead up from the item to the root list
  abbrev ItemClimbs : (root : ℕ) → List ℕ → ℕ → Type 0
  ItemClimbs root [] i = ⊥
  ItemClimbs root (r ∷ rs) i = (m : ℕ) × StandsAt lists (Item i) m r × Climbs root rs m

  -- a way down is a way up from its end, read backwards
  climb_of_way : (root l : ℕ) (ks rs : List ℕ) (i : ℕ) → LeadsTo lists l ks i → Climbs root rs l
      → ItemClimbs root (reverse_aux ks rs) i
  unfolding LeadsTo
  climb_of_way root l [] rs i way up = absurd way
  climb_of_way root l (k ∷ ks) rs i (inl here) up =
      subst (λ xs. ItemClimbs root (reverse_aux xs (k ∷ rs)) i) (sym here.0) (l, here.1, up)
  climb_of_way root l (k ∷ ks) rs i (inr on) up = climb_of_way root on.0 ks (k ∷ rs) i on.2 (l, on.1, up)

  same_place : (tables : PlaceTables) → ArePlaced lists tables → (entry : Entry) (l k m r : ℕ)
      → StandsAt lists entry l k → StandsAt lists entry m r → (l ≡ m) × (k ≡ r)
  same_place tables placed entry l k m r p q =
      let e : Some (place l k) ≡ Some (place m r) = sym (placed l k entry p) ∙ placed m r entry q in
      let f : place l k ≡ place m r = same_Some _ _ e in
      (ap (λ x. x.list) f, ap (λ x. x.at) f)

  module _ (tables : PlaceTables) (placed : ArePlaced lists tables) (root : ℕ)
      (free : (m r : ℕ) → StandsAt lists (Sub root) m r → ⊥) where
    same_climb : (rs ss : List ℕ) (l : ℕ) → Climbs root rs l → Climbs root ss l → rs ≡ ss
    same_climb [] [] l p q = refl
    same_climb [] (s ∷ ss) l p q = absurd (free q.0 s (subst (λ x. StandsAt lists (Sub x) q.0 s) p q.1))
    same_climb (r ∷ rs) [] l p q = absurd (free p.0 r (subst (λ x. StandsAt lists (Sub x) p.0 r) q p.1))
    same_climb (r ∷ rs) (s ∷ ss) l p q =
        let same = same_place tables placed (Sub l) p.0 r q.0 s p.1 q.1 in
        let rest = same_climb rs ss q.0 (subst (Climbs root rs) same.0 p.2) q.2 in
        ap (λ x. x ∷ rs) same.1 ∙ ap (λ xs. s ∷ xs) rest

    same_item_climb : (rs ss : List ℕ) (i : ℕ) → ItemClimbs root rs i → ItemClimbs root ss i → rs ≡ ss
    same_item_climb [] ss i p q = absurd p
    same_item_climb (r ∷ rs) [] i p q = absurd q
    same_item_climb (r ∷ rs) (s ∷ ss) i p q =
        let same = same_place tables placed (Item i) p.0 r q.0 s p.1 q.1 in
        let rest = same_climb rs ss q.0 (subst (Climbs root rs) same.0 p.2) q.2 in
        ap (λ x. x ∷ rs) same.1 ∙ ap (λ xs. s ∷ xs) rest

    same_way : (js ks : List ℕ) (i : ℕ) → LeadsTo lists root js i → LeadsTo lists root ks i → js ≡ ks
    same_way js ks i p q =
        let one = climb_of_way root root js [] i p refl in
        let two = climb_of_way root root ks [] i q refl in
        let same = same_item_climb (reverse js) (reverse ks) i one two in
        sym (reverse-reverse js) ∙ ap reverse same ∙ reverse-reverse ks

  -- ---- the root list of a whole forest stands nowhere

  -- a list in which an entry stands is there
  is_there : (entry : Entry) (l k : ℕ) → StandsAt lists entry l k → IsSome (list_under lists l)
  is_there entry l k at =
      elim (list_under lists l) as (λ o. slice_get (unwrap_or o []) k ≡ Some entry → IsSome o) [
        | Some es ↦ λ h. refl
        | None ↦ λ h. absurd (none-some entry h)
      ] at

  pub there-from_way : (l : ℕ) (ks : List ℕ) (i : ℕ) → LeadsTo lists l ks i → IsSome (list_under lists l)
  unfolding LeadsTo
  there-from_way l [] i way = absurd way
  there-from_way l (k ∷ ks) i (inl here) = is_there (Item i) l k here.1
  there-from_way l (k ∷ ks) i (inr on) = is_there (Sub on.0) l k on.1

  -- where the root list stands too, a way to an item grows upwards without end
  long_way : (root m r i : ℕ) → IsWhole lists root → StandsAt lists (Sub root) m r → Stands lists (Item i)
      → (n : ℕ) → (l : ℕ) × (ks : List ℕ) × LeadsTo lists l ks i × (length ks ≡ suc n)
  unfolding LeadsTo
  long_way root m r i whole at stands zero = (stands.0, stands.1 ∷ [], inl (refl, stands.2), refl)
  long_way root m r i whole at stands (suc n) =
      let way = long_way root m r i whole at stands n in
      elim (cases_eq way.0 root) [
        | inl e ↦ (m, r ∷ way.1, inr (way.0, subst (λ x. StandsAt lists (Sub x) m r) (sym e) at, way.2), ap suc way.3)
        | inr e ↦
            let above = whole way.0 (there-from_way way.0 way.1 i way.2) e in
            (above.0, above.1 ∷ way.1, inr (way.0, above.2, way.2), ap suc way.3)
      ]

  standing-from_way : (l : ℕ) (ks : List ℕ) (i : ℕ) → LeadsTo lists l ks i → Stands lists (Item i)
  unfolding LeadsTo
  standing-from_way l [] i way = absurd way
  standing-from_way l (k ∷ ks) i (inl here) = (l, k, here.1)
  standing-from_way l (k ∷ ks) i (inr on) = standing-from_way on.0 ks i on.2

  root_stands_nowhere : (root i n : ℕ) → IsWhole lists root → NestWithin n lists → Stands lists (Item i)
      → (m r : ℕ) → StandsAt lists (Sub root) m r → ⊥
  root_stands_nowhere root i n whole shallow stands m r at =
      let way = long_way root m r i whole at stands n in
      let short = length_way n way.0 way.1 i (shallow way.0) way.2 in
      absurd (omega arith)

  -- ---- the order of two items is that of their ways

  same_tests : (a b : Bool) → (a ≡ true → b ≡ true) → (b ≡ true → a ≡ true) → a ≡ b
  same_tests true b f g = sym (f refl)
  same_tests false true f g = g refl
  same_tests false false f g = refl

  pub order_of_ways : (tables : PlaceTables) (root i j n : ℕ) (js ks : List ℕ) → ArePlaced lists tables
      → IsWhole lists root → NestWithin n lists → LeadsTo lists root js i → LeadsTo lists root ks j
      → is_less js ks ≡ is_earlier i j (flattened n lists root)
  order_of_ways tables root i j n js ks placed whole shallow first second =
      let free = root_stands_nowhere root i n whole shallow (standing-from_way root js i first) in
      let lesser = λ (h : is_less js ks ≡ true). earlier-from_ways n root js ks i j first second
      (length_way n root js i (shallow root) first) (length_way n root ks j (shallow root) second) h in
      let earlier = λ (h : is_earlier i j (flattened n lists root) ≡ true).
      let ways = ways-from_earlier n root i j h in
      let one = same_way tables placed root free js ways.0 i first ways.2 in
      let two = same_way tables placed root free ks ways.1 j second ways.3 in
      ap (λ xs. is_less xs ks) one ∙ ap (is_less ways.0) two ∙ ways.4 in
      same_tests _ _ lesser earlier

  -- ---- one step up

  pub way_up : (l m k : ℕ) (ks : List ℕ) (i : ℕ) → LeadsTo lists l ks i → StandsAt lists (Sub l) m k
      → LeadsTo lists m (k ∷ ks) i
  unfolding LeadsTo
  way_up l m k ks i way at = inr (l, at, way)

  pub first_way : (l k i : ℕ) → StandsAt lists (Item i) l k → LeadsTo lists l (k ∷ []) i
  unfolding LeadsTo
  first_way l k i at = inl (refl, at)

  -- a climb that goes on although its path is full would be longer than lists nest
  pub arrived : (n root : ℕ) (on : Option Place) (ks : List ℕ) (i : ℕ) → NestWithin n lists
      → (IsSome on → length ks ≡ n) → LeadsOn lists root on ks i → (on ≡ None) × LeadsTo lists root ks i
  arrived n root None ks i shallow full way = (refl, way)
  arrived n root (Some next) ks i shallow full way =
      let long = full refl in
      let short = length_way n next.list (next.at ∷ ks) i (shallow next.list) way in
      absurd (omega arith)

  -- ---- two items of one list

  -- from a list in which an item stands one comes up to the root list, since no way is longer than lists nest
  climb_from : (root i n m l : ℕ) (ks : List ℕ) → IsWhole lists root → NestWithin n lists → LeadsTo lists l ks i
      → length ks + m ≡ suc n → (rs : List ℕ) × Climbs root rs l
  climb_from root i n zero l ks whole shallow way size =
      let short = length_way n l ks i (shallow l) way in absurd (omega arith)
  climb_from root i n (suc m) l ks whole shallow way size =
      elim (cases_eq l root) [
        | inl e ↦ ([], e)
        | inr e ↦
            let above = whole l (there-from_way l ks i way) e in
            let rest = climb_from root i n m above.0 (above.1 ∷ ks) whole shallow
            (way_up l above.0 above.1 ks i way above.2) (omega arith) in
            (above.1 ∷ rest.0, (above.0, above.2, rest.1))
      ]

  -- and the way back leads down to the item
  way_of_climb : (root l : ℕ) (rs ks : List ℕ) (i : ℕ) → Climbs root rs l → LeadsTo lists l ks i
      → LeadsTo lists root (reverse_aux rs ks) i
  way_of_climb root l [] ks i up way = subst (λ m. LeadsTo lists m ks i) up way
  way_of_climb root l (r ∷ rs) ks i up way =
      way_of_climb root up.0 rs (r ∷ ks) i up.2 (way_up l up.0 r ks i way up.1)

  pub order_in_list : (tables : PlaceTables) (root i j n l a b : ℕ) → ArePlaced lists tables
      → IsWhole lists root → NestWithin n lists → StandsAt lists (Item i) l a → StandsAt lists (Item j) l b
      → ltb a b ≡ is_earlier i j (flattened n lists root)
  order_in_list tables root i j n l a b placed whole shallow first second =
      let up = climb_from root i n n l (a ∷ []) whole shallow (first_way l a i first) (omega arith) in
      let one = way_of_climb root l up.0 (a ∷ []) i up.1 (first_way l a i first) in
      let two = way_of_climb root l up.0 (b ∷ []) j up.1 (first_way l b j second) in
      sym (less_after up.0 (a ∷ []) (b ∷ []) ∙ less_ends a b)
      ∙ order_of_ways tables root i j n _ _ placed whole shallow one two

  -- ---- whether an item is in the flattened root list

  -- what stands in a whole forest is in the flattened root list
  painted-standing : (root i n : ℕ) → IsWhole lists root → NestWithin n lists → Stands lists (Item i)
      → is_member i (flattened n lists root) ≡ true
  painted-standing root i n whole shallow stands =
      let first = first_way stands.0 stands.1 i stands.2 in
      let up = climb_from root i n n stands.0 (stands.1 ∷ []) whole shallow first (omega arith) in
      let way = way_of_climb root stands.0 up.0 (stands.1 ∷ []) i up.1 first in
      member-from_way n root _ i way (length_way n root _ i (shallow root) way)

  -- and what is in a flattened list stands, so that one test tells both
  pub member-standing : (root i n : ℕ) (test : Bool) → (IsTrue test ↔ Stands lists (Item i)) → IsWhole lists root
      → NestWithin n lists → test ≡ is_member i (flattened n lists root)
  member-standing root i n test stands whole shallow =
      let down = λ (h : is_member i (flattened n lists root) ≡ true).
      let way = way-from_member n root i h in stands.1 (standing-from_way root way.0 i way.1) in
      same_tests _ _ (λ h. painted-standing root i n whole shallow (stands.0 h)) down
