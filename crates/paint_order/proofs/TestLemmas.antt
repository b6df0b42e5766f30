-- For tests: whether a table is a whole forest, as a test that computes, and forests that have the lists of a table.
use Rattle.std.proofs.Common.{◌≡◌, ◌≢◌, ℕ, zero, suc, ◌+◌, ◌<◌, ◌≤◌, Bool, true, false, ◌&&◌, ◌||◌, List, [], ◌∷◌, length, IsSome, Option, Some, None, eqb, ltb, slice_get, unwrap_or, set, replicate, refl, sym, ap, ◌∙◌, subst, inl, inr, arith}
use Rattle.std.specs.List.{All, list_any, list_all}
use Rattle.std.proofs.lemmas.Bool.{and_parts, or_cases, eqb-true, ltb-true, false≢true, cases_eq, cases_lt}
use Rattle.std.proofs.lemmas.List.{get_or-set_same, get_or-set_other, length-set, length-replicate, get_or_past}
use Rattle.std.proofs.lemmas.Option.{none-some, same_Some}
use Rattle.paint_order.specs.declared.entry.Entry.{Entry}
use Rattle.paint_order.specs.declared.entry.Entry.TheVariants.{Item, Sub}
use Rattle.paint_order.specs.Lists.{Lists, list_under, entries_of, Stands}
use Rattle.paint_order.specs.Order.{NestsWithin, NestWithin, IsWhole}
use Rattle.paint_order.specs.State.{State}
use Rattle.paint_order.proofs.TableLemmas.{under-none}

-- ---- entries

abbrev pub same_entry : Entry → Entry → Bool
same_entry (Item a) (Item b) = eqb a b
same_entry (Item a) (Sub b) = false
same_entry (Sub a) (Item b) = false
same_entry (Sub a) (Sub b) = eqb a b

abbrev pub has : Entry → List Entry → Bool
has e es = list_any (same_entry e) es

-- ---- tables

all-at : {X : Type 0} (test : X → Bool) (xs : List X) (k : ℕ) (x : X) → list_all test xs ≡ true
    → slice_get xs k ≡ Some x → test x ≡ true
all-at test [] k x h at = absurd (none-some x at)
all-at test (y ∷ xs) zero x h at = rw (sym (same_Some y x at)) (and_parts (test y) (list_all test xs) h).0
all-at test (y ∷ xs) (suc k) x h at = all-at test xs k x (and_parts (test y) (list_all test xs) h).1 at

abbrev pub below : (ℕ → Bool) → Entry → Bool
below inner (Item i) = true
below inner (Sub m) = inner m

abbrev pub nests : ℕ → Lists → ℕ → Bool
nests zero table l = false
nests (suc n) table l = list_all (below (nests n table)) (entries_of table l)

pub nests-true : (n : ℕ) (table : Lists) (l : ℕ) → nests n table l ≡ true → NestsWithin n table l
unfolding NestsWithin
nests-true zero table l h = absurd (false≢true h)
nests-true (suc n) table l h = λ k m at.
    nests-true n table m (all-at (below (nests n table)) (entries_of table l) k (Sub m) h at)

same_entry-true : (d e : Entry) → same_entry d e ≡ true → e ≡ d
same_entry-true (Item a) (Item b) h = ap Item (sym (eqb-true a b h))
same_entry-true (Item a) (Sub b) h = absurd (false≢true h)
same_entry-true (Sub a) (Item b) h = absurd (false≢true h)
same_entry-true (Sub a) (Sub b) h = ap Sub (sym (eqb-true a b h))

at-from_has : (e : Entry) (es : List Entry) → has e es ≡ true → (k : ℕ) × (slice_get es k ≡ Some e)
at-from_has e [] h = absurd (false≢true h)
at-from_has e (d ∷ es) h =
    elim (or_cases (same_entry e d) (has e es) h) [
      | inl t ↦ (0, ap Some (same_entry-true e d t))
      | inr t ↦ let rest = at-from_has e es t in (suc rest.0, rest.1)
    ]

abbrev pub stands_in : Lists → Entry → Bool
stands_in table e = list_any (λ o. has e (unwrap_or o [])) table

stands-by_test : (table : Lists) (e : Entry) → stands_in table e ≡ true → Stands table e
stands-by_test [] e h = absurd (false≢true h)
stands-by_test (o ∷ table) e h =
    elim (or_cases (has e (unwrap_or o [])) (stands_in table e) h) [
      | inl t ↦ let at = at-from_has e (unwrap_or o []) t in (0, at.0, at.1)
      | inr t ↦ let rest = stands-by_test table e t in (suc rest.0, rest.1, rest.2)
    ]

abbrev pub is_whole_from : Lists → (root n : ℕ) → Lists → Bool
is_whole_from table root n [] = true
is_whole_from table root n (None ∷ rest) = is_whole_from table root (suc n) rest
is_whole_from table root n (Some es ∷ rest) =
    (eqb n root || stands_in table (Sub n)) && is_whole_from table root (suc n) rest

whole_from : (table : Lists) (root n : ℕ) (rest : Lists) → is_whole_from table root n rest ≡ true
    → (i l : ℕ) → l ≡ i + n → IsSome (list_under rest i) → l ≢ root → Stands table (Sub l)
whole_from table root n [] h i l e there other = absurd (false≢true there)
whole_from table root n (None ∷ rest) h zero l e there other = absurd (false≢true there)
whole_from table root n (None ∷ rest) h (suc i) l e there other =
    whole_from table root (suc n) rest h i l (omega arith) there other
whole_from table root n (Some es ∷ rest) h zero l e there other =
    let same : l ≡ n = omega arith in
    elim (or_cases (eqb n root) (stands_in table (Sub n)) (and_parts (eqb n root || stands_in table (Sub n)) (is_whole_from table root (suc n) rest) h).0) [
      | inl t ↦ absurd (other (same ∙ eqb-true n root t))
      | inr t ↦ rw same (stands-by_test table (Sub n) t)
    ]
whole_from table root n (Some es ∷ rest) h (suc i) l e there other =
    whole_from table root (suc n) rest
    (and_parts (eqb n root || stands_in table (Sub n)) (is_whole_from table root (suc n) rest) h).1 i l (omega arith) there other

-- ---- forests that have the lists of a table

pub record HasLists (forest : State) (table : Lists) (root items : ℕ) : Type 0 where
  pub under : (n : ℕ) → list_under forest.lists n ≡ list_under table n
  pub root_is : forest.root ≡ root
  pub items_fit : items ≤ forest.item_room
  pub lists_fit : length table ≤ length forest.lists

pub lists_at_first : (first reserved : State) (items numbers : ℕ)
    → first ≡ record { lists = set (replicate (0 + 1) None) 0 (Some []); root = 0; item_room = 0 }
    → ((n : ℕ) → list_under reserved.lists n ≡ list_under first.lists n) → reserved.root ≡ first.root
    → items ≤ reserved.item_room → suc numbers ≤ length reserved.lists
    → HasLists reserved (Some [] ∷ replicate numbers None) 0 items
lists_at_first first reserved items numbers e under root p q = record {
  under = λ n. under n ∙ ap (λ f. list_under f.lists n) e ∙ longer n;
  root_is = root ∙ ap (λ f. f.root) e;
  items_fit = p;
  lists_fit = rw (length-replicate) q;
}
  where
    longer : (n : ℕ) → list_under (Some [] ∷ []) n ≡ list_under (Some [] ∷ replicate numbers None) n
    longer zero = refl
    longer (suc n) = sym (under-none numbers n)

-- a list that is written into both, or taken out of both
written : (xs ys : Lists) (l : ℕ) (o : Option (List Entry)) → ((n : ℕ) → list_under xs n ≡ list_under ys n)
    → l < length xs → l < length ys → (n : ℕ) → list_under (set xs l o) n ≡ list_under (set ys l o) n
written xs ys l o under p q n =
    elim (cases_eq n l) [
      | inl e ↦ rw e (get_or-set_same xs l o None p ∙ sym (get_or-set_same ys l o None q))
      | inr e ↦ get_or-set_other xs l n o None e ∙ under n ∙ sym (get_or-set_other ys l n o None e)
    ]

pub lists_with : {old new : State} {table : Lists} {root items : ℕ} (l : ℕ) (o : Option (List Entry))
    → ltb l (length table) ≡ true → HasLists old table root items
    → new ≡ record { lists = set old.lists l o; root = old.root; item_room = old.item_room }
    → HasLists new (set table l o) root items
lists_with {old} {new} {table} {root} {items} l o low has_old e =
    let low : l < length table = ltb-true l (length table) low in
    let fits = has_old.lists_fit in
    record {
      under = λ n. ap (λ f. list_under f.lists n) e ∙ written old.lists table l o has_old.under (omega arith) low n;
      root_is = ap (λ f. f.root) e ∙ has_old.root_is;
      items_fit = rw e has_old.items_fit;
      lists_fit = rw e (simp length-set has_old.lists_fit);
    }

pub lists_put : {old new : State} {table : Lists} {root items : ℕ} {given : List Entry} (l : ℕ) (entries : List Entry)
    → HasLists old table root items
    → new ≡ record { lists = set old.lists l (Some given); root = old.root; item_room = old.item_room }
    → given ≡ entries → ltb l (length table) ≡ true → HasLists new (set table l (Some entries)) root items
lists_put {old} l entries has_old e same low =
    lists_with l (Some entries) low has_old
    (e ∙ ap (λ es. record { lists = set old.lists l (Some es); root = old.root; item_room = old.item_room }) same)

pub lists_kept : {old new : State} {table : Lists} {root items : ℕ} (more : ℕ) → HasLists old table root items
    → ((n : ℕ) → list_under new.lists n ≡ list_under old.lists n) → new.root ≡ old.root → more ≤ new.item_room
    → length old.lists ≤ length new.lists → HasLists new table root more
lists_kept {old} {new} more has_old under root p q =
    let fits = has_old.lists_fit in
    record {
      under = λ n. under n ∙ has_old.under n;
      root_is = root ∙ has_old.root_is;
      items_fit = p;
      lists_fit = omega arith;
    }

pub lists_under_root : {old new : State} {table : Lists} {root items : ℕ} (l : ℕ) → HasLists old table root items
    → new ≡ record { lists = old.lists; root = l; item_room = old.item_room } → HasLists new table l items
lists_under_root {old} {new} l has_old e = record {
  under = λ n. ap (λ f. list_under f.lists n) e ∙ has_old.under n;
  root_is = ap (λ f. f.root) e;
  items_fit = rw e has_old.items_fit;
  lists_fit = rw e has_old.lists_fit;
}

-- ---- what is asked of a forest

entries-same : {forest : State} {table : Lists} {root items : ℕ} → HasLists forest table root items
    → (n : ℕ) → entries_of table n ≡ entries_of forest.lists n
entries-same h n = ap (λ o. unwrap_or o []) (sym (h.under n))

-- each list and each item that is asked for stands in the table
abbrev pub is_whole : Lists → ℕ → Bool
is_whole table root = is_whole_from table root 0 table

pub whole-by_test : {forest : State} {table : Lists} {root items : ℕ} → HasLists forest table root items
    → is_whole table root ≡ true → IsWhole forest.lists forest.root
whole-by_test {forest} {table} {root} h test = λ l there other.
    let stands = whole_from table root 0 table test l l (omega arith)
    (subst IsSome (h.under l) there) (λ e. other (e ∙ sym h.root_is)) in
    (stands.0, stands.1, rw (← (entries-same h stands.0)) stands.2)

abbrev pub nest_below : (levels : ℕ) → Lists → ℕ → Bool
nest_below n table zero = true
nest_below n table (suc l) = nests n table l && nest_below n table l

nest_at : (n : ℕ) (table : Lists) (k l : ℕ) → l < k → nest_below n table k ≡ true → NestsWithin n table l
nest_at n table zero l low h = absurd (omega arith)
nest_at n table (suc k) l low h =
    elim (cases_eq l k) [
      | inl e ↦ nests-true n table l (rw e (and_parts (nests n table k) (nest_below n table k) h).0)
      | inr e ↦ nest_at n table k l (omega arith) (and_parts (nests n table k) (nest_below n table k) h).1
    ]

-- a number past the table has no entries
nest_past : (n : ℕ) (table : Lists) (l : ℕ) → length table ≤ l → NestsWithin (suc n) table l
unfolding NestsWithin
nest_past n table l past = λ k m at.
    absurd (none-some (Sub m) (ap (λ o. slice_get (unwrap_or o []) k) (sym (get_or_past table l None past)) ∙ at))

nest-same : (xs ys : Lists) → ((n : ℕ) → list_under xs n ≡ list_under ys n) → (n l : ℕ) → NestsWithin n ys l
    → NestsWithin n xs l
unfolding NestsWithin
nest-same xs ys under zero l h = h
nest-same xs ys under (suc n) l h = λ k m at.
    nest-same xs ys under n m
    (h k m (subst (λ o. slice_get (unwrap_or o []) k ≡ Some (Sub m)) (under l) at))

pub shallow-by_test : {forest : State} {table : Lists} {root items : ℕ} (n : ℕ) → HasLists forest table root items
    → nest_below (suc n) table (length table) ≡ true → NestWithin (suc n) forest.lists
shallow-by_test {forest} {table} n h test = λ l. nest-same forest.lists table h.under (suc n) l
    (elim (cases_lt l (length table)) [
      | inl low ↦ nest_at (suc n) table (length table) l low test
      | inr past ↦ nest_past n table l past
    ])

pub stand-by_test : {forest : State} {table : Lists} {root items : ℕ} → HasLists forest table root items
    → (is : List ℕ) → list_all (λ i. stands_in table (Item i)) is ≡ true
    → All (λ i. Stands forest.lists (Item i)) is
stand-by_test h [] test k d short = absurd (omega arith)
stand-by_test {table} h (i ∷ is) test zero d short =
    let stands = stands-by_test table (Item i)
    (and_parts (stands_in table (Item i)) (list_all (λ i. stands_in table (Item i)) is) test).0 in
    (stands.0, stands.1, rw (← (entries-same h stands.0)) stands.2)
stand-by_test {table} h (i ∷ is) test (suc k) d short =
    stand-by_test h is (and_parts (stands_in table (Item i)) (list_all (λ i. stands_in table (Item i)) is) test).1
    k d (omega arith)
