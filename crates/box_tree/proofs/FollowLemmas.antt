-- Numbers before and after an edit: which stay, which come, and what that means for the items.
use Rattle.std.proofs.Common.{◌≡◌, ◌≢◌, ◌⊎◌, ℕ, zero, suc, ◌+◌, ◌-◌, ◌<◌, ◌≤◌, List, [], ◌∷◌, ◌++◌, length, take, drop, set, get_or, Some, Bool, true, false, if◌then◌else◌, refl, sym, ap, ◌∙◌, subst, inl, inr, arith, length-append}
use Rattle.std.specs.Prelude.{map, slice_get, sum_by, Vec, vec_len, vec_capacity}
use Rattle.std.specs.declared.alloc.Global.{Global}
use Rattle.smallvec.specs.SmallVec.{SmallVec}
use Rattle.std.proofs.lemmas.Bool.{cases_eq}
use Rattle.std.proofs.lemmas.Bool.Decides.{nat_tests}
use Rattle.std.proofs.lemmas.List.{length-set, length-take, length-drop, take_all, drop_all, append-nil, get_or-set_same, get_or-set_other, set-set, set-get_or}
use Rattle.box_tree.specs.declared.item.Item.{Item}
use Rattle.box_tree.specs.declared.items.Earlier.{Earlier}
use Rattle.box_tree.specs.declared.kind.Kind.{Kind}
use Rattle.box_tree.specs.Contents.{Contents}
use Rattle.box_tree.specs.Items.{node_items}
use Rattle.box_tree.specs.Numbers.{ItemsState, KeptItems, numbers_of, place_of, Names, IsNumbered, KeepsNumbers, GivesFreshNumbers, HasSameItems}
use Rattle.box_tree.specs.Planned.{is_among}
use Rattle.box_tree.specs.Renumbered.{IsGrown, IsResized, IsTakenFrom, with_fewer, with_again, back_one, back_by, CanHaveAgain, CanGoBackBy}
use Rattle.box_tree.proofs.NumberLemmas.{cut-end}

-- a place that is there before and after keeps its number, which was given to what it was given to; at other places are
-- numbers that stood nowhere
pub record Follows (old new : ItemsState) : Type 0 where
  pub numbers : (x place : ℕ) → place < length (numbers_of old x) → place < length (numbers_of new x) → get_or (numbers_of new x) place 0 ≡ get_or (numbers_of old x) place 0
  pub given : (x place : ℕ) → place < length (numbers_of old x) → place < length (numbers_of new x) → slice_get new.given (get_or (numbers_of old x) place 0) ≡ slice_get old.given (get_or (numbers_of old x) place 0)
  pub fresh : (x place y other : ℕ) → length (numbers_of old x) ≤ place → place < length (numbers_of new x) → other < length (numbers_of old y) → get_or (numbers_of old y) other 0 ≢ get_or (numbers_of new x) place 0

-- a number is before another one, or not
before : (a b : ℕ) → (a < b) ⊎ (b ≤ a)
before zero zero = inr (omega arith)
before zero (suc b) = inl (omega arith)
before (suc a) zero = inr (omega arith)
before (suc a) (suc b) = elim (before a b) [
  | inl lt ↦ inl (omega (arith, lt))
  | inr le ↦ inr (omega (arith, le))
]

-- each item stands at its place
abbrev pub ArePlaced : (ℕ → List Item) → Type 0
ArePlaced items = (x place : ℕ) (none : Item) → place < length (items x) → ((get_or (items x) place none).node ≡ x) × (place_of (get_or (items x) place none).part ≡ place)

module _ (old new : ItemsState) (follows : Follows old new) where
  names-kept : (number : ℕ) (item : Item) → Names old number item → place_of item.part < length (numbers_of new item.node) → Names new number item
  names-kept number item names there = record {
    given_to = ap (slice_get new.given) (sym names.number_is) ∙ follows.given item.node (place_of item.part) names.there there ∙ ap (slice_get old.given) names.number_is ∙ names.given_to;
    there = there;
    number_is = follows.numbers item.node (place_of item.part) names.there there ∙ names.number_is;
  }

  pub keeps_numbers : (after : Contents) → IsNumbered new (node_items after) → KeepsNumbers old new after
  keeps_numbers after numbered number item names is =
      let has = numbered.named item.node is.0 item is.1 in
      names-kept number item names (subst (λ (i : Item). place_of i.part < length (numbers_of new i.node)) is.2 has.there)

  pub gives_fresh : GivesFreshNumbers old new
  gives_fresh number item names = elim (before (place_of item.part) (length (numbers_of old item.node))) [
    | inl lt ↦
        let number_is : get_or (numbers_of old item.node) (place_of item.part) 0 ≡ number = sym (follows.numbers item.node (place_of item.part) lt names.there) ∙ names.number_is in
        inl (record {
          given_to = ap (slice_get old.given) (sym number_is) ∙ sym (follows.given item.node (place_of item.part) lt names.there) ∙ ap (slice_get new.given) number_is ∙ names.given_to;
          there = lt;
          number_is = number_is;
        })
    | inr le ↦ inr (λ is. follows.fresh item.node (place_of item.part) is.0.node (place_of is.0.part) le names.there is.1.there (is.1.number_is ∙ sym names.number_is))
  ]

  -- the items of a page after an edit have their numbers
  pub numbered-after : (items items' : ℕ → List Item) → IsNumbered old items → ArePlaced items' → ((x : ℕ) → length (numbers_of new x) ≡ length (items' x))
      → ((x place : ℕ) (none : Item) → place < length (items x) → place < length (items' x) → get_or (items x) place none ≡ get_or (items' x) place none)
      → ((x place : ℕ) (none : Item) → length (items x) ≤ place → place < length (items' x) → slice_get new.given (get_or (numbers_of new x) place 0) ≡ Some (get_or (items' x) place none))
      → IsNumbered new items'
  numbered-after items items' numbered placed count same came = record {
    count = count;
    named = λ x place none lt.
        let item = get_or (items' x) place none in
        let at = placed x place none lt in
        let in_list : place < length (numbers_of new x) = omega (arith, lt, count x) in
        record {
          given_to = elim (before place (length (items x))) [
            | inl was ↦
                let in_old : place < length (numbers_of old x) = omega (arith, was, numbered.count x) in
                ap (slice_get new.given) (follows.numbers x place in_old in_list) ∙ follows.given x place in_old in_list ∙ (numbered.named x place none was).given_to ∙ ap Some (same x place none was lt)
            | inr new ↦ came x place none new lt
          ];
          there = subst (λ (p : ℕ). p < length (numbers_of new item.node)) (sym at.1) (subst (λ (i : ℕ). place < length (numbers_of new i)) (sym at.0) in_list);
          number_is = ap (λ (i : ℕ). get_or (numbers_of new i) (place_of item.part) 0) at.0 ∙ ap (λ (p : ℕ). get_or (numbers_of new x) p 0) at.1;
        };
  }

-- lists of which one is the front of the other have the same numbers at the places of both
same_at : (front whole : List ℕ) (place : ℕ) → take (length front) whole ≡ front → place < length front → get_or whole place 0 ≡ get_or front place 0
same_at [] whole place is lt = absurd (omega arith)
same_at (x ∷ front) [] place is lt = absurd cc
same_at (x ∷ front) (y ∷ whole) zero is lt = ap (λ (xs : List ℕ). get_or xs 0 0) is
same_at (x ∷ front) (y ∷ whole) (suc place) is lt = same_at front whole place (ap (λ (xs : List ℕ). drop 1 xs) is) (omega arith)

front_shorter : (front whole : List ℕ) → take (length front) whole ≡ front → length front ≤ length whole
front_shorter front whole is = omega (arith, ap (λ (xs : List ℕ). length xs) is, length-take (length front) whole)

-- the list of one node is another one
module _ (s : ItemsState) (id : ℕ) (list : List ℕ) (placed : id < length s.lists) where
  pub list_here : get_or (set s.lists id list) id [] ≡ list
  list_here = get_or-set_same s.lists id list [] placed

  pub list_elsewhere : (x : ℕ) → x ≢ id → get_or (set s.lists id list) x [] ≡ numbers_of s x
  list_elsewhere x other = get_or-set_other s.lists id x list [] other

pub follows-grown : (id : ℕ) (kind : Kind) (count : ℕ) (old new : ItemsState) → id < length old.lists → IsGrown id kind count old new → Follows old new
follows-grown id kind count old new placed grown = record {
  numbers = λ x place was lt. elim (cases_eq x id) [
    | inl same ↦ subst (λ (i : ℕ). place < length (numbers_of old i) → get_or (numbers_of new i) place 0 ≡ get_or (numbers_of old i) place 0) (sym same) (λ was'. same_at (numbers_of old id) (numbers_of new id) place grown.front was') was
    | inr other ↦ ap (λ (l : List ℕ). get_or l place 0) (elsewhere x other)
  ];
  given = λ x place was lt. grown.others x place was;
  fresh = λ x place y other le lt was. elim (cases_eq x id) [
    | inl same ↦
        let le' : length (numbers_of old id) ≤ place = subst (λ (i : ℕ). length (numbers_of old i) ≤ place) same le in
        let lt' : place < count = omega (arith, subst (λ (i : ℕ). place < length (numbers_of new i)) same lt, grown.length_is) in
        λ e. grown.fresh place y other le' lt' was (e ∙ ap (λ (i : ℕ). get_or (numbers_of new i) place 0) same)
    | inr differs ↦ λ e. absurd (omega (arith, le, lt, ap (λ (l : List ℕ). length l) (elsewhere x differs)))
  ];
}
  where
    elsewhere : (x : ℕ) → x ≢ id → numbers_of new x ≡ numbers_of old x
    elsewhere x other = ap (λ (ls : List (List ℕ)). get_or ls x []) grown.lists ∙ get_or-set_other old.lists id x (numbers_of new id) [] other

-- numbers alone go
module _ (old new : ItemsState) (same_given : new.given ≡ old.given) (fronts : (x : ℕ) → take (length (numbers_of new x)) (numbers_of old x) ≡ numbers_of new x) where
  pub follows-fewer : Follows old new
  follows-fewer = record {
    numbers = λ x place was lt. sym (same_at (numbers_of new x) (numbers_of old x) place (fronts x) lt);
    given = λ x place was lt. ap (λ (g : List Item). slice_get g (get_or (numbers_of old x) place 0)) same_given;
    fresh = λ x place y other le lt was same. absurd (omega (arith, le, lt, front_shorter (numbers_of new x) (numbers_of old x) (fronts x)));
  }

pub fronts-fewer : (s : ItemsState) (id : ℕ) (list : List ℕ) → id < length s.lists → take (length list) (numbers_of s id) ≡ list → (x : ℕ) → take (length (numbers_of (with_fewer id list s) x)) (numbers_of s x) ≡ numbers_of (with_fewer id list s) x
fronts-fewer s id list placed front x = elim (cases_eq x id) [
  | inl same ↦
      subst (λ (i : ℕ). take (length (numbers_of (with_fewer id list s) i)) (numbers_of s i) ≡ numbers_of (with_fewer id list s) i) (sym same)
      (subst (λ (l : List ℕ). take (length l) (numbers_of s id) ≡ l) (sym (list_here s id list placed)) front)
  | inr other ↦ subst (λ (l : List ℕ). take (length l) (numbers_of s x) ≡ l) (sym (list_elsewhere s id list placed x other)) (take_all (length (numbers_of s x)) (numbers_of s x) (omega arith))
]

pub fronts-taken : (ids : List ℕ) (old new : ItemsState) → IsTakenFrom ids old new → (x : ℕ) → take (length (numbers_of new x)) (numbers_of old x) ≡ numbers_of new x
fronts-taken ids old new taken x = by_test (is_among ids x) (taken.lists x)
  where
    by_test : (b : Bool) → numbers_of new x ≡ (if b then [] else numbers_of old x) → take (length (numbers_of new x)) (numbers_of old x) ≡ numbers_of new x
    by_test true is = subst (λ (l : List ℕ). take (length l) (numbers_of old x) ≡ l) (sym is) refl
    by_test false is = subst (λ (l : List ℕ). take (length l) (numbers_of old x) ≡ l) (sym is) (take_all (length (numbers_of old x)) (numbers_of old x) (omega arith))

-- equal lists and equal things that were given
pub same_items : (old new : ItemsState) → ((x : ℕ) → numbers_of new x ≡ numbers_of old x) → ((x place : ℕ) → place < length (numbers_of old x) → slice_get new.given (get_or (numbers_of old x) place 0) ≡ slice_get old.given (get_or (numbers_of old x) place 0)) → HasSameItems old new
same_items old new lists given = record {
  lists = lists;
  names = λ number item. (
    λ names.
        let there : place_of item.part < length (numbers_of old item.node) = subst (λ (l : List ℕ). place_of item.part < length l) (lists item.node) names.there in
        let number_is : get_or (numbers_of old item.node) (place_of item.part) 0 ≡ number = ap (λ (l : List ℕ). get_or l (place_of item.part) 0) (sym (lists item.node)) ∙ names.number_is in
        record {
          given_to = ap (slice_get old.given) (sym number_is) ∙ sym (given item.node (place_of item.part) there) ∙ ap (slice_get new.given) number_is ∙ names.given_to;
          there = there;
          number_is = number_is;
        },
    λ names. record {
      given_to = ap (slice_get new.given) (sym names.number_is) ∙ given item.node (place_of item.part) names.there ∙ ap (slice_get old.given) names.number_is ∙ names.given_to;
      there = subst (λ (l : List ℕ). place_of item.part < length l) (sym (lists item.node)) names.there;
      number_is = ap (λ (l : List ℕ). get_or l (place_of item.part) 0) (lists item.node) ∙ names.number_is;
    },
  );
}

-- the same items are the same items of a page
pub numbered-same : (old new : ItemsState) (items : ℕ → List Item) → HasSameItems old new → IsNumbered old items → IsNumbered new items
numbered-same old new items same numbered = record {
  count = λ id. ap (λ (l : List ℕ). length l) (same.lists id) ∙ numbered.count id;
  named = λ id place none lt.
      subst (λ (l : List ℕ). Names new (get_or l place 0) (get_or (items id) place none)) (sym (same.lists id)) ((same.names (get_or (numbers_of old id) place 0) (get_or (items id) place none)).1 (numbered.named id place none lt));
}

-- A node has the list back that it had.

pub back-fewer : (e : Earlier) (s : ItemsState) → length e.list.items ≤ length (numbers_of s e.id) → back_one e s ≡ with_fewer e.id e.list.items s
back-fewer e s le = grind (arith, nat_tests)

pub back-again : (e : Earlier) (s : ItemsState) → length (numbers_of s e.id) < length e.list.items → back_one e s ≡ with_again e.id e.list.items s
back-again e s lt = grind (arith, nat_tests)

set-back : (lists : List (List ℕ)) (id : ℕ) (list had : List ℕ) → had ≡ get_or lists id [] → set (set lists id list) id had ≡ lists
set-back lists id list had is = set-set lists id list had ∙ ap (set lists id) is ∙ set-get_or lists id []

-- after it had a front of it
module _ (s : ItemsState) (e : Earlier) (list : List ℕ) (placed : e.id < length s.lists) (had : e.list.items ≡ numbers_of s e.id) (front : take (length list) (numbers_of s e.id) ≡ list) (fewer : length list < length (numbers_of s e.id)) where
  now : ItemsState
  now = with_fewer e.id list s

  here : numbers_of (with_fewer e.id list s) e.id ≡ list
  here = list_here s e.id list placed

  more_had : length (numbers_of (with_fewer e.id list s) e.id) < length e.list.items
  more_had = omega (arith, ap (λ (l : List ℕ). length l) here, ap (λ (l : List ℕ). length l) had, fewer)

  free_is : s.free ++ drop (length list) (numbers_of s e.id) ≡ s.free ++ drop (length (numbers_of (with_fewer e.id list s) e.id)) e.list.items
  free_is = ap (λ (l : List ℕ). s.free ++ drop (length l) (numbers_of s e.id)) (sym here) ∙ ap (λ (l : List ℕ). s.free ++ drop (length (numbers_of (with_fewer e.id list s) e.id)) l) (sym had)

  pub can-again : CanHaveAgain e (with_fewer e.id list s)
  can-again = record {
    placed = omega (arith, placed, length-set s.lists e.id list);
    fewer = λ le. absurd (omega (arith, le, more_had));
    more = λ le. ap (λ (l : List ℕ). take (length l) e.list.items) here ∙ ap (take (length list)) had ∙ front ∙ sym here;
    rest = λ le. (s.free, free_is);
  }

  pub back-again-fewer : back_one e (with_fewer e.id list s) ≡ s
  back-again-fewer =
      back-again e (with_fewer e.id list s) more_had
      ∙ ap (λ (ls : List (List ℕ)). let state : ItemsState = record s { lists = ls; free = take (length (s.free ++ drop (length list) (numbers_of s e.id)) - (length e.list.items - length (numbers_of (with_fewer e.id list s) e.id))) (s.free ++ drop (length list) (numbers_of s e.id)) } in state) (set-back s.lists e.id list e.list.items had)
      ∙ ap (λ (f : List ℕ). let state : ItemsState = record s { free = f } in state) free_back
    where
      free_back : take (length (s.free ++ drop (length list) (numbers_of s e.id)) - (length e.list.items - length (numbers_of (with_fewer e.id list s) e.id))) (s.free ++ drop (length list) (numbers_of s e.id)) ≡ s.free
      free_back = cut-end s.free (drop (length list) (numbers_of s e.id)) _ _ refl
          (omega (arith, length-append s.free (drop (length list) (numbers_of s e.id)), length-drop (length list) (numbers_of s e.id), ap (λ (l : List ℕ). length l) here, ap (λ (l : List ℕ). length l) had, fewer))

-- after it had more
module _ (kind : Kind) (count : ℕ) (old new : ItemsState) (e : Earlier) (placed : e.id < length old.lists) (had : e.list.items ≡ numbers_of old e.id) (grown : IsGrown e.id kind count old new) where
  fits : length e.list.items ≤ length (numbers_of new e.id)
  fits = omega (arith, ap (λ (l : List ℕ). length l) had, grown.longer, grown.length_is)

  front_had : take (length e.list.items) (numbers_of new e.id) ≡ e.list.items
  front_had = ap (λ (l : List ℕ). take (length l) (numbers_of new e.id)) had ∙ grown.front ∙ sym had

  pub can-again-grown : CanHaveAgain e new
  can-again-grown = record {
    placed = omega (arith, placed, ap (λ (ls : List (List ℕ)). length ls) grown.lists, length-set old.lists e.id (numbers_of new e.id));
    fewer = λ le. front_had;
    more = λ le.
        let all : numbers_of new e.id ≡ e.list.items = sym (take_all (length e.list.items) (numbers_of new e.id) le) ∙ front_had in
        take_all (length (numbers_of new e.id)) e.list.items fits ∙ sym all;
    rest = λ le. (new.free, sym (ap (λ (l : List ℕ). new.free ++ l) (drop_all (length (numbers_of new e.id)) e.list.items fits) ∙ append-nil new.free));
  }

  pub same-again-grown : HasSameItems old (back_one e new)
  same-again-grown =
      let lists_are : set new.lists e.id e.list.items ≡ old.lists = ap (λ (ls : List (List ℕ)). set ls e.id e.list.items) grown.lists ∙ set-back old.lists e.id (numbers_of new e.id) e.list.items had in
      subst (HasSameItems old) (sym (back-fewer e new fits))
      (same_items old (with_fewer e.id e.list.items new) (λ x. ap (λ (ls : List (List ℕ)). get_or ls x []) lists_are) (λ x place lt. grown.others x place lt))

-- after it had so many
pub record LeadsBack (old : ItemsState) (earlier : List Earlier) (new : ItemsState) : Type 0 where
  pub can : CanGoBackBy earlier new
  pub same : HasSameItems old (back_by earlier new)

pub same_all : (s : ItemsState) → HasSameItems s s
same_all s = record { lists = λ id. refl; names = λ number item. (λ names. names, λ names. names) }

pub leads_back_none : (s : ItemsState) (earlier : List Earlier) → earlier ≡ [] → LeadsBack s earlier s
leads_back_none s earlier none = subst (λ (es : List Earlier). LeadsBack s es s) (sym none) (record { can = tt; same = same_all s })

pub leads_back_so : (old : ItemsState) (earlier : List Earlier) (new : ItemsState) → CanGoBackBy earlier new → back_by earlier new ≡ old → LeadsBack old earlier new
leads_back_so old earlier new can is = record { can = can; same = subst (HasSameItems old) (sym is) (same_all old) }

pub leads_back_as : (old : ItemsState) (earlier earlier' : Vec Earlier Global) (new new' : KeptItems) → earlier' ≡ earlier → new' ≡ new → LeadsBack old earlier.items new.items → LeadsBack old earlier'.items new'.items
leads_back_as old earlier earlier' new new' is new_is leads =
    subst (λ (kept : KeptItems). LeadsBack old earlier'.items kept.items) (sym new_is) (subst (λ (es : Vec Earlier Global). LeadsBack old es.items new.items) (sym is) leads)

pub leads_back_resized : (kind : Kind) (count : ℕ) (old new : ItemsState) (none earlier : List Earlier) (e : Earlier) → e.id < length old.lists → e.list.items ≡ numbers_of old e.id → IsResized e.id kind count old new → none ≡ [] → earlier ≡ none ++ e ∷ [] → LeadsBack old earlier new
leads_back_resized kind count old new none earlier e placed had resized none_is is =
    subst (λ (es : List Earlier). LeadsBack old es new) (sym (is ∙ ap (λ (es : List Earlier). es ++ e ∷ []) none_is)) (elim resized [
      | inl grown ↦ record { can = (can-again-grown kind count old new e placed had grown, tt); same = same-again-grown kind count old new e placed had grown }
      | inr fewer ↦
          let front : take (length (take count (numbers_of old e.id))) (numbers_of old e.id) ≡ take count (numbers_of old e.id) = ap (λ (n : ℕ). take n (numbers_of old e.id)) (omega (arith, length-take count (numbers_of old e.id), fewer.0)) in
          let shorter : length (take count (numbers_of old e.id)) < length (numbers_of old e.id) = omega (arith, length-take count (numbers_of old e.id), fewer.0) in
          subst (LeadsBack old (e ∷ [])) (sym fewer.1)
          (leads_back_so old (e ∷ []) (with_fewer e.id (take count (numbers_of old e.id)) old) (can-again old e (take count (numbers_of old e.id)) placed had front shorter, tt) (back-again-fewer old e (take count (numbers_of old e.id)) placed had front shorter))
    ])

-- One node after another.

pub back_by-push : (earlier : List Earlier) (e : Earlier) (s : ItemsState) → back_by (earlier ++ e ∷ []) s ≡ back_by earlier (back_one e s)
back_by-push [] e s = refl
back_by-push (first ∷ earlier) e s = ap (back_one first) (back_by-push earlier e s)

pub can_go_back-push : (earlier : List Earlier) (e : Earlier) (s : ItemsState) → CanHaveAgain e s → CanGoBackBy earlier (back_one e s) → CanGoBackBy (earlier ++ e ∷ []) s
can_go_back-push [] e s can rest = (can, tt)
can_go_back-push (first ∷ earlier) e s can rest = (subst (CanHaveAgain first) (sym (back_by-push earlier e s)) rest.0, can_go_back-push earlier e s can rest.1)

pub can_go_back-pop : (earlier : List Earlier) (e : Earlier) (s : ItemsState) → CanGoBackBy (earlier ++ e ∷ []) s → CanHaveAgain e s × CanGoBackBy earlier (back_one e s)
can_go_back-pop [] e s can = (can.0, tt)
can_go_back-pop (first ∷ earlier) e s can =
    let rest = can_go_back-pop earlier e s can.1 in
    (rest.0, (subst (CanHaveAgain first) (back_by-push earlier e s) can.0, rest.1))

-- the lists of these nodes are taken, but for the rest
pub record TakesListsUpTo (old now : ItemsState) (earlier : Vec Earlier Global) (ids rest : List ℕ) : Type 0 where
  pub lists : (x : ℕ) → (if is_among rest x then [] else numbers_of now x) ≡ (if is_among ids x then [] else numbers_of old x)
  pub given : now.given ≡ old.given
  pub can : CanGoBackBy earlier.items now
  pub back : back_by earlier.items now ≡ old
  pub room : vec_len earlier + length rest ≤ vec_capacity earlier

-- an id that is another one stands among some or among one more
among_other : (id x : ℕ) (rest : List ℕ) (here elsewhere : List ℕ) → here ≡ elsewhere → id ≢ x → (if is_among rest x then [] else here) ≡ (if is_among (id ∷ rest) x then [] else elsewhere)
among_other id x rest here elsewhere same other = grind (arith, nat_tests, same, other)

-- a list that is not empty is kept at an id
pub within_lists : (lists : List (List ℕ)) (id : ℕ) → 0 < length (get_or lists id []) → id < length lists
within_lists [] id some = absurd (omega (arith, some))
within_lists (list ∷ lists) zero some = omega arith
within_lists (list ∷ lists) (suc id) some = omega (arith, within_lists lists id some)

-- a node with numbers
pub takes_list : (old now : ItemsState) (earlier earlier' : Vec Earlier Global) (ids rest : List ℕ) (e : Earlier) → TakesListsUpTo old now earlier ids (e.id ∷ rest) → e.id < length now.lists → e.list.items ≡ numbers_of now e.id → 0 < length (numbers_of now e.id) →
    earlier'.items ≡ earlier.items ++ e ∷ [] → vec_len earlier' ≡ vec_len earlier + 1 → vec_capacity earlier' ≡ vec_capacity earlier → TakesListsUpTo old (with_fewer e.id [] now) earlier' ids rest
takes_list old now earlier earlier' ids rest e so placed had some items len capacity = record {
  lists = λ x. at x ∙ so.lists x;
  given = so.given;
  can = subst (λ (es : List Earlier). CanGoBackBy es (with_fewer e.id [] now)) (sym items) (can_go_back-push earlier.items e (with_fewer e.id [] now) (can-again now e [] placed had refl some) (subst (CanGoBackBy earlier.items) (sym back) so.can));
  back = ap (λ (es : List Earlier). back_by es (with_fewer e.id [] now)) items ∙ back_by-push earlier.items e (with_fewer e.id [] now) ∙ ap (back_by earlier.items) back ∙ so.back;
  room = omega (arith, so.room, len, capacity);
}
  where
    back : back_one e (with_fewer e.id [] now) ≡ now
    back = back-again-fewer now e [] placed had refl some

    at : (x : ℕ) → (if is_among rest x then [] else numbers_of (with_fewer e.id [] now) x) ≡ (if is_among (e.id ∷ rest) x then [] else numbers_of now x)
    at x = elim (cases_eq e.id x) [
      | inl same ↦
          let nothing : numbers_of (with_fewer e.id [] now) x ≡ [] = ap (numbers_of (with_fewer e.id [] now)) (sym same) ∙ list_here now e.id [] placed in
          let among : is_among (e.id ∷ rest) x ≡ true = grind (arith, nat_tests, same) in
          by_test (is_among rest x) nothing ∙ ap (λ (b : Bool). if b then [] else numbers_of now x) (sym among)
      | inr other ↦ among_other e.id x rest (numbers_of (with_fewer e.id [] now) x) (numbers_of now x) (list_elsewhere now e.id [] placed x (λ same. other (sym same))) other
    ]
      where
        by_test : (b : Bool) → numbers_of (with_fewer e.id [] now) x ≡ [] → (if b then [] else numbers_of (with_fewer e.id [] now) x) ≡ []
        by_test true nothing = refl
        by_test false nothing = nothing

pub takes_list_so : (old now new : ItemsState) (earlier earlier' : Vec Earlier Global) (ids rest list : List ℕ) (e : Earlier) → TakesListsUpTo old now earlier ids (e.id ∷ rest) → 0 < length (numbers_of now e.id) → new ≡ with_fewer e.id list now → list ≡ [] → e.list.items ≡ numbers_of now e.id →
    earlier'.items ≡ earlier.items ++ e ∷ [] → vec_len earlier' ≡ vec_len earlier + 1 → vec_capacity earlier' ≡ vec_capacity earlier → TakesListsUpTo old new earlier' ids rest
takes_list_so old now new earlier earlier' ids rest list e so some step none had items len capacity =
    subst (λ (s : ItemsState). TakesListsUpTo old s earlier' ids rest) (sym (step ∙ ap (λ (l : List ℕ). with_fewer e.id l now) none))
    (takes_list old now earlier earlier' ids rest e so (within_lists now.lists e.id some) had some items len capacity)

-- the lists that are left can be had again, and lead to what all lead to
pub record GoesBackBy (earlier : List Earlier) (old : ItemsState) (left : List Earlier) (now : ItemsState) : Type 0 where
  pub can : CanGoBackBy left now
  pub leads : back_by left now ≡ back_by earlier old

pub goes_back_more : (earlier : List Earlier) (old : ItemsState) (all left : List Earlier) (now new : ItemsState) (e : Earlier) → GoesBackBy earlier old all now → all ≡ left ++ e ∷ [] → new ≡ back_one e now → GoesBackBy earlier old left new
goes_back_more earlier old all left now new e so is step = record {
  can = subst (CanGoBackBy left) (sym step) (can_go_back-pop left e now (subst (λ (es : List Earlier). CanGoBackBy es now) is so.can)).1;
  leads = ap (back_by left) step ∙ sym (back_by-push left e now) ∙ ap (λ (es : List Earlier). back_by es now) (sym is) ∙ so.leads;
}

pub goes_back_next : (earlier : List Earlier) (old : ItemsState) (all left : List Earlier) (now : ItemsState) (e : Earlier) → GoesBackBy earlier old all now → all ≡ left ++ e ∷ [] → CanHaveAgain e now
goes_back_next earlier old all left now e so is = (can_go_back-pop left e now (subst (λ (es : List Earlier). CanGoBackBy es now) is so.can)).0

-- lists that hold numbers
abbrev pub lists_in : List (SmallVec ℕ) → List (List ℕ)
lists_in lists = map (λ list. list.items) lists

-- the same lists, and empty ones behind them
pub record HasSameLists (old new : Vec (SmallVec ℕ) Global) (count : ℕ) : Type 0 where
  pub lists : (x : ℕ) → get_or (lists_in new.items) x [] ≡ get_or (lists_in old.items) x []
  pub sums : (f : List ℕ → ℕ) → f [] ≡ 0 → sum_by f (lists_in new.items) ≡ sum_by f (lists_in old.items)
  pub len : vec_len new ≡ count
