-- How often a number stands in a list.
use Rattle.std.proofs.Common.{◌≡◌, ℕ, Option, Some, None, sym, ◌+◌, ◌<◌, ◌≤◌, cond, eqb, List, [], ◌∷◌, ◌++◌, length, get_or, take, refl, ap, ◌∙◌, arith}
use Rattle.std.proofs.lemmas.List.Sums.{sum_by_push, sum_by_more, sum_by-take-le, sum_by-swap_remove, sum_by-cons}
use Rattle.std.specs.List.{swap_remove, slice_get, position, position_or_len}
use Rattle.std.proofs.lemmas.Option.{get_or_from_slice_get, slice_get_within, slice_get-get_or}
use Rattle.std.specs.Option.{IfSome}
use Rattle.std.proofs.lemmas.List.Quantifiers.{position-Some}
use Rattle.std.proofs.lemmas.Bool.Decides.{nat_tests}
use Rattle.spatial_index.specs.Contents.{times, once_if}

abbrev one_at : ℕ → ℕ → ℕ
one_at item other = cond (eqb other item) 1 0

pub times-nil : (item : ℕ) → times item [] ≡ 0
unfolding times
times-nil item = refl

pub times_push : (item : ℕ) (items : List ℕ) (other : ℕ) → times item (items ++ other ∷ []) ≡ times item items + once_if (eqb other item)
unfolding times
times_push item items other = sum_by_push (one_at item) items other

pub times_more : (item : ℕ) (items : List ℕ) (i d : ℕ) → i < length items → times item (take (i + 1) items) ≡ times item (take i items) + once_if (eqb (get_or items i d) item)
unfolding times
times_more item items i d h = sum_by_more (one_at item) items i d h

pub times-take-le : (item : ℕ) (items : List ℕ) (i : ℕ) → times item (take i items) ≤ times item items
unfolding times
times-take-le item items i = sum_by-take-le (one_at item) items i

pub times-swap_remove : (item : ℕ) (items : List ℕ) (i d : ℕ) → i < length items → times item (swap_remove items i d) + once_if (eqb (get_or items i d) item) ≡ times item items
unfolding times
times-swap_remove item items i d h = sum_by-swap_remove (one_at item) items i d h

absent : (item : ℕ) (items : List ℕ) → length items ≤ position_or_len (λ other. eqb other item) items → times item items ≡ 0
unfolding times
absent item [] h = refl
absent item (x ∷ xs) h = grind (arith, nat_tests, absent item xs, sum_by-cons (one_at item) x xs)

-- an item that has no place stands nowhere
pub times-None : (item : ℕ) (items : List ℕ) → position (λ other. eqb other item) items ≡ None → times item items ≡ 0
times-None item items h = absent item items (grind (arith, nat_tests))

-- without the one at a place of the item
pub times-without : (item : ℕ) (items : List ℕ) (i d other : ℕ) → slice_get items i ≡ Some item → times other (swap_remove items i d) + once_if (eqb item other) ≡ times other items
times-without item items i d other h =
    let here : get_or items i d ≡ item = get_or_from_slice_get items i item d h in
    rw here at (times-swap_remove other items i d (slice_get_within items i item h))

-- the first place of an item is one at which it stands
pub slice_get-position : (item : ℕ) (items : List ℕ) (i : ℕ) → position (λ other. eqb other item) items ≡ Some i → slice_get items i ≡ Some item
slice_get-position item items i h =
    let found = position-Some (λ other. eqb other item) items i 0 h in
    let here : get_or items i 0 ≡ item = grind (arith, nat_tests, found.1) in
    slice_get-get_or items i 0 found.0 ∙ ap Some here

pub IfSome-position : (item : ℕ) (items : List ℕ) (place : Option ℕ) → place ≡ position (λ other. eqb other item) items → IfSome place (λ i. slice_get items i ≡ Some item)
IfSome-position item items None e = tt
IfSome-position item items (Some i) e = slice_get-position item items i (sym e)
