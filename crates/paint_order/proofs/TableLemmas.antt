-- The kept places as the tables of lists and places grow.
use Rattle.std.proofs.Common.{◌≡◌, ℕ, zero, suc, ◌<◌, IsSome, is_some, List, Option, arith, [], ◌∷◌, ◌++◌, length, Some, None, slice_get, unwrap_or, set, replicate, refl, sym, ap, ◌∙◌, subst}
use Rattle.std.proofs.lemmas.Option.{none-some, same_Some, slice_get_within}
use Rattle.std.proofs.lemmas.List.{get_or-set_same, length-replicate}
use Rattle.paint_order.specs.declared.entry.Entry.{Entry}
use Rattle.paint_order.specs.declared.entry.Entry.TheVariants.{Item, Sub}
use Rattle.paint_order.specs.declared.place.Place.{Place}
use Rattle.paint_order.specs.Lists.{Lists, StandsAt, list_under, entries_of, Stands, IsInRoom}
use Rattle.paint_order.specs.Places.{PlaceTables, place, place_of, ArePlaced}

-- places that stay serve the same lists
pub placed-kept : (lists : Lists) (old new : PlaceTables) → ArePlaced lists old
    → ((entry : Entry) (at : Place) → place_of old entry ≡ Some at → place_of new entry ≡ Some at)
    → ArePlaced lists new
placed-kept lists old new placed kept = λ l k entry at. kept entry (place l k) (placed l k entry at)

-- lists with the same entries have the same places
pub placed-same : (old new : Lists) (tables : PlaceTables) → ((n : ℕ) → list_under new n ≡ list_under old n)
    → ArePlaced old tables → ArePlaced new tables
placed-same old new tables same placed = λ l k entry at.
    placed l k entry (subst (λ o. slice_get (unwrap_or o []) k ≡ Some entry) (same l) at)

-- numbers without a list at the end of a table
pub under-none : (n k : ℕ) → list_under (replicate n None) k ≡ None
under-none zero k = refl
under-none (suc n) zero = refl
under-none (suc n) (suc k) = under-none n k

pub under-longer : (lists : Lists) (n k : ℕ) → list_under (lists ++ replicate n None) k ≡ list_under lists k
under-longer [] n k = under-none n k
under-longer (o ∷ lists) n zero = refl
under-longer (o ∷ lists) n (suc k) = under-longer lists n k

-- a table with one empty list has no entry
entries-first : (n r l : ℕ) → entries_of (set (replicate n None) r (Some [])) l ≡ []
entries-first zero r l = refl
entries-first (suc n) zero zero = refl
entries-first (suc n) zero (suc l) = ap (λ o. unwrap_or o []) (under-none n l)
entries-first (suc n) (suc r) zero = refl
entries-first (suc n) (suc r) (suc l) = entries-first n r l

pub placed-first : (n r : ℕ) (tables : PlaceTables) → ArePlaced (set (replicate n None) r (Some [])) tables
placed-first n r tables = λ l k entry at.
    absurd (none-some entry (sym (ap (λ es. slice_get es k) (entries-first n r l)) ∙ at))

-- what has a place is within the room
room-from_place : (tables : PlaceTables) (entry : Entry) (at : Place) → place_of tables entry ≡ Some at
    → IsInRoom (length tables.items) (length tables.lists) entry
room-from_place tables (Item i) at h = slice_get_within tables.items i at h
room-from_place tables (Sub l) at h = slice_get_within tables.lists l at h

pub room-from_standing : (lists : Lists) (tables : PlaceTables) (entry : Entry) → ArePlaced lists tables
    → Stands lists entry → IsInRoom (length tables.items) (length tables.lists) entry
room-from_standing lists tables entry placed stands =
    room-from_place tables entry (place stands.0 stands.1) (placed stands.0 stands.1 entry stands.2)

-- the place that is kept for what stands is where it stands
pub stands-at_place : (lists : Lists) (tables : PlaceTables) (entry : Entry) → ArePlaced lists tables
    → Stands lists entry → (at : Place) → place_of tables entry ≡ Some at → StandsAt lists entry at.list at.at
stands-at_place lists tables entry placed stands at kept =
    let here : at ≡ place stands.0 stands.1 =
    same_Some _ _ (sym kept ∙ placed stands.0 stands.1 entry stands.2) in
    subst (λ p. StandsAt lists entry p.list p.at) (sym here) stands.2

-- what has no place stands nowhere
pub nowhere-without_place : (lists : Lists) (tables : PlaceTables) (entry : Entry) → ArePlaced lists tables
    → place_of tables entry ≡ None → Stands lists entry → ⊥
nowhere-without_place lists tables entry placed none stands =
    none-some (place stands.0 stands.1) (sym none ∙ placed stands.0 stands.1 entry stands.2)

-- ---- the root list

pub there-first : (n root : ℕ) → root < n → IsSome (list_under (set (replicate n None) root (Some [])) root)
there-first n root low =
    let size : length (replicate {A = Option (List Entry)} n None) ≡ n = length-replicate n None in
    ap is_some (get_or-set_same {A = Option (List Entry)} (replicate n None) root (Some []) None (omega arith))

pub there-longer : (lists : Lists) (n root : ℕ) → IsSome (list_under lists root)
    → IsSome (list_under (lists ++ replicate n None) root)
there-longer lists n root there = rw (under-longer lists n root) there
