-- Ways from a list down to an item.
use Rattle.std.specs.Prelude.{◌≡◌, ℕ, ◌⊎◌, List, [], ◌∷◌, Option, Some, None}
use Rattle.paint_order.specs.declared.entry.Entry.TheVariants.{Item, Sub}
use Rattle.paint_order.specs.declared.place.Place.{Place}
use Rattle.paint_order.specs.Lists.{Lists, StandsAt}

-- The numbers lead from the list number l to the item: the first is the number of an entry of that list, which is
-- the item if it is the last, and else a list from which the others lead on.
unfoldable pub LeadsTo : Lists → ℕ → List ℕ → ℕ → Type 0
LeadsTo lists l [] i = ⊥
LeadsTo lists l (k ∷ ks) i =
    ((ks ≡ []) × StandsAt lists (Item i) l k) ⊎ ((m : ℕ) × StandsAt lists (Sub m) l k × LeadsTo lists m ks i)

-- The way that was climbed so far: it leads down from the root list, where there is no place to climb on from, and
-- else from the list of that place, where its number comes first.
abbrev pub LeadsOn : Lists → (root : ℕ) → Option Place → List ℕ → ℕ → Type 0
LeadsOn lists root None ks i = LeadsTo lists root ks i
LeadsOn lists root (Some place) ks i = LeadsTo lists place.list (place.at ∷ ks) i
