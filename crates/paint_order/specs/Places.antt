-- Where the items and the lists of a forest stand.
use Rattle.std.specs.Prelude.{◌≡◌, ℕ, List, Option, Some, slice_get}
use Rattle.paint_order.specs.declared.entry.Entry.{Entry}
use Rattle.paint_order.specs.declared.entry.Entry.TheVariants.{Item, Sub}
use Rattle.paint_order.specs.declared.place.Place.{Place}
use Rattle.paint_order.specs.Lists.{Lists, StandsAt}

-- a place for each item and for each list, by their numbers
pub record PlaceTables : Type 0 where
  pub items : List Place
  pub lists : List Place

abbrev pub place : ℕ → ℕ → Place
place l k = record { list = l; at = k }

-- the place that is kept for an entry; None for a number without room
abbrev pub place_of : PlaceTables → Entry → Option Place
place_of tables (Item i) = slice_get tables.items i
place_of tables (Sub l) = slice_get tables.lists l

-- for each entry that stands somewhere just this is its place
abbrev pub ArePlaced : Lists → PlaceTables → Type 0
ArePlaced lists tables = (l k : ℕ) (entry : Entry) → StandsAt lists entry l k → place_of tables entry ≡ Some (place l k)
