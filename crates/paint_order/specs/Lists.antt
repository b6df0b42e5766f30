-- Lists of entries under numbers, as a table: the list of number n is at place n, and None where no list has
-- that number.
use Rattle.std.specs.Prelude.{◌≡◌, ℕ, ◌<◌, List, [], Option, Some, None, unwrap_or, slice_get, slice_index_or}
use Rattle.paint_order.specs.declared.entry.Entry.{Entry}
use Rattle.paint_order.specs.declared.entry.Entry.TheVariants.{Item, Sub}

abbrev pub Lists : Type 0
Lists = List (Option (List Entry))

-- the list of a number, None where no list has it
abbrev pub list_under : Lists → ℕ → Option (List Entry)
list_under lists n = slice_index_or lists n None

-- its entries from bottom to top; none where there is no list
abbrev pub entries_of : Lists → ℕ → List Entry
entries_of lists n = unwrap_or (list_under lists n) []

-- the entry stands in the list number l, as its entry number k
abbrev pub StandsAt : Lists → Entry → ℕ → ℕ → Type 0
StandsAt lists entry l k = slice_get (entries_of lists l) k ≡ Some entry

-- the entry stands somewhere
abbrev pub Stands : Lists → Entry → Type 0
Stands lists entry = (l : ℕ) × (k : ℕ) × StandsAt lists entry l k

-- an item's number is below the item room, and a list's below the list room
abbrev pub IsInRoom : (items lists : ℕ) → Entry → Type 0
IsInRoom items lists (Item i) = i < items
IsInRoom items lists (Sub l) = l < lists

-- no two of the entries are the same
abbrev pub AreDistinct : List Entry → Type 0
AreDistinct entries =
    (j k : ℕ) (entry : Entry) → slice_get entries j ≡ Some entry → slice_get entries k ≡ Some entry → j ≡ k

-- none of the entries stands in a list other than that of the number
abbrev pub StandNowhereElse : Lists → ℕ → List Entry → Type 0
StandNowhereElse lists list entries =
    (l j k : ℕ) (entry : Entry) → slice_get entries j ≡ Some entry → StandsAt lists entry l k → l ≡ list
