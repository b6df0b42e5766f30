-- The order in which the items of a forest of lists are painted, bottom first.
use Rattle.std.specs.Prelude.{◌≢◌, ℕ, zero, suc, Bool, false, ◌&&◌, ◌||◌, ◌==◌, List, [], ◌∷◌, IsSome}
use Rattle.std.specs.List.{flat_map, list_any}
use Rattle.paint_order.specs.declared.entry.Entry.{Entry}
use Rattle.paint_order.specs.declared.entry.Entry.TheVariants.{Item, Sub}
use Rattle.paint_order.specs.Lists.{Lists, list_under, entries_of, StandsAt, Stands}

-- the items that an entry stands for, given the items of each list
abbrev pub items_of : (ℕ → List ℕ) → Entry → List ℕ
items_of inner (Item i) = i ∷ []
items_of inner (Sub l) = inner l

-- the flattened list of a number: each list in it is replaced by its own entries, and so on, down to this many
-- levels of lists; below them there is nothing
unfoldable pub flattened : (levels : ℕ) → Lists → ℕ → List ℕ
flattened zero lists l = []
flattened (suc levels) lists l = flat_map (items_of (flattened levels lists)) (entries_of lists l)

abbrev pub is_member : ℕ → List ℕ → Bool
is_member x xs = list_any (λ y. y == x) xs

-- i stands somewhere in the list, and j somewhere after it
abbrev pub is_earlier : ℕ → ℕ → List ℕ → Bool
is_earlier i j [] = false
is_earlier i j (x ∷ xs) = ((x == i) && is_member j xs) || is_earlier i j xs

-- the list of this number nests at most so many levels deep: one without lists in it is one level deep
unfoldable pub NestsWithin : (levels : ℕ) → Lists → ℕ → Type 0
NestsWithin zero lists l = ⊥
NestsWithin (suc levels) lists l = (k m : ℕ) → StandsAt lists (Sub m) l k → NestsWithin levels lists m

-- lists nest at most so many levels deep
abbrev pub NestWithin : (levels : ℕ) → Lists → Type 0
NestWithin levels lists = (l : ℕ) → NestsWithin levels lists l

-- Each list other than the root list stands in a list. No entry stands twice, in any forest: the condition under
-- which a list is put sees to it.
abbrev pub IsWhole : Lists → ℕ → Type 0
IsWhole lists root = (l : ℕ) → IsSome (list_under lists l) → l ≢ root → Stands lists (Sub l)
