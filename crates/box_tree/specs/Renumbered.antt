-- What an edit makes of the numbers of the items, and how that is taken back.
use Rattle.std.specs.Prelude.{◌≡◌, ◌≢◌, ◌⊎◌, ℕ, ◌+◌, ◌-◌, ◌<◌, ◌≤◌, ◌==◌, List, [], ◌∷◌, ◌++◌, length, take, drop, Some, slice_get, slice_index_or, slice_set, if◌then◌else◌, nat_le, nat_lt}
use Rattle.box_tree.specs.declared.item.Item.{Item}
use Rattle.box_tree.specs.declared.item.Part.{Part}
use Rattle.box_tree.specs.declared.item.Part.TheVariants.{Box, Content, Outline}
use Rattle.box_tree.specs.declared.items.Earlier.{Earlier}
use Rattle.box_tree.specs.declared.kind.Kind.{Kind}
use Rattle.box_tree.specs.declared.kind.Kind.TheVariants.{Image, Shape}
use Rattle.box_tree.specs.Numbers.{ItemsState, numbers_of}
use Rattle.box_tree.specs.Planned.{is_among, times_in}

-- the part at a place among the items of a node of a kind, which has one box at most where it is an image
abbrev pub part_at : Kind → ℕ → Part
part_at Image place = if place == 0 then Box 0 else Content
part_at Shape place = Outline
part_at kind place = Box place

abbrev pub item_at : ℕ → Kind → ℕ → Item
item_at id kind place = record { node = id; part = part_at kind place }

-- a number that was free is given to an item, the one that is next
pub record IsGivenAgain (item : Item) (given : List Item) (free : List ℕ) (given' : List Item) (free' : List ℕ) (number : ℕ) : Type 0 where
  pub free_is : free ≡ free' ++ number ∷ []
  pub given_is : given' ≡ slice_set given number item

-- a new number is given to an item, as none is free
pub record IsGivenNew (item : Item) (given : List Item) (free : List ℕ) (given' : List Item) (free' : List ℕ) (number : ℕ) : Type 0 where
  pub free_none : free ≡ []
  pub free_is : free' ≡ []
  pub number_is : number ≡ length given
  pub given_is : given' ≡ given ++ item ∷ []

abbrev pub Gives : Item → List Item → List ℕ → List Item → List ℕ → ℕ → Type 0
Gives item given free given' free' number = IsGivenAgain item given free given' free' number ⊎ IsGivenNew item given free given' free' number

-- 1 where a number was ever given, and else 0
abbrev pub once_below : ℕ → List Item → ℕ
once_below k given = if nat_lt k (length given) then 1 else 0

-- numbers were given to items of a node, at the end of its list; they were free or are new
pub record IsFilled (id : ℕ) (kind : Kind) (list : List ℕ) (given : List Item) (free : List ℕ) (list' : List ℕ) (given' : List Item) (free' : List ℕ) : Type 0 where
  pub front : take (length list) list' ≡ list
  pub longer : length list ≤ length list'
  pub times : (k : ℕ) → times_in k list' + times_in k free' + once_below k given ≡ times_in k list + times_in k free + once_below k given'
  pub counts : length list' + length free' + length given ≡ length list + length free + length given'
  pub grows : length given ≤ length given'
  pub most : length given' + length list ≤ length given + length list'
  pub full : (length given' ≡ length given) ⊎ (free' ≡ [])
  pub freed : (k : ℕ) → times_in k free' ≤ times_in k free
  pub items : (place : ℕ) → length list ≤ place → place < length list' → slice_get given' (slice_index_or list' place 0) ≡ Some (item_at id kind place)
  pub others : (k : ℕ) → times_in k free ≡ 0 → k < length given → slice_get given' k ≡ slice_get given k
  pub fresh : (place : ℕ) → length list ≤ place → place < length list' → (0 < times_in (slice_index_or list' place 0) free) ⊎ (length given ≤ slice_index_or list' place 0)

-- a node has so many items: those that it had keep their numbers, and the others have numbers that were in no list
pub record IsGrown (id : ℕ) (kind : Kind) (count : ℕ) (old new : ItemsState) : Type 0 where
  pub lists : new.lists ≡ slice_set old.lists id (numbers_of new id)
  pub front : take (length (numbers_of old id)) (numbers_of new id) ≡ numbers_of old id
  pub longer : length (numbers_of old id) ≤ count
  pub length_is : length (numbers_of new id) ≡ count
  pub items : (place : ℕ) → length (numbers_of old id) ≤ place → place < count → slice_get new.given (slice_index_or (numbers_of new id) place 0) ≡ Some (item_at id kind place)
  pub others : (x place : ℕ) → place < length (numbers_of old x) → slice_get new.given (slice_index_or (numbers_of old x) place 0) ≡ slice_get old.given (slice_index_or (numbers_of old x) place 0)
  pub fresh : (place x other : ℕ) → length (numbers_of old id) ≤ place → place < count → other < length (numbers_of old x) → slice_index_or (numbers_of old x) other 0 ≢ slice_index_or (numbers_of new id) place 0

-- these nodes have no items, and the others have theirs
pub record IsTakenFrom (ids : List ℕ) (old new : ItemsState) : Type 0 where
  pub lists : (id : ℕ) → numbers_of new id ≡ (if is_among ids id then [] else numbers_of old id)
  pub given : new.given ≡ old.given

-- the numbers where a node has this front of its list alone: the others are free
abbrev pub with_fewer : ℕ → List ℕ → ItemsState → ItemsState
with_fewer id list s = record s { free = s.free ++ drop (length list) (numbers_of s id); lists = slice_set s.lists id list }

-- a node has so many items, and if they are fewer then the first of those that it had
abbrev pub IsResized : ℕ → Kind → ℕ → ItemsState → ItemsState → Type 0
IsResized id kind count old new =
    IsGrown id kind count old new
    ⊎ ((count < length (numbers_of old id)) × (new ≡ with_fewer id (take count (numbers_of old id)) old))

-- the numbers where a node has this list again, whose rest became free last
abbrev pub with_again : ℕ → List ℕ → ItemsState → ItemsState
with_again id list s = record s { free = take (length s.free - (length list - length (numbers_of s id))) s.free; lists = slice_set s.lists id list }

-- the numbers where a node has the list that it had
abbrev pub back_one : Earlier → ItemsState → ItemsState
back_one e s = if nat_le (length e.list.items) (length (numbers_of s e.id)) then with_fewer e.id e.list.items s else with_again e.id e.list.items s

-- the numbers where nodes have the lists that they had, the last one first
abbrev pub back_by : List Earlier → ItemsState → ItemsState
back_by [] s = s
back_by (e ∷ earlier) s = back_one e (back_by earlier s)

-- one list is the front of the other, and where the node had more, these became free last
pub record CanHaveAgain (e : Earlier) (s : ItemsState) : Type 0 where
  pub placed : e.id < length s.lists
  pub fewer : length e.list.items ≤ length (numbers_of s e.id) → take (length e.list.items) (numbers_of s e.id) ≡ e.list.items
  pub more : length (numbers_of s e.id) ≤ length e.list.items → take (length (numbers_of s e.id)) e.list.items ≡ numbers_of s e.id
  pub rest : length (numbers_of s e.id) ≤ length e.list.items → (kept : List ℕ) × (s.free ≡ kept ++ drop (length (numbers_of s e.id)) e.list.items)

abbrev pub CanGoBackBy : List Earlier → ItemsState → Type 0
CanGoBackBy [] s = Unit {0}
CanGoBackBy (e ∷ earlier) s = CanHaveAgain e (back_by earlier s) × CanGoBackBy earlier s
