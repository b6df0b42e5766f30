-- The numbers of the items of a page.
use Rattle.std.specs.Prelude.{◌≡◌, ◌⊎◌, ℕ, map, min, Vec, vec_capacity, ◌<◌, ◌↔◌, List, [], length, Some, Contains, slice_get, slice_index_or}
use Rattle.std.specs.declared.alloc.Global.{Global}
use Rattle.smallvec.specs.SmallVec.{SmallVec}
use Rattle.box_tree.specs.declared.item.Item.{Item}
use Rattle.box_tree.specs.declared.item.Part.{Part}
use Rattle.box_tree.specs.declared.item.Part.TheVariants.{Box, Content, Outline}
use Rattle.box_tree.specs.Contents.{Contents}
use Rattle.box_tree.specs.Items.{node_items}

-- the item that each number was given to last, from 0 on; the numbers of the items of each node, by its id; and the numbers
-- that no item has, the next one last
pub record ItemsState : Type 0 where
  pub given : List Item
  pub lists : List (List ℕ)
  pub free : List ℕ

-- the same as lists keep it, and below which number all are that can be given without memory
pub record KeptItems : Type 0 where
  pub items : ItemsState
  pub room : ℕ

abbrev pub items_state : List Item → List ℕ → List (SmallVec ℕ) → ItemsState
items_state given free lists = record { given = given; lists = map (λ list. list.items) lists; free = free }

abbrev pub number_room : Vec Item Global → Vec ℕ Global → ℕ
number_room given free = min (min (vec_capacity given) (vec_capacity free)) 655360

-- the numbers of the items of a node, in order
abbrev pub numbers_of : ItemsState → ℕ → List ℕ
numbers_of s id = slice_index_or s.lists id []

-- the place of a part among those of its node: a picture comes after its box
abbrev pub place_of : Part → ℕ
place_of (Box place) = place
place_of Content = 1
place_of Outline = 0

-- the number is that of the item: it was given to the item last, and the item has it
pub record Names (s : ItemsState) (number : ℕ) (item : Item) : Type 0 where
  pub given_to : slice_get s.given number ≡ Some item
  pub there : place_of item.part < length (numbers_of s item.node)
  pub number_is : slice_index_or (numbers_of s item.node) (place_of item.part) 0 ≡ number

-- the number is that of an item
abbrev pub IsNumber : ItemsState → ℕ → Type 0
IsNumber s number = (item : Item) × Names s number item

-- each node has one number for each of its items, in their order
pub record IsNumbered (s : ItemsState) (items : ℕ → List Item) : Type 0 where
  pub count : (id : ℕ) → length (numbers_of s id) ≡ length (items id)
  pub named : (id place : ℕ) (none : Item) → place < length (items id) → Names s (slice_index_or (numbers_of s id) place 0) (slice_index_or (items id) place none)

-- the item is one of the page
abbrev pub IsItem : Contents → Item → Type 0
IsItem page item = Contains (node_items page item.node) item

-- the items of a page and their numbers correspond one to one, each node has those of its items in their order, and each is
-- below the limit
pub record IsNumberedPage (page : Contents) (s : ItemsState) : Type 0 where
  pub in_order : IsNumbered s (node_items page)
  pub each : (item : Item) → IsItem page item → (number : ℕ) × Names s number item
  pub only : (number : ℕ) (item : Item) → Names s number item → IsItem page item
  pub one_number : (item : Item) (number other : ℕ) → Names s number item → Names s other item → number ≡ other
  pub one_item : (number : ℕ) (item other : Item) → Names s number item → Names s number other → item ≡ other
  pub below : (number : ℕ) (item : Item) → Names s number item → number < 655360

-- an item that is there before and after keeps its number
abbrev pub KeepsNumbers : (old new : ItemsState) → (after : Contents) → Type 0
KeepsNumbers old new after = (number : ℕ) (item : Item) → Names old number item → IsItem after item → Names new number item

-- an item has the number that it had, or one that no item had
abbrev pub GivesFreshNumbers : (old new : ItemsState) → Type 0
GivesFreshNumbers old new = (number : ℕ) (item : Item) → Names new number item → Names old number item ⊎ (IsNumber old number → ⊥)

-- the same items have the same numbers
pub record HasSameItems (old new : ItemsState) : Type 0 where
  pub lists : (id : ℕ) → numbers_of new id ≡ numbers_of old id
  pub names : (number : ℕ) (item : Item) → Names new number item ↔ Names old number item
