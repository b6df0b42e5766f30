-- Items by their numbers, topmost first, as a forest of lists orders them.
use Rattle.std.specs.Prelude.{◌≡◌, ◌≤◌, ℕ, ℤ, ◌+◌, ◌==◌, nat_lt, List, [], ◌∷◌, Bool, IsTrue, Option, None, Some, All, map, reverse, slice_index_or, if◌then◌else◌}
use Rattle.box_tree.specs.declared.item.Item.{Item}
use Rattle.box_tree.specs.declared.item.Part.TheVariants.{Box}
use Rattle.box_tree.specs.Contents.{Contents}
use Rattle.box_tree.specs.Forest.{roots_of}
use Rattle.box_tree.specs.Numbers.{ItemsState, IsNumber}
use Rattle.box_tree.specs.Planned.{times_in}
use Rattle.paint_order.specs.Order.{flattened, is_member, IsWhole, NestWithin}
use Rattle.paint_order.specs.State.{State}
use Rattle.stacking.specs.OnPage.{of_node}
use Rattle.stacking.specs.Painting.{layer}
use Rattle.point_query.specs.Elements.{is_inside, elements_of}

-- the place of a number in a list, from 0 on; the length where it isn't there
abbrev pub place_in : List ℕ → ℕ → ℕ
place_in [] n = 0
place_in (x ∷ xs) n = if x == n then 0 else place_in xs n + 1

-- whether the first of two numbers comes later in a list from bottom to top
abbrev pub lies_above : List ℕ → ℕ → ℕ → Bool
lies_above xs n other = nat_lt (place_in xs other) (place_in xs n)

-- no number stands twice
abbrev pub StandOnce : List ℕ → Type 0
StandOnce xs = (n : ℕ) → times_in n xs ≤ 1

-- the numbers of the items of a forest, from bottom to top
abbrev pub painted : State → List ℕ
painted forest = flattened 256 forest.lists forest.root

-- a forest in which any two items that are painted can be ordered
pub record IsOrdered (forest : State) : Type 0 where
  pub whole : IsWhole forest.lists forest.root
  pub shallow : NestWithin 256 forest.lists
  pub once : StandOnce (painted forest)

-- the item that a number was given to last
abbrev pub item_named : ItemsState → ℕ → Item
item_named s n = slice_index_or s.given n (record { node = 0; part = Box 0 })

abbrev pub items_named : ItemsState → List ℕ → List Item
items_named s numbers = map (item_named s) numbers

-- an id where there is one that isn't one of these
abbrev pub if_new : List ℕ → Option ℕ → List ℕ
if_new ids None = []
if_new ids (Some id) = if is_member id ids then [] else id ∷ []

-- numbers are those of items, for a point inside the viewport of a page with this root, and the elements of these items are those
-- of the layer of the root from top to bottom
pub record AreTopmostFirst (page : Contents) (s : ItemsState) (x y : ℤ) (root : ℕ) (numbers : List ℕ) : Type 0 where
  pub inside : IsTrue (is_inside page.viewport x y)
  pub rooted : roots_of page.tree ≡ root ∷ []
  pub items : All (IsNumber s) numbers
  pub elements : elements_of page x y (items_named s numbers) ≡ elements_of page x y (reverse (of_node layer page root))
