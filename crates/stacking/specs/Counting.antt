-- How often items stand in lists.
use Rattle.std.specs.Prelude.{◌≡◌, ℕ, ◌+◌, ◌≤◌, ◌==◌, ◌&&◌, List, [], ◌∷◌, ◌++◌, Bool, true, false, if◌then◌else◌}
use Rattle.box_tree.specs.declared.item.Item.{Item}
use Rattle.box_tree.specs.declared.item.Part.{Part}
use Rattle.box_tree.specs.declared.item.Part.TheVariants.{Box, Content, Outline}
use Rattle.box_tree.specs.Forest.{Label, Forest, End, Grow}
use Rattle.box_tree.specs.Contents.{Contents, IsValid}
use Rattle.stacking.specs.Painting.{own, drawn, layer}

-- how many of the items pass a test
abbrev pub count : (Item → Bool) → List Item → ℕ
count test [] = 0
count test (item ∷ items) = (if test item then 1 else 0) + count test items

-- the items of trees in tree order: of each node its boxes, and then the picture of an image or the outline of a shape
abbrev pub items_in : List Label → Forest → List Item
items_in above End = []
items_in above (Grow n below others) =
    own (record { label = n; above = above; below = below })
    ++ (drawn n
    ++ (items_in (n ∷ above) below ++ items_in above others))

-- the layer of the root of a page, and nothing without a root
abbrev pub root_layer : Forest → List Item
root_layer End = []
root_layer (Grow n below others) = layer (record { label = n; above = []; below = below })

-- in the layer of the root of a valid page stand just the items of the page, each as often as among these: whatever is
-- counted, there is as much of it
abbrev pub AllItemsArePainted : Type 0
AllItemsArePainted = (page : Contents) → IsValid page → (test : Item → Bool) → count test (root_layer page.tree) ≡ count test (items_in [] page.tree)

-- whether two parts of a node are the same
abbrev pub is_part : Part → Part → Bool
is_part (Box place) (Box other) = place == other
is_part (Box place) Content = false
is_part (Box place) Outline = false
is_part Content (Box other) = false
is_part Content Content = true
is_part Content Outline = false
is_part Outline (Box other) = false
is_part Outline Content = false
is_part Outline Outline = true

-- whether two items are the same
abbrev pub is_item : Item → Item → Bool
is_item item other = (other.node == item.node) && is_part item.part other.part

-- in the layer of the root of a valid page no item stands twice
abbrev pub EachItemIsPaintedOnce : Type 0
EachItemIsPaintedOnce = (page : Contents) → IsValid page → (item : Item) → count (is_item item) (root_layer page.tree) ≤ 1
