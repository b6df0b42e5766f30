-- What of the nodes is painted and may be hit: the items.
use Rattle.std.specs.Prelude.{ℕ, ◌+◌, List, [], ◌∷◌, ◌++◌, length, Option}
use Rattle.std.specs.Option.{option_map_or}
use Rattle.box_tree.specs.declared.item.Item.{Item}
use Rattle.box_tree.specs.declared.item.Part.TheVariants.{Box, Content, Outline}
use Rattle.box_tree.specs.declared.kind.Kind.{Kind}
use Rattle.box_tree.specs.declared.kind.Kind.TheVariants.{Image, Shape}
use Rattle.box_tree.specs.declared.node.Node.{Node}
use Rattle.box_tree.specs.declared.piece.Piece.{Piece}
use Rattle.box_tree.specs.Contents.{Contents, node_of}
use Rattle.box_tree.specs.Forest.{Label, Forest}
use Rattle.box_tree.specs.Kept.{label_of}
use Rattle.box_tree.specs.Totals.{total_over}

-- the items of boxes, of which the first has this place
abbrev pub box_items : ℕ → ℕ → List Piece → List Item
box_items id place [] = []
box_items id place (box ∷ boxes) = record { node = id; part = Box place } ∷ box_items id (place + 1) boxes

-- the picture of an image with these boxes: one item where it has a box
abbrev pub content_item : ℕ → List Piece → List Item
content_item id [] = []
content_item id (box ∷ boxes) = record { node = id; part = Content } ∷ []

-- what a node of a kind is drawn as beside its boxes: the picture of an image with a box; the outline of a shape
abbrev pub drawn_as : Kind → ℕ → List Piece → List Item
drawn_as Image id boxes = content_item id boxes
drawn_as Shape id boxes = record { node = id; part = Outline } ∷ []
drawn_as kind id boxes = []

abbrev pub drawn : Label → List Item
drawn n = drawn_as n.kind n.id n.boxes

-- the items of a node: its boxes in order, and then the picture of an image or the outline of a shape
abbrev pub items_of : Label → List Item
items_of n = box_items n.id 0 n.boxes ++ drawn n

-- how many items the nodes of trees have
abbrev pub item_count : Forest → ℕ
item_count = total_over (λ n. length (items_of n))

-- the items of a node as its reader sees it, and none where there is no node
abbrev pub items_at : Option Node → List Item
items_at o = option_map_or (λ n. items_of (label_of n)) o []

-- the items of the node of an id
abbrev pub node_items : Contents → ℕ → List Item
node_items page id = items_at (node_of page id)
