-- The contents of a page, what is read of it, and when it is valid.
use Rattle.std.specs.Prelude.{ℕ, ◌+◌, ◌<◌, ◌≤◌, ◌^◌, List, [], ◌∷◌, length, Option, None, Bool, is_some, IsTrue, IfSome, ℤ, pos, ◌≤ℤ◌, ◌+ℤ◌, All}
use Rattle.std.specs.Option.{option_map, option_map_or}
use Rattle.fractions.specs.declared.rect.Spot.{Spot}
use Rattle.computed_style.specs.declared.style.Style.{Style}
pub use Rattle.computed_style.specs.Ranges.{IsWithin, IsSide}
use Rattle.computed_style.specs.Ranges.{IsStyleInRange}
use Rattle.box_tree.specs.declared.form.Form.{Form}
use Rattle.box_tree.specs.declared.kind.Kind.{Kind}
use Rattle.box_tree.specs.declared.piece.Piece.{Piece}
use Rattle.box_tree.specs.declared.node.Node.{Node}
use Rattle.box_tree.specs.declared.viewport.Viewport.{Viewport}
use Rattle.box_tree.specs.Suits.{has_no_parent, kind_suits, box_count_suits, style_suits, form_suits}
use Rattle.box_tree.specs.Totals.{box_count, vertex_count}
use Rattle.box_tree.specs.Forms.{IsFormInRange, form_vertices}
use Rattle.box_tree.specs.Forest.{Label, Forest, End, Grow, roots_of, node_count, height_of, occurrences, Placed, placed_in, EachNode}

-- what a page holds: a tree of nodes or none, the viewport and the next id
pub record Contents : Type 0 where
  pub tree : Forest
  pub viewport : Viewport
  pub next : ℕ

-- the number of nodes from the root to one with these ancestors
abbrev pub depth_below : List Label → ℕ
depth_below above = 1 + length above

-- the id of the parent, and 0 for the root
abbrev pub parent_id : List Label → ℕ
parent_id [] = 0
parent_id (parent ∷ above) = parent.id

-- what a reader sees of a node in its place
abbrev pub node_at : Placed → Node
node_at p = record {
  id = p.label.id;
  kind = p.label.kind;
  parent = parent_id p.above;
  children = roots_of p.below;
  depth = depth_below p.above;
  style = p.label.style;
  anchor = p.label.anchor;
  boxes = p.label.boxes;
  form = p.label.form;
  scroll = p.label.scroll;
  max = p.label.max;
}

-- the place of an id in the page
abbrev pub placed_of : Contents → ℕ → Option Placed
placed_of page id = placed_in [] page.tree id

-- the tree of a node: the node itself with all below it
abbrev pub tree_of : Contents → ℕ → Forest
tree_of page id = option_map_or (λ p. Grow p.label p.below End) (placed_of page id) End

-- the trees below a node
abbrev pub below_of : Contents → ℕ → Forest
below_of page id = option_map_or (λ p. p.below) (placed_of page id) End

-- the ancestors of a node, from its parent on up
abbrev pub ancestors_of : Contents → ℕ → List Label
ancestors_of page id = option_map_or (λ p. p.above) (placed_of page id) []

-- how many ancestors a node has
abbrev pub ancestor_count : Contents → ℕ → ℕ
ancestor_count page id = length (ancestors_of page id)

-- what a reader sees of the node of an id
abbrev pub node_of : Contents → ℕ → Option Node
node_of page id = option_map node_at (placed_of page id)

-- whether the id is in the page
abbrev pub has_id : Contents → ℕ → Bool
has_id page id = is_some (placed_of page id)

-- the point 0, 0
abbrev pub origin : Spot
origin = record { x = pos 0; y = pos 0 }

-- what a new node is: it has no anchor and no form, and nothing to scroll
abbrev pub new_label : ℕ → Kind → Style → List Piece → Label
new_label id kind style boxes = record { id = id; kind = kind; style = style; anchor = origin; boxes = boxes; form = None; scroll = origin; max = origin }

-- a page with no node, seen through an unscrolled viewport of these sides
abbrev pub empty_page : ℤ → ℤ → Contents
empty_page w h = record {
  tree = End;
  viewport = record { w = w; h = h; scroll = origin; max = origin };
  next = 1;
}

-- a point within the limits
pub record IsSpotInRange (spot : Spot) : Type 0 where
  pub x : IsWithin 26 spot.x
  pub y : IsWithin 26 spot.y

-- a greatest scroll within the limits
pub record IsMaxInRange (max : Spot) : Type 0 where
  pub x : IsSide 26 max.x
  pub y : IsSide 26 max.y

-- a scroll between 0 and the greatest one, which is within the limits (CSSOM View, 4)
pub record IsScrolled (scroll max : Spot) : Type 0 where
  pub greatest : IsMaxInRange max
  pub x : (pos 0 ≤ℤ scroll.x) × (scroll.x ≤ℤ max.x)
  pub y : (pos 0 ≤ℤ scroll.y) × (scroll.y ≤ℤ max.y)

-- a span from an edge on within the limits, its end too
pub record IsSpanInRange (from side : ℤ) : Type 0 where
  pub start : IsWithin 26 from
  pub length : IsSide 26 side
  pub end : (from +ℤ side) ≤ℤ pos (2 ^ 26)

-- a box within the limits: its two spans are
pub record IsBoxInRange (box : Piece) : Type 0 where
  pub across : IsSpanInRange box.l box.w
  pub down : IsSpanInRange box.t box.h

-- a form suits the kind of its node, and its numbers and the number of its vertices are within the limits
pub record IsFormed (kind : Kind) (form : Option Form) : Type 0 where
  pub suits : IsTrue (form_suits kind form)
  pub in_range : IfSome form IsFormInRange
  pub vertices : form_vertices form ≤ 4096

-- a node suits its place, and its numbers are within the limits
pub record IsSuited (above : List Label) (n : Label) : Type 0 where
  pub kind : IsTrue (kind_suits above n.kind)
  pub boxes : IsTrue (box_count_suits (has_no_parent above) n.kind (length n.boxes))
  pub style : IsTrue (style_suits n.kind n.style)
  pub style_in_range : IsStyleInRange n.style
  pub box_count : length n.boxes ≤ 1024
  pub in_range : All IsBoxInRange n.boxes
  pub formed : IsFormed n.kind n.form
  pub anchor : IsSpotInRange n.anchor
  pub scroll : IsScrolled n.scroll n.max

-- an id that was given
pub record IsGiven (next : ℕ) (above : List Label) (n : Label) : Type 0 where
  pub positive : 0 < n.id
  pub below_next : n.id < next

-- a viewport within the limits
pub record IsViewport (v : Viewport) : Type 0 where
  pub width : (pos 1 ≤ℤ v.w) × (v.w ≤ℤ pos (2 ^ 20))
  pub height : (pos 1 ≤ℤ v.h) × (v.h ≤ℤ pos (2 ^ 20))
  pub scroll : IsScrolled v.scroll v.max

-- what holds of the contents of every page
pub record IsValid (page : Contents) : Type 0 where
  pub one_tree : length (roots_of page.tree) ≤ 1
  pub distinct : (id : ℕ) → occurrences page.tree id ≤ 1
  pub given : EachNode (IsGiven page.next) [] page.tree
  pub suited : EachNode IsSuited [] page.tree
  pub depth : height_of page.tree ≤ 256
  pub nodes : node_count page.tree ≤ 65536
  pub boxes : box_count page.tree ≤ 262144
  pub vertices : vertex_count page.tree ≤ 1048576
  pub next : (0 < page.next) × (page.next ≤ 1048577)
  pub viewport : IsViewport page.viewport
