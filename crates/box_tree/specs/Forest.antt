-- The tree of nodes as a forest, and what stands where in it.
use Rattle.std.specs.Prelude.{ℕ, ◌+◌, max, List, [], ◌∷◌, ◌++◌, Option, Some, None, if◌then◌else◌, ◌==◌}
use Rattle.std.specs.Option.{option_or}
use Rattle.fractions.specs.declared.rect.Spot.{Spot}
use Rattle.computed_style.specs.declared.style.Style.{Style}
use Rattle.box_tree.specs.declared.form.Form.{Form}
use Rattle.box_tree.specs.declared.kind.Kind.{Kind}
use Rattle.box_tree.specs.declared.piece.Piece.{Piece}

-- what a node is apart from its place in the tree
pub record Label : Type 0 where
  pub id : ℕ
  pub kind : Kind
  pub style : Style
  pub anchor : Spot
  pub boxes : List Piece
  pub form : Option Form
  pub scroll : Spot
  pub max : Spot

-- a list of trees: none, or the first as its node and the list of its children, and then the others
pub data Forest : Type 0 where
  End : Forest
  Grow : Label → Forest → Forest → Forest

-- the ids of the nodes at the head of the trees
abbrev pub roots_of : Forest → List ℕ
roots_of End = []
roots_of (Grow n below others) = n.id ∷ roots_of others

-- the ids of the nodes in tree order
abbrev pub ids_in : Forest → List ℕ
ids_in End = []
ids_in (Grow n below others) = n.id ∷ (ids_in below ++ ids_in others)

-- how many nodes there are
abbrev pub node_count : Forest → ℕ
node_count End = 0
node_count (Grow n below others) = 1 + (node_count below + node_count others)

-- how many levels there are
abbrev pub height_of : Forest → ℕ
height_of End = 0
height_of (Grow n below others) = max (1 + height_of below) (height_of others)

-- how often an id stands in the trees
abbrev pub occurrences : Forest → ℕ → ℕ
occurrences End id = 0
occurrences (Grow n below others) id = (if n.id == id then 1 else 0) + (occurrences below id + occurrences others id)

-- a node in its place: what it is, its ancestors from its parent up to the root, and the trees of its children
pub record Placed : Type 0 where
  pub label : Label
  pub above : List Label
  pub below : Forest

-- the node of an id in trees that stand below these ancestors
abbrev pub placed_in : List Label → Forest → ℕ → Option Placed
placed_in above End id = None
placed_in above (Grow n below others) id =
    if n.id == id then Some (record { label = n; above = above; below = below })
    else option_or (placed_in (n ∷ above) below id) (placed_in above others id)

-- each node and its ancestors are so
abbrev pub EachNode : (List Label → Label → Type 0) → List Label → Forest → Type 0
EachNode IsSo above End = Unit {0}
EachNode IsSo above (Grow n below others) =
    IsSo above n × (EachNode IsSo (n ∷ above) below × EachNode IsSo above others)
