-- What the kept nodes of a page mean: the tree that they make from the root down. This speaks of how each id is looked up
-- alone, so the order of the nodes does not matter.
use Rattle.std.specs.Prelude.{◌≡◌, ℕ, zero, suc, List, [], ◌∷◌, Option, Some, None, if◌then◌else◌, ◌==◌}
use Rattle.std.specs.Option.{option_to_list}
use Rattle.box_tree.specs.declared.node.Node.{Node}
use Rattle.box_tree.specs.declared.viewport.Viewport.{Viewport}
use Rattle.box_tree.specs.Forest.{Label, Forest, End, Grow, roots_of}
use Rattle.box_tree.specs.Contents.{Contents, node_of, IsValid}

-- the node of an id
abbrev pub node_with : List Node → ℕ → Option Node
node_with [] id = None
node_with (n ∷ nodes) id = if n.id == id then Some n else node_with nodes id

-- what a node is apart from its place
abbrev pub label_of : Node → Label
label_of n = record { id = n.id; kind = n.kind; style = n.style; anchor = n.anchor; boxes = n.boxes; form = n.form; scroll = n.scroll; max = n.max }

-- a node, if it is there, as a tree before the others, where `below` makes the trees of its children
abbrev pub tree_before : (List ℕ → Forest) → Option Node → Forest → Forest
tree_before below None others = others
tree_before below (Some n) others = Grow (label_of n) (below n.children) others

-- the trees of these ids, where each is looked up so
abbrev pub trees_of : (List ℕ → Forest) → (ℕ → Option Node) → List ℕ → Forest
trees_of below look [] = End
trees_of below look (id ∷ ids) = tree_before below (look id) (trees_of below look ids)

-- the trees that the nodes make of these ids, at most so many levels of them
unfoldable pub grown : ℕ → (ℕ → Option Node) → List ℕ → Forest
grown zero look ids = End
grown (suc levels) look ids = trees_of (grown levels look) look ids

-- the greatest number of levels of a page
abbrev pub levels_at_most : ℕ
levels_at_most = 256

-- the page that kept nodes mean
abbrev pub page_of : (ℕ → Option Node) → Option ℕ → Viewport → ℕ → Contents
page_of look first viewport next = record { tree = grown levels_at_most look (option_to_list first); viewport = viewport; next = next }

-- the nodes are those of the page: looking an id up in them is looking it up in the page
pub record IsKept (look : ℕ → Option Node) (first : Option ℕ) (page : Contents) : Type 0 where
  pub valid : IsValid page
  pub looked_up : (id : ℕ) → look id ≡ node_of page id
  pub root : option_to_list first ≡ roots_of page.tree

-- a node with these children
abbrev pub with_children : List ℕ → Node → Node
with_children children n = record n { children = children }

-- a node in the same place with another label
abbrev pub with_label : (Label → Label) → Node → Node
with_label change n =
    let l = change (label_of n) in
    record n { id = l.id; kind = l.kind; style = l.style; anchor = l.anchor; boxes = l.boxes; form = l.form; scroll = l.scroll; max = l.max }
