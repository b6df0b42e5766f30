-- What the code collects for an edit: the nodes among which are the stacking contexts whose lists the edit can change.
use Rattle.std.specs.Prelude.{ℕ, List, [], ◌∷◌, ◌++◌, ◌==◌, if◌then◌else◌}
use Rattle.std.specs.List.{filter}
use Rattle.box_tree.specs.declared.edit.Edit.{Edit}
use Rattle.box_tree.specs.declared.edit.Edit.TheVariants.{Add, Remove, Move, Place, Restyle, Reshape, Scroll, Resize, ScrollView}
use Rattle.box_tree.specs.Forest.{roots_of, ids_in}
use Rattle.box_tree.specs.Contents.{Contents, has_id, tree_of, below_of}
use Rattle.box_tree.specs.Containing.{makes_context}
use Rattle.box_tree.specs.Edited.{ancestors_below}
use Rattle.stacking.specs.Contexts.{nearest_context, context_of}

-- the stacking contexts among some nodes
abbrev pub contexts_among : Contents → List ℕ → List ℕ
contexts_among page ids = filter (makes_context page) ids

-- the nearest stacking context above a child of a node
abbrev pub context_around : Contents → ℕ → ℕ
context_around page parent = nearest_context (ancestors_below page parent)

-- the context above a node, the node and its children
abbrev pub near : Contents → ℕ → List ℕ
near page id = context_of page id ∷ (id ∷ roots_of (below_of page id))

-- the same of a node that is there, and nothing of one that isn't
abbrev pub near_there : Contents → ℕ → List ℕ
near_there page id = if has_id page id then near page id else []

-- the context above the place to which a node is moved, where it is another one
abbrev pub new_context : Contents → ℕ → ℕ → List ℕ
new_context page id parent = if context_around page parent == context_of page id then [] else context_around page parent ∷ []

abbrev pub candidates : Contents → Edit → List ℕ
candidates page (Add parent at kind boxes style) = context_around page parent ∷ []
candidates page (Remove id) = context_of page id ∷ ids_in (tree_of page id)
candidates page (Move id parent at) = near page id ++ new_context page id parent
candidates page (Place id anchor boxes max) = near page id
candidates page (Restyle id style) = near page id
candidates page (Reshape id form) = near page id
candidates page (Scroll id x y) = near page id
candidates page (Resize w h max) = []
candidates page (ScrollView x y) = []
