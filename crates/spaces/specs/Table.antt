-- The table of the spaces of the nodes of a page and of the values that they inherit.
use Rattle.std.specs.Prelude.{◌≡◌, ℕ, ◌<◌, List, Bool, true, if◌then◌else◌, ◌==◌, Option, Some, None, IsFalse, IsSome, slice_index_or, [], unwrap_or, ℤ}
use Rattle.std.specs.Ordering.{nat_cmp}
use Rattle.std.specs.Map.{lookup}
use Rattle.std.specs.BTreeMap.{is_at}
use Rattle.std.specs.Option.{option_map_or, option_and_then, option_or}
use Rattle.affine.specs.declared.map.Parts.{Parts}
use Rattle.box_tree.specs.declared.edit.Edit.{Edit}
use Rattle.box_tree.specs.declared.edit.Edit.TheVariants.{Add, Remove, Move, Place, Restyle, Reshape, Scroll, Resize, ScrollView}
use Rattle.box_tree.specs.declared.viewport.Viewport.{Viewport}
use Rattle.box_tree.specs.Forest.{Forest, End, Grow, ids_in, Placed}
use Rattle.box_tree.specs.Contents.{Contents, placed_of, tree_of}
use Rattle.box_tree.specs.Containing.{Standing, standing_at}
use Rattle.box_tree.specs.Planned.{is_among}
use Rattle.spaces.specs.declared.space.FinePoint.{FinePoint}
use Rattle.spaces.specs.declared.table.entry.Entry.{Entry}
use Rattle.box_tree.specs.Frame.{edited_node}
use Rattle.spaces.specs.Spaces.{is_laid_out, space_of, local_point_in}
use Rattle.spaces.specs.Values.{values_below}
use Rattle.spaces.specs.Bound.{are_bounded, is_bounded}

-- the entry of a node with its ancestors: its space, where it has one, and the values that it inherits
abbrev pub entry_at : Viewport → Standing → Entry
entry_at viewport n = record { space = space_of viewport n; values = values_below n.above n.label }

-- the same, where the node is laid out: a map and its areas aren't
abbrev pub entry_placed : Viewport → Placed → Option Entry
entry_placed viewport p = if is_laid_out p.label.kind then Some (entry_at viewport (standing_at p)) else None

-- the entry of the node of an id, where it is in the page and laid out
abbrev pub entry_of : Contents → ℕ → Option Entry
entry_of page id = option_and_then (entry_placed page.viewport) (placed_of page id)

-- the entry that a table has of an id; it has room for the ids below its length
abbrev pub entry_under : List (Option Entry) → ℕ → Option Entry
entry_under table id = slice_index_or table id None

-- the space that a table has of an id
abbrev pub space_under : List (Option Entry) → ℕ → Option Parts
space_under table id = option_and_then (λ entry. entry.space) (entry_under table id)

-- a point of the viewport in that space
abbrev pub local_point_under : List (Option Entry) → ℕ → ℤ → ℤ → Option FinePoint
local_point_under table id x y = local_point_in (space_under table id) x y

-- the table of a page: each node that is laid out has its entry, and no other id has one
abbrev pub IsTableOf : List (Option Entry) → Contents → Type 0
IsTableOf table page = (id : ℕ) → entry_under table id ≡ entry_of page id

-- a node with all below it, all nodes of the page for id 0, and none for an id that isn't in the page
abbrev pub subtree_of : Contents → ℕ → Forest
subtree_of page id = if id == 0 then page.tree else tree_of page id

-- whether an id is one of those
abbrev pub is_in_subtree : Contents → ℕ → ℕ → Bool
is_in_subtree page subtree id = is_among (ids_in (subtree_of page subtree)) id

-- each node outside of a subtree that is laid out has its entry
abbrev pub IsTableOutside : List (Option Entry) → Contents → ℕ → Type 0
IsTableOutside table page subtree =
    (id : ℕ) → IsFalse (is_in_subtree page subtree id) → IsSome (entry_of page id) → entry_under table id ≡ entry_of page id

-- the new entry of an id, where there is one among these
abbrev pub new_entry : List (ℕ × Entry) → ℕ → Option Entry
new_entry change id = lookup (is_at (nat_cmp id)) change

-- the entries of the nodes of a subtree
abbrev pub renewed_entry : Contents → ℕ → ℕ → Option Entry
renewed_entry page subtree id = if is_in_subtree page subtree id then entry_of page id else None

-- each id that has a new entry is below a room
abbrev pub FitsIn : ℕ → List (ℕ × Entry) → Type 0
FitsIn room change = (id : ℕ) → IsSome (new_entry change id) → id < room

-- what a change of a table makes of the entry of an id: none where it is removed, the new one, and else the one before
abbrev pub applied : List (Option Entry) → List (ℕ × Entry) → List ℕ → ℕ → Option Entry
applied table change removed id = if is_among removed id then None else option_or (new_entry change id) (entry_under table id)

-- whether no partial product of the node of an id, or of one below it, passes the bound
abbrev pub is_bounded_from : Contents → ℕ → Bool
is_bounded_from page id = option_map_or (λ p. are_bounded page.viewport p.above (Grow p.label p.below End)) (placed_of page id) true

-- the same of the nodes of a subtree
abbrev pub is_bounded_in : Contents → ℕ → Bool
is_bounded_in page subtree = if subtree == 0 then is_bounded page else is_bounded_from page subtree

-- the id whose subtree an edit makes to be renewed: that of the node that it changes, and 0 for the whole page where it
-- changes the viewport
abbrev pub renewed_node : Contents → Edit → ℕ
renewed_node page edit = unwrap_or (edited_node page edit) 0

-- the ids that an edit takes out of a page
abbrev pub removed_ids : Contents → Edit → List ℕ
removed_ids page (Add parent at kind boxes style) = []
removed_ids page (Remove id) = ids_in (tree_of page id)
removed_ids page (Move id parent at) = []
removed_ids page (Place id anchor boxes max) = []
removed_ids page (Restyle id style) = []
removed_ids page (Reshape id form) = []
removed_ids page (Scroll id x y) = []
removed_ids page (Resize w h max) = []
removed_ids page (ScrollView x y) = []
