-- Which node an edit changes, and which nodes stand outside of it.
use Rattle.std.specs.Prelude.{◌≡◌, ℕ, Option, Some, None, IsTrue, IsFalse, IsSomeAnd}
use Rattle.box_tree.specs.declared.edit.Edit.{Edit}
use Rattle.box_tree.specs.declared.edit.Edit.TheVariants.{Add, Remove, Move, Place, Restyle, Reshape, Scroll, Resize, ScrollView}
use Rattle.box_tree.specs.Forest.{ids_in}
use Rattle.box_tree.specs.Contents.{Contents, tree_of, has_id, IsValid}
use Rattle.box_tree.specs.Edited.{edited, first_fault}
use Rattle.box_tree.specs.Planned.{is_among}

-- the node that an edit changes: the new one of an add, and else the one that it names; an edit of the viewport changes none
abbrev pub edited_node : Contents → Edit → Option ℕ
edited_node page (Add parent at kind boxes style) = Some page.next
edited_node page (Remove id) = Some id
edited_node page (Move id parent at) = Some id
edited_node page (Place id anchor boxes max) = Some id
edited_node page (Restyle id style) = Some id
edited_node page (Reshape id form) = Some id
edited_node page (Scroll id x y) = Some id
edited_node page (Resize w h max) = None
edited_node page (ScrollView x y) = None

-- the edit has no fault on the page, which is valid
pub record IsFaultless (page : Contents) (edit : Edit) : Type 0 where
  pub valid : IsValid page
  pub none : first_fault page edit ≡ None

-- the node of an id is in the page, and neither another node nor below that one
pub record StandsApart (page : Contents) (other id : ℕ) : Type 0 where
  pub there : IsTrue (has_id page id)
  pub apart : IsFalse (is_among (ids_in (tree_of page other)) id)

-- before the edit and after it the node of an id stands outside of the tree of the node that the edit changes
abbrev pub IsOutside : Contents → Edit → ℕ → Type 0
IsOutside page edit id = IsSomeAnd (edited_node page edit) (λ changed. StandsApart page changed id × StandsApart (edited page edit) changed id)
