-- The lists of which stacking contexts an edit can change.
use Rattle.std.specs.Prelude.{◌≡◌, ℕ, Bool, false, ◌==◌, ◌||◌, IsTrue}
use Rattle.std.specs.Option.{option_map_or}
use Rattle.box_tree.specs.declared.edit.Edit.{Edit}
use Rattle.box_tree.specs.Contents.{Contents, ancestors_of, parent_id}
use Rattle.box_tree.specs.Containing.{makes_context}
use Rattle.box_tree.specs.Edited.{edited}
use Rattle.box_tree.specs.Frame.{edited_node}
use Rattle.stacking.specs.Contexts.{context_of}
use Rattle.stacking.specs.OnPage.{of_node}
use Rattle.stacking.specs.Painting.{entries}

-- whether the list of a stacking context can change with a node: it is the next one above the node, the node itself, or a
-- child of the node
abbrev pub is_next_to : Contents → (changed id : ℕ) → Bool
is_next_to page changed id = (context_of page changed == id) || ((changed == id) || (parent_id (ancestors_of page id) == changed))

-- whether an edit can change the list of a stacking context: it is next to the node that the edit changes, before or after
abbrev pub can_change : Contents → Edit → ℕ → Bool
can_change page edit id = option_map_or (λ changed. is_next_to page changed id || is_next_to (edited page edit) changed id) (edited_node page edit) false

-- a stacking context is one on the page after too, and its list is as before
pub record KeepsList (page after : Contents) (id : ℕ) : Type 0 where
  pub context : IsTrue (makes_context after id)
  pub listed : of_node entries after id ≡ of_node entries page id
