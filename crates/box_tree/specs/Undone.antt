-- What an edit that was carried out holds, so that it can be taken back.
use Rattle.std.specs.Prelude.{◌≡◌, List}
use Rattle.box_tree.specs.declared.edit.Edit.{Edit}
use Rattle.box_tree.specs.declared.plan.Frame.{Frame}
use Rattle.box_tree.specs.declared.plan.Taken.{Taken}
use Rattle.box_tree.specs.declared.items.Earlier.{Earlier}
use Rattle.box_tree.specs.Contents.{Contents, IsValid}
use Rattle.box_tree.specs.Edited.{answer_of}
use Rattle.box_tree.specs.Items.{node_items}
use Rattle.box_tree.specs.Numbers.{ItemsState, IsNumbered, HasSameItems}
use Rattle.box_tree.specs.Renumbered.{back_by, CanGoBackBy}
use Rattle.box_tree.specs.TreeState.{TreeState}
use Rattle.box_tree.specs.Taken.{IsFrame, IsTaken, answer_by}

-- what was taken and the frame are those of the edit, from this page to that one
pub record IsUndo (taken : Taken) (frame : Frame) (edit : Edit) (before after : TreeState) : Type 0 where
  pub valid : IsValid before.contents
  pub frame_is : IsFrame frame before.contents
  pub taken_is : IsTaken taken before.contents after.contents after.room
  pub answer_is : answer_by taken ≡ answer_of before.contents edit

-- nodes can have the lists back that they had, and the items of the page before have their numbers then
pub record IsItemsUndo (earlier : List Earlier) (before : Contents) (old new : ItemsState) : Type 0 where
  pub numbered : IsNumbered old (node_items before)
  pub can_go_back : CanGoBackBy earlier new
  pub same : HasSameItems old (back_by earlier new)
