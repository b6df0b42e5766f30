-- A page as contracts see it.
use Rattle.std.specs.Prelude.{ℕ}
use Rattle.box_tree.specs.Contents.{Contents}
use Rattle.box_tree.specs.Numbers.{ItemsState}
use Rattle.box_tree.specs.TreeState.{TreeState}

-- its contents, for how many nodes it has room, the ids below which each has a place, the numbers of its items, and below which
-- number all are that can be given without memory
pub record PageState : Type 0 where
  pub contents : Contents
  pub room : ℕ
  pub ids : ℕ
  pub items : ItemsState
  pub item_room : ℕ

-- the nodes and the viewport of a page
abbrev pub tree_part : PageState → TreeState
tree_part page = record { contents = page.contents; room = page.room; ids = page.ids }
