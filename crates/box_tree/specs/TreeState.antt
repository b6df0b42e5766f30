-- The nodes of a page with its viewport as contracts see them.
use Rattle.std.specs.Prelude.{ℕ}
use Rattle.box_tree.specs.Contents.{Contents}

-- the contents, for how many nodes there is room, and the ids below which each has a place
pub record TreeState : Type 0 where
  pub contents : Contents
  pub room : ℕ
  pub ids : ℕ
