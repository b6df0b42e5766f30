-- An engine as contracts see it.
use Rattle.box_tree.specs.Contents.{Contents}
use Rattle.box_tree.specs.Numbers.{ItemsState}

-- the contents of its page, and the numbers of the items
pub record EngineState : Type 0 where
  pub contents : Contents
  pub items : ItemsState
