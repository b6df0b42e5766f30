-- By the limits of a page that faults keep.
use Rattle.std.proofs.Common.{sym, subst}
use Rattle.std.specs.Prelude.{IfSome}
use Rattle.box_tree.specs.Contents.{node_of}
use Rattle.box_tree.specs.PageState.{PageState, tree_part}
use Rattle.box_tree.specs.Planned.{IsPlanned}
use Rattle.box_tree.specs.Touched.{touched, HasRoomAmong}
use Rattle.box_tree.proofs.ItemBound.{room_among}
use Rattle.box_tree.proofs.page.Page.has_room.Goals as goal

pub returns : goal.returns
returns c =
    subst (λ (page : PageState). IfSome (touched c.args._plan.now (node_of page.contents)) (HasRoomAmong page.items)) c.self.view_is
    (room_among c.args._plan.now c.args._edit.now c.self.inside.tree c.self.inside.items.items (subst (λ (page : PageState). IsPlanned c.args._plan.now c.args._edit.now (tree_part page)) (sym c.self.view_is) c.requires) c.validity.ensures c.self.invariant)
