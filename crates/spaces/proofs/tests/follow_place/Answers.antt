-- The table before suits the page after.
use Rattle.std.proofs.Common.{ℕ, sym, subst}
use Rattle.box_tree.specs.Contents.{Contents}
use Rattle.box_tree.specs.Edited.{edited}
use Rattle.spaces.specs.Table.{IsTableOutside}
use Rattle.spaces.proofs.TableFrameLemmas.{table-suits}
use Rattle.spaces.proofs.tests.follow_place.Goals as goal

pub renew-requires : goal.renew-requires
renew-requires g c =
    let page = c.in_ok-page.page.contents in
    subst (λ (after : Contents). IsTableOutside c.in_ok-table.table after 2) (sym c.in_ok-apply.ensures.edited)
    (subst (λ (node : ℕ). IsTableOutside c.in_ok-table.table (edited page c.in_ok-edit.edit) node) (c.in_ok-edit.ensures.node page)
    (table-suits page c.in_ok-edit.edit c.in_ok-apply.ensures.faultless c.in_ok-table.table c.in_ok-table.ensures))
