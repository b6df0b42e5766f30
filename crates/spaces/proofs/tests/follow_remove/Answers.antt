-- The table before suits the page after.
use Rattle.std.proofs.Common.{rules, ◌≡◌, ◌∷◌, [], false, None, get_or, sym, ap, subst, ◌∙◌}
use Rattle.std.specs.Prelude.{if◌then◌else◌}
use Rattle.box_tree.specs.declared.edit.Edit.TheVariants.{Remove}
use Rattle.box_tree.specs.Contents.{Contents, has_id}
use Rattle.box_tree.specs.Forest.{Forest, ids_in}
use Rattle.box_tree.specs.Planned.{is_among}
use Rattle.spaces.specs.Table.{entry_of, IsTableOutside}
use Rattle.spaces.proofs.OutsideLemmas.{absent-tree}
use Rattle.spaces.proofs.TableFrameLemmas.{table-suits}
use Rattle.spaces.proofs.tests.follow_remove.Goals as goal

pub renew-requires : goal.renew-requires
renew-requires g c =
    subst (λ (after : Contents). IsTableOutside c.in_ok-table.table after 3) (sym c.in_ok-apply.ensures.edited)
    (table-suits c.in_ok-page.page.contents (Remove 3) c.in_ok-apply.ensures.faultless c.in_ok-table.table c.in_ok-table.ensures)

pub apply-requires-2-clause-apart : goal.apply-requires-2-clause-apart
apply-requires-2-clause-apart g c = λ k d within.
    let after = c.apply.new.page.contents in
    let id = get_or (3 ∷ (4 ∷ (5 ∷ (7 ∷ [])))) k d in
    let absent : has_id after 3 ≡ false = search rules in
    c.in_ok-change.ensures.renewed id ∙ ap (λ (f : Forest). if is_among (ids_in f) id then entry_of after id else None) (absent-tree after 3 absent).0
