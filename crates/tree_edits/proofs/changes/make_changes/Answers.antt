-- The new entries are those of the nodes of the subtree.
use Rattle.std.proofs.Common.{◌≡◌, ℕ, ◌++◌, List, map, Bool, true, None, if◌then◌else◌, sym, ap, ◌∙◌}
use Rattle.box_tree.specs.Forest.{ids_in}
use Rattle.box_tree.specs.Planned.{is_among}
use Rattle.spatial_index.specs.declared.change.Change.{Change}
use Rattle.spaces.specs.Table.{entry_of, subtree_of}
use Rattle.tree_edits.specs.Changes.{numbers_in, moved, taken}
use Rattle.tree_edits.proofs.changes.make_changes.Goals as goal

pub push_all_moved-requires : goal.push_all_moved-requires
push_all_moved-requires g c id among =
    let page = c.args.page.now.contents in
    let inside : is_among (ids_in (subtree_of page c.args.subtree)) id ≡ true = ap (λ (ids : List ℕ). is_among ids id) (sym (c.as_slice.ensures.value ∙ c.in_ok-ids.ensures)) ∙ among in
    c.requires id ∙ ap (λ (b : Bool). if b then entry_of page id else None) inside

pub returns : goal.returns
returns g c =
    let page = c.args.page.now in
    let f = moved c.args.bounds.now page.contents page.items in
    let ids_are = c.as_slice.ensures.value ∙ c.in_ok-ids.ensures in
    c.in_ok-push_taken.ensures
    ∙ ap (λ (xs : List Change). xs ++ map (taken c.args.bounds.now) c.args.gone.now)
    (c.in_ok-push_all_moved.ensures
    ∙ ap (λ (xs : List Change). xs ++ map f (numbers_in page.items c.as_slice.result.now)) c.new-changes.ensures.items
    ∙ ap (λ (ids : List ℕ). map f (numbers_in page.items ids)) ids_are)
