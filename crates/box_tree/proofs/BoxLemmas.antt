-- How many boxes, and how many vertices, a page has once one node has another label: for any number of a node.
use Rattle.std.proofs.Common.{◌≡◌, ℕ, ◌+◌, ◌-◌, ◌≤◌, List, [], length, Option, Some, None, is_some, true, refl, sym, ap, ◌∙◌, arith}
use mathlib.Core.Bool.{false≢true}
use Rattle.std.specs.Option.{option_map, option_map_or}
use Rattle.fractions.specs.declared.rect.Spot.{Spot}
use Rattle.box_tree.specs.declared.form.Form.{Form}
use Rattle.box_tree.specs.declared.node.Node.{Node}
use Rattle.box_tree.specs.declared.piece.Piece.{Piece}
use Rattle.box_tree.specs.Forest.{Label, Placed}
use Rattle.box_tree.specs.Forms.{form_vertices, vertices_of_form}
use Rattle.box_tree.specs.Contents.{Contents, node_at, node_of, placed_of, has_id, IsValid}
use Rattle.box_tree.specs.Edited.{laid_out, reshaped, relabelled}
use Rattle.box_tree.specs.Kept.{label_of, with_label}
use Rattle.box_tree.specs.Totals.{total_over}
use Rattle.box_tree.proofs.TotalLemmas.{total-relabelled, weight-placed}

-- the boxes and the vertices of a label
abbrev pub boxes_in : Label → ℕ
boxes_in n = length n.boxes

abbrev pub vertices_in : Label → ℕ
vertices_in n = form_vertices n.form

module _ (weight : Label → ℕ) where
  -- the number of a node, and 0 where there is none
  abbrev pub weight_at : Option Node → ℕ
  weight_at o = option_map_or (λ (n : Node). weight (label_of n)) o 0

  -- another label gives its node another number
  pub record ChangesTotal (page after : Contents) (gone count : ℕ) : Type 0 where
    pub least : gone ≤ total_over weight page.tree
    pub total : count + (total_over weight page.tree - gone) ≡ total_over weight after.tree

  pub changes_total : (page : Contents) (id : ℕ) (change : Label → Label) → IsValid page → has_id page id ≡ true → ChangesTotal page (record page { tree = relabelled id change page.tree }) (weight_at (node_of page id)) (weight_at (option_map (with_label change) (node_of page id)))
  changes_total page id change valid there = by_place (placed_of page id) refl
    where
      by_place : (o : Option Placed) → placed_of page id ≡ o → ChangesTotal page (record page { tree = relabelled id change page.tree }) (weight_at (option_map node_at o)) (weight_at (option_map (with_label change) (option_map node_at o)))
      by_place None found = absurd (false≢true (sym (ap is_some found) ∙ there))
      by_place (Some q) found =
          let changed = total-relabelled weight id change page.tree [] q (valid.distinct id) found in
          let least = weight-placed weight page.tree [] id q found in
          record { least = least; total = omega (arith, changed, least) }

  -- a label that is there has the number that the change gives it
  pub changes_to : (page : Contents) (id : ℕ) (change : Label → Label) (gone count : ℕ) → IsValid page → gone ≡ weight_at (node_of page id) → has_id page id ≡ true → ((n : Label) → weight (change n) ≡ count) →
      ChangesTotal page (record page { tree = relabelled id change page.tree }) gone count
  changes_to page id change gone count valid gone_is there counts =
      let changes = changes_total page id change valid there in
      let new : weight_at (option_map (with_label change) (node_of page id)) ≡ count = by_place (placed_of page id) there in
      record { least = omega (arith, changes.least, gone_is); total = omega (arith, changes.total, changes.least, gone_is, new) }
    where
      by_place : (o : Option Placed) → is_some o ≡ true → weight_at (option_map (with_label change) (option_map node_at o)) ≡ count
      by_place None is = absurd (false≢true is)
      by_place (Some q) is = counts q.label

pub boxes_changed : (page : Contents) (id : ℕ) (anchor : Spot) (boxes : List Piece) (max : Spot) (gone : ℕ) → IsValid page → gone ≡ weight_at boxes_in (node_of page id) → has_id page id ≡ true →
    ChangesTotal boxes_in page (record page { tree = relabelled id (laid_out anchor boxes max) page.tree }) gone (length boxes)
boxes_changed page id anchor boxes max gone valid gone_is there = changes_to boxes_in page id (laid_out anchor boxes max) gone (length boxes) valid gone_is there (λ n. refl)

pub vertices_changed : (page : Contents) (id : ℕ) (form : Form) (gone : ℕ) → IsValid page → gone ≡ weight_at vertices_in (node_of page id) → has_id page id ≡ true →
    ChangesTotal vertices_in page (record page { tree = relabelled id (reshaped form) page.tree }) gone (vertices_of_form form)
vertices_changed page id form gone valid gone_is there = changes_to vertices_in page id (reshaped form) gone (vertices_of_form form) valid gone_is there (λ n. refl)
