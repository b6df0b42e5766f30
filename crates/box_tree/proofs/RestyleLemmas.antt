-- A page with another style for one node: what no fault means, and that it is what the nodes then mean.
use Rattle.std.proofs.Common.{◌≡◌, ◌≤◌, ℕ, length, Option, Some, None, true, false, refl, sym, ap, ◌∙◌, arith}
use Rattle.std.specs.Option.{option_map, option_map_or}
use Rattle.computed_style.specs.declared.style.Style.{Style}
use Rattle.box_tree.specs.declared.node.Node.{Node}
use Rattle.box_tree.specs.declared.edit.Edit.TheVariants.{Restyle}
use Rattle.box_tree.specs.Forest.{Placed}
use Rattle.box_tree.specs.Contents.{Contents, node_of, placed_of, has_id, IsSuited}
use Rattle.box_tree.specs.Edited.{IsRestyleInRange, kind_takes_style, relabelled, restyled, first_fault, faults_of}
use Rattle.box_tree.specs.Kept.{with_label, IsKept}
use Rattle.box_tree.specs.Nodes.{changed_at}
use Rattle.box_tree.specs.Suits.{takes_style}
use Rattle.box_tree.specs.Totals.{box_count, vertex_count}
use Rattle.box_tree.specs.Forms.{form_vertices}
use Rattle.box_tree.proofs.AddLemmas.{none_holds, not_false}
use Rattle.box_tree.proofs.PlaceLemmas.{kept-relabelled}
use Rattle.box_tree.proofs.SuitsLemmas.{style_suits-any}
use Rattle.box_tree.proofs.TotalLemmas.{total-relabelled-same}

-- a restyle without a fault
pub record MayRestyle (page : Contents) (id : ℕ) : Type 0 where
  pub there : has_id page id ≡ true
  pub takes : kind_takes_style page id ≡ true

pub may_restyle : (page : Contents) (id : ℕ) (style : Style) → first_fault page (Restyle id style) ≡ None → MayRestyle page id
may_restyle page id style none =
    let tests = none_holds (faults_of page (Restyle id style)) none in
    record { there = not_false (has_id page id) tests.0; takes = not_false (kind_takes_style page id) tests.1.0 }

-- it leaves as many boxes
pub boxes_restyled : (page : Contents) (id : ℕ) (style : Style) → box_count (relabelled id (restyled style) page.tree) ≡ box_count page.tree
boxes_restyled page id style = total-relabelled-same (λ n. length n.boxes) id (restyled style) (λ n. refl) page.tree

-- a label with another style suits where one did whose kind takes a style
suited-restyled : (page : Contents) (id : ℕ) (style : Style) → IsRestyleInRange id style → MayRestyle page id → (q : Placed) → placed_of page id ≡ Some q → IsSuited q.above q.label → IsSuited q.above (restyled style q.label)
suited-restyled page id style range may q found suited = record {
  kind = suited.kind;
  boxes = suited.boxes;
  style = style_suits-any q.label.kind style (sym (ap (λ o. option_map_or (λ p. takes_style p.label.kind) o false) found) ∙ may.takes);
  style_in_range = range.style_in_range;
  box_count = suited.box_count;
  in_range = suited.in_range;
  formed = suited.formed;
  anchor = suited.anchor;
  scroll = suited.scroll;
}

pub kept-restyled : (page : Contents) (id : ℕ) (style : Style) (first : Option ℕ) (look look' : ℕ → Option Node) (make : Node → Node) → IsRestyleInRange id style → MayRestyle page id → IsKept look first page →
    option_map make (node_of page id) ≡ option_map (with_label (restyled style)) (node_of page id) → ((k : ℕ) → look' k ≡ changed_at id make k (look k)) →
    IsKept look' first (record page { tree = relabelled id (restyled style) page.tree })
kept-restyled page id style first look look' make range may kept makes known =
    let few : box_count (relabelled id (restyled style) page.tree) ≤ 262144 = omega (arith, boxes_restyled page id style, kept.valid.boxes) in
    let few' : vertex_count (relabelled id (restyled style) page.tree) ≤ 1048576 = omega (arith, total-relabelled-same (λ n. form_vertices n.form) id (restyled style) (λ n. refl) page.tree, kept.valid.vertices) in
    kept-relabelled id (restyled style) (λ n. refl) page kept.valid (λ n. refl) few few' (suited-restyled page id style range may) first look look' make kept makes known
