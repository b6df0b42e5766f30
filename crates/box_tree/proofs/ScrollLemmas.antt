-- A page with another scroll for one node, and with another scroll of the viewport: what no fault means, and that it is what
-- the nodes then mean.
use Rattle.std.proofs.Common.{◌≡◌, ◌≤◌, ℕ, ℤ, length, Option, Some, None, true, refl, ap, ◌∙◌, arith}
use Rattle.std.specs.Option.{option_map}
use Rattle.fractions.specs.declared.rect.Spot.{Spot}
use Rattle.box_tree.specs.declared.edit.Edit.{Edit}
use Rattle.box_tree.specs.declared.edit.Edit.TheVariants.{Scroll, ScrollView}
use Rattle.box_tree.specs.declared.node.Node.{Node}
use Rattle.box_tree.specs.declared.plan.Frame.{Frame}
use Rattle.box_tree.specs.declared.plan.Plan.TheVariants.{ScrollViewport}
use Rattle.box_tree.specs.declared.plan.Taken.TheVariants.{Untouched}
use Rattle.box_tree.specs.Forest.{Placed}
use Rattle.box_tree.specs.Contents.{Contents, node_of, placed_of, has_id, IsSuited, IsValid}
use Rattle.box_tree.specs.Counted.{IsCounted}
use Rattle.box_tree.specs.Edited.{kind_takes_scroll, relabelled, scrolled_node, scrolled_view, first_fault, faults_of}
use Rattle.box_tree.specs.Kept.{with_label, IsKept}
use Rattle.box_tree.specs.Nodes.{NodesState, changed_at}
use Rattle.box_tree.specs.Planned.{IsPlanned}
use Rattle.box_tree.specs.Totals.{box_count, vertex_count}
use Rattle.box_tree.specs.Forms.{form_vertices}
use Rattle.box_tree.proofs.AddLemmas.{none_holds, not_false}
use Rattle.box_tree.proofs.PlaceLemmas.{kept-relabelled, scrolled-clamped}
use Rattle.box_tree.proofs.PlanLemmas.{state_of, Carries, carries}
use Rattle.box_tree.proofs.TotalLemmas.{total-relabelled-same}

-- a scroll without a fault
pub record MayScroll (page : Contents) (id : ℕ) : Type 0 where
  pub there : has_id page id ≡ true
  pub takes : kind_takes_scroll page id ≡ true

pub may_scroll : (page : Contents) (id : ℕ) (x y : ℤ) → first_fault page (Scroll id x y) ≡ None → MayScroll page id
may_scroll page id x y none =
    let tests = none_holds (faults_of page (Scroll id x y)) none in
    record { there = not_false (has_id page id) tests.0; takes = not_false (kind_takes_scroll page id) tests.1.0 }

-- it leaves as many boxes
boxes_stay : (page : Contents) (id : ℕ) (x y : ℤ) → box_count (relabelled id (scrolled_node x y) page.tree) ≡ box_count page.tree
boxes_stay page id x y = total-relabelled-same (λ n. length n.boxes) id (scrolled_node x y) (λ n. refl) page.tree

-- a label that is scrolled suits where it did
suited-scrolled : (page : Contents) (id : ℕ) (x y : ℤ) → (q : Placed) → placed_of page id ≡ Some q → IsSuited q.above q.label → IsSuited q.above (scrolled_node x y q.label)
suited-scrolled page id x y q found suited = record {
  kind = suited.kind;
  boxes = suited.boxes;
  style = suited.style;
  style_in_range = suited.style_in_range;
  box_count = suited.box_count;
  in_range = suited.in_range;
  formed = suited.formed;
  anchor = suited.anchor;
  scroll = scrolled-clamped q.label.max (record { x = x; y = y }) suited.scroll.greatest;
}

pub kept-scrolled : (page : Contents) (id : ℕ) (x y : ℤ) (first : Option ℕ) (look look' : ℕ → Option Node) (make : Node → Node) → IsKept look first page →
    option_map make (node_of page id) ≡ option_map (with_label (scrolled_node x y)) (node_of page id) → ((k : ℕ) → look' k ≡ changed_at id make k (look k)) →
    IsKept look' first (record page { tree = relabelled id (scrolled_node x y) page.tree })
kept-scrolled page id x y first look look' make kept makes known =
    let few : box_count (relabelled id (scrolled_node x y) page.tree) ≤ 262144 = omega (arith, boxes_stay page id x y, kept.valid.boxes) in
    let few' : vertex_count (relabelled id (scrolled_node x y) page.tree) ≤ 1048576 = omega (arith, total-relabelled-same (λ n. form_vertices n.form) id (scrolled_node x y) (λ n. refl) page.tree, kept.valid.vertices) in
    kept-relabelled id (scrolled_node x y) (λ n. refl) page kept.valid (λ n. refl) few few' (suited-scrolled page id x y) first look look' make kept makes known

-- a planned scroll of the viewport: the nodes stay
pub planned-scroll_view : (nodes : NodesState) (frame frame' : Frame) (to : Spot) (edit : Edit) → IsCounted nodes frame.root frame.sums (state_of nodes frame).contents → IsPlanned (ScrollViewport to) edit (state_of nodes frame) →
    frame'.sums ≡ frame.sums → frame'.root ≡ frame.root → frame'.viewport ≡ scrolled_view to.x to.y frame.viewport → frame'.next ≡ frame.next → Carries nodes frame' Untouched (state_of nodes frame) edit
planned-scroll_view nodes frame frame' to (ScrollView x y) counted planned sums_is root_is viewport_is next_is =
    let page = (state_of nodes frame).contents in
    let plan = planned.plan_is in
    let after : Contents = record page { viewport = scrolled_view x y page.viewport } in
    let kept = counted.kept in
    let valid : IsValid after = record {
      one_tree = kept.valid.one_tree;
      distinct = kept.valid.distinct;
      given = kept.valid.given;
      suited = kept.valid.suited;
      depth = kept.valid.depth;
      nodes = kept.valid.nodes;
      boxes = kept.valid.boxes;
      vertices = kept.valid.vertices;
      next = kept.valid.next;
      viewport = record {
        width = kept.valid.viewport.width;
        height = kept.valid.viewport.height;
        scroll = scrolled-clamped page.viewport.max (record { x = x; y = y }) kept.valid.viewport.scroll.greatest;
      };
    } in
    carries nodes frame' Untouched (state_of nodes frame) (ScrollView x y)
    (rw root_is (record { valid = valid; looked_up = kept.looked_up; root = kept.root }))
    (record {
      count = counted.count;
      sums = sums_is ∙ counted.sums_are;
      viewport = viewport_is ∙ ap (λ k. scrolled_view k to.y page.viewport) plan.across_is ∙ ap (λ k. scrolled_view x k page.viewport) plan.down_is;
      next = next_is;
      fits = counted.fits;
      placed = counted.placed;
    })
    (record {
      looked_up = λ k. refl;
      count = refl;
      can_go_back = tt;
      fits = omega (arith, counted.fits, counted.count);
      next = omega arith;
    })
    refl
planned-scroll_view nodes frame frame' to edit counted planned sums_is root_is viewport_is next_is = absurd planned.plan_is
