-- A planned change of one node, carried out: for each edit that changes one.
use Rattle.std.proofs.Common.{◌≡◌, ℕ, ◌≤◌, true, refl, sym, ap, ◌∙◌, arith}
use Rattle.std.specs.Option.{option_map, option_map_or}
use Rattle.box_tree.specs.declared.node.Node.{Node}
use Rattle.box_tree.specs.declared.edit.Done.TheVariants.{Done as EditDone}
use Rattle.box_tree.specs.declared.edit.Edit.{Edit}
use Rattle.box_tree.specs.declared.edit.Edit.TheVariants.{Place, Restyle, Reshape, Scroll}
use Rattle.box_tree.specs.declared.plan.Change.{Change}
use Rattle.box_tree.specs.declared.plan.Frame.{Frame}
use Rattle.box_tree.specs.declared.plan.Plan.TheVariants.{ChangeNode}
use Rattle.box_tree.specs.declared.plan.Taken.TheVariants.{Changed}
use Rattle.box_tree.specs.Change.{changed, given_up}
use Rattle.box_tree.specs.Contents.{Contents, node_of, has_id}
use Rattle.box_tree.specs.Counted.{IsCounted}
use Rattle.box_tree.specs.Edited.{edited, answer_of, relabelled, laid_out, restyled, reshaped, scrolled_node}
use Rattle.box_tree.specs.Forest.{Label}
use Rattle.box_tree.specs.Kept.{node_with, label_of, with_label, IsKept}
use Rattle.box_tree.specs.Nodes.{NodesState, changed_at, ChangesAt}
use Rattle.box_tree.specs.Planned.{IsChangePlan, IsPlanned}
use Rattle.box_tree.specs.declared.sums.Sums.{Sums}
use Rattle.box_tree.specs.Totals.{sums_in, sums_at, sums_more, sums_less}
use Rattle.box_tree.proofs.TotalLemmas.{same_sums}
use Rattle.box_tree.proofs.BoxLemmas.{boxes_in, vertices_in, weight_at, changes_total}
use Rattle.box_tree.proofs.KeptLemmas.{changed-here, change-back}
use Rattle.box_tree.proofs.PlaceLemmas.{may_place, kept-placed, node_count-relabelled}
use Rattle.box_tree.proofs.PlanLemmas.{state_of, Carries, carries}
use Rattle.box_tree.proofs.ReshapeLemmas.{may_reshape, kept-reshaped}
use Rattle.box_tree.proofs.RestyleLemmas.{may_restyle, kept-restyled}
use Rattle.box_tree.proofs.ScrollLemmas.{may_scroll, kept-scrolled}

module _ (nodes : NodesState) (frame : Frame) (counted : IsCounted nodes frame.root frame.sums (state_of nodes frame).contents) (id : ℕ) (change : Change) where
  abbrev page : Contents
  page = (state_of nodes frame).contents

  -- the node has at most as many boxes and vertices as all, which are few
  pub record HasSums : Type 0 where
    pub boxes : (sums_at (node_with nodes.nodes id)).boxes ≤ frame.sums.boxes
    pub vertices : (sums_at (node_with nodes.nodes id)).vertices ≤ frame.sums.vertices
    pub few_boxes : frame.sums.boxes ≤ 262144
    pub few_vertices : frame.sums.vertices ≤ 1048576

  sums_there : (id' : ℕ) → id ≡ id' → has_id page id' ≡ true → (Label → Label) → HasSums
  sums_there id' id_is there relabel =
      let boxes_are = ap (λ (sums : Sums). sums.boxes) counted.sums_are in
      let vertices_are = ap (λ (sums : Sums). sums.vertices) counted.sums_are in
      let node_is = ap (node_with nodes.nodes) id_is ∙ counted.kept.looked_up id' in
      record {
        boxes = omega (arith, (changes_total boxes_in page id' relabel counted.kept.valid there).least, boxes_are, ap (weight_at boxes_in) node_is);
        vertices = omega (arith, (changes_total vertices_in page id' relabel counted.kept.valid there).least, vertices_are, ap (weight_at vertices_in) node_is);
        few_boxes = omega (arith, boxes_are, counted.kept.valid.boxes);
        few_vertices = omega (arith, vertices_are, counted.kept.valid.vertices);
      }

  pub has_sums : (edit : Edit) → IsPlanned (ChangeNode id change) edit (state_of nodes frame) → HasSums
  has_sums (Place id' anchor boxes max) planned = sums_there id' planned.plan_is.id_is (may_place page id' anchor boxes max planned.faultless).there (laid_out anchor boxes max)
  has_sums (Restyle id' style) planned = sums_there id' planned.plan_is.id_is (may_restyle page id' style planned.faultless).there (restyled style)
  has_sums (Reshape id' form) planned = sums_there id' planned.plan_is.id_is (may_reshape page id' form planned.faultless).there (reshaped form)
  has_sums (Scroll id' x y) planned = sums_there id' planned.plan_is.id_is (may_scroll page id' x y planned.faultless).there (scrolled_node x y)
  has_sums edit planned = absurd planned.plan_is

  module _ (new : NodesState) (frame' : Frame) (had : Change) (changes : ChangesAt nodes new id (with_label (changed change))) (had_is : had ≡ option_map_or (λ (n : Node). given_up change (label_of n)) (node_with nodes.nodes id) change)
      (sums_is : frame'.sums ≡ sums_more (sums_less frame.sums (sums_at (node_with nodes.nodes id))) (sums_at (node_with new.nodes id))) (root_is : frame'.root ≡ frame.root) (viewport_is : frame'.viewport ≡ frame.viewport) (next_is : frame'.next ≡ frame.next) where
    carried : (edit : Edit) (id' : ℕ) (relabel : Label → Label) → IsChangePlan page id' relabel id change → has_id page id' ≡ true → edited page edit ≡ record page { tree = relabelled id' relabel page.tree } → answer_of page edit ≡ EditDone → ((n : Label) → (relabel n).id ≡ n.id) →
        (((k : ℕ) → node_with new.nodes k ≡ changed_at id' (with_label (changed change)) k (node_with nodes.nodes k)) → IsKept (node_with new.nodes) frame.root (record page { tree = relabelled id' relabel page.tree })) →
        Carries new frame' (Changed id had) (state_of nodes frame) edit
    carried edit id' relabel plan there edited_is answer_is keeps kept_if =
        let known : (k : ℕ) → node_with new.nodes k ≡ changed_at id' (with_label (changed change)) k (node_with nodes.nodes k) = (λ k. changes.looked_up k ∙ ap (λ i. changed_at i (with_label (changed change)) k (node_with nodes.nodes k)) plan.id_is) in
        let kept = kept_if known in
        let boxes = changes_total boxes_in page id' relabel counted.kept.valid there in
        let vertices = changes_total vertices_in page id' relabel counted.kept.valid there in
        let old_is : node_with nodes.nodes id ≡ node_of page id' = ap (node_with nodes.nodes) plan.id_is ∙ counted.kept.looked_up id' in
        let new_is : node_with new.nodes id ≡ option_map (with_label relabel) (node_of page id') =
        ap (node_with new.nodes) plan.id_is ∙ known id' ∙ changed-here id' (with_label (changed change)) id' (node_with nodes.nodes id') refl ∙ ap (option_map (with_label (changed change))) (counted.kept.looked_up id') ∙ plan.change_is in
        let count_is = node_count-relabelled id' relabel keeps page.tree in
        carries new frame' (Changed id had) (state_of nodes frame) edit
        (rw (root_is, edited_is) kept)
        (rw edited_is (record {
          count = omega (arith, changes.count, counted.count, count_is);
          sums = same_sums frame'.sums (sums_in (relabelled id' relabel page.tree))
              (omega (arith, ap (λ (sums : Sums). sums.boxes) sums_is, ap (λ (sums : Sums). sums.boxes) counted.sums_are, boxes.total, boxes.least, ap (weight_at boxes_in) old_is, ap (weight_at boxes_in) new_is))
              (omega (arith, ap (λ (sums : Sums). sums.vertices) sums_is, ap (λ (sums : Sums). sums.vertices) counted.sums_are, vertices.total, vertices.least, ap (weight_at vertices_in) old_is, ap (weight_at vertices_in) new_is));
          viewport = viewport_is;
          next = next_is;
          fits = omega (arith, changes.count, counted.fits, changes.same_room.room);
          placed = λ k positive below. omega (arith, counted.placed k positive below, changes.same_room.ids);
        }))
        (rw edited_is (record {
          looked_up = λ k. sym (ap (changed_at id (with_label (changed had)) k) (sym (kept.looked_up k) ∙ changes.looked_up k) ∙ change-back id change had (node_with nodes.nodes) had_is k ∙ counted.kept.looked_up k);
          count = sym count_is;
          can_go_back = tt;
          fits = omega (arith, counted.fits, counted.count, changes.same_room.room);
          next = omega arith;
        }))
        (sym answer_is)

    pub planned-change : (edit : Edit) → IsPlanned (ChangeNode id change) edit (state_of nodes frame) → Carries new frame' (Changed id had) (state_of nodes frame) edit
    planned-change (Place id' anchor boxes max) planned =
        let may = may_place page id' anchor boxes max planned.faultless in
        carried (Place id' anchor boxes max) id' (laid_out anchor boxes max) planned.plan_is may.there refl refl (λ n. refl)
        (kept-placed page id' anchor boxes max frame.root (node_with nodes.nodes) (node_with new.nodes) (with_label (changed change)) planned.in_range may counted.kept planned.plan_is.change_is)
    planned-change (Restyle id' style) planned =
        let may = may_restyle page id' style planned.faultless in
        carried (Restyle id' style) id' (restyled style) planned.plan_is may.there refl refl (λ n. refl)
        (kept-restyled page id' style frame.root (node_with nodes.nodes) (node_with new.nodes) (with_label (changed change)) planned.in_range may counted.kept planned.plan_is.change_is)
    planned-change (Reshape id' form) planned =
        let may = may_reshape page id' form planned.faultless in
        carried (Reshape id' form) id' (reshaped form) planned.plan_is may.there refl refl (λ n. refl)
        (kept-reshaped page id' form frame.root (node_with nodes.nodes) (node_with new.nodes) (with_label (changed change)) planned.in_range may counted.kept planned.plan_is.change_is)
    planned-change (Scroll id' x y) planned =
        let may = may_scroll page id' x y planned.faultless in
        carried (Scroll id' x y) id' (scrolled_node x y) planned.plan_is may.there refl refl (λ n. refl)
        (kept-scrolled page id' x y frame.root (node_with nodes.nodes) (node_with new.nodes) (with_label (changed change)) counted.kept planned.plan_is.change_is)
    planned-change edit planned = absurd planned.plan_is
