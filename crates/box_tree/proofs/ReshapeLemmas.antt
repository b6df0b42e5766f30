-- A page with another form for one node: what no fault means, and that it is what the nodes then mean.
use Rattle.std.proofs.Common.{◌≡◌, ◌≤◌, ℕ, Option, Some, None, true, false, refl, sym, ap, ◌∙◌, arith}
use Rattle.std.specs.Option.{option_map, option_map_or}
use Rattle.std.proofs.lemmas.Bool.Decides.{nat_tests}
use Rattle.box_tree.specs.declared.form.Form.{Form}
use Rattle.box_tree.specs.declared.node.Node.{Node}
use Rattle.box_tree.specs.declared.edit.Edit.TheVariants.{Reshape}
use Rattle.box_tree.specs.Forest.{Placed}
use Rattle.box_tree.specs.Forms.{vertices_of_form}
use Rattle.box_tree.specs.Contents.{Contents, node_of, placed_of, has_id, IsSuited}
use Rattle.box_tree.specs.Edited.{IsReshapeInRange, kind_takes_form, relabelled, reshaped, first_fault, faults_of}
use Rattle.box_tree.specs.Kept.{with_label, IsKept}
use Rattle.box_tree.specs.Nodes.{changed_at}
use Rattle.box_tree.specs.Suits.{takes_form}
use Rattle.box_tree.specs.Totals.{box_count, vertex_count}
use Rattle.box_tree.proofs.AddLemmas.{none_holds, not_false}
use Rattle.box_tree.proofs.BoxLemmas.{boxes_in}
use Rattle.box_tree.proofs.PlaceLemmas.{kept-relabelled}
use Rattle.box_tree.proofs.TotalLemmas.{total-relabelled-same}

-- a reshape without a fault
pub record MayReshape (page : Contents) (id : ℕ) (form : Form) : Type 0 where
  pub there : has_id page id ≡ true
  pub takes : kind_takes_form page id form ≡ true
  pub few : vertices_of_form form ≤ 4096
  pub total : vertex_count (relabelled id (reshaped form) page.tree) ≤ 1048576

pub may_reshape : (page : Contents) (id : ℕ) (form : Form) → first_fault page (Reshape id form) ≡ None → MayReshape page id form
may_reshape page id form none =
    let tests = none_holds (faults_of page (Reshape id form)) none in
    record {
      there = not_false (has_id page id) tests.0;
      takes = not_false (kind_takes_form page id form) tests.1.0;
      few = grind (arith, nat_tests, tests.1.1.0);
      total = grind (arith, nat_tests, tests.1.1.0);
    }

-- a label with another form suits where one did whose kind takes the form
suited-reshaped : (page : Contents) (id : ℕ) (form : Form) → IsReshapeInRange id form → MayReshape page id form → (q : Placed) → placed_of page id ≡ Some q → IsSuited q.above q.label → IsSuited q.above (reshaped form q.label)
suited-reshaped page id form range may q found suited = record {
  kind = suited.kind;
  boxes = suited.boxes;
  style = suited.style;
  style_in_range = suited.style_in_range;
  box_count = suited.box_count;
  in_range = suited.in_range;
  formed = record {
    suits = sym (ap (λ o. option_map_or (λ p. takes_form p.label.kind form) o false) found) ∙ may.takes;
    in_range = range.form_in_range;
    vertices = may.few;
  };
  anchor = suited.anchor;
  scroll = suited.scroll;
}

pub kept-reshaped : (page : Contents) (id : ℕ) (form : Form) (first : Option ℕ) (look look' : ℕ → Option Node) (make : Node → Node) → IsReshapeInRange id form → MayReshape page id form → IsKept look first page →
    option_map make (node_of page id) ≡ option_map (with_label (reshaped form)) (node_of page id) → ((k : ℕ) → look' k ≡ changed_at id make k (look k)) →
    IsKept look' first (record page { tree = relabelled id (reshaped form) page.tree })
kept-reshaped page id form first look look' make range may kept makes known =
    let few : box_count (relabelled id (reshaped form) page.tree) ≤ 262144 = omega (arith, total-relabelled-same boxes_in id (reshaped form) (λ n. refl) page.tree, kept.valid.boxes) in
    kept-relabelled id (reshaped form) (λ n. refl) page kept.valid (λ n. refl) few may.total (suited-reshaped page id form range may) first look look' make kept makes known
