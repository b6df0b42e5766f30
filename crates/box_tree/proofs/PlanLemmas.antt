-- What it means that an edit was carried out on nodes with a frame, and that a planned add does so.
use Rattle.std.proofs.Common.{◌≡◌, ◌≢◌, ◌⊎◌, ℕ, ◌+◌, ◌-◌, ◌^◌, ◌<◌, ◌≤◌, ◌==◌, List, [], ◌∷◌, length, Option, Some, None, is_some, Bool, true, false, if◌then◌else◌, refl, sym, ap, ◌∙◌, subst, inl, inr, arith}
use mathlib.Core.Bool.{false≢true}
use Rattle.std.specs.Option.{option_map, option_map_or}
use Rattle.std.specs.Prelude.{Vec}
use Rattle.std.specs.declared.alloc.Global.{Global}
use Rattle.std.proofs.lemmas.Bool.{cases_eq}
use Rattle.std.proofs.lemmas.Bool.Decides.{nat_tests}
use Rattle.computed_style.specs.declared.style.Style.{Style}
use Rattle.box_tree.specs.declared.kind.Kind.{Kind}
use Rattle.box_tree.specs.declared.piece.Piece.{Piece}
use Rattle.box_tree.specs.declared.node.Node.{Node}
use Rattle.box_tree.specs.declared.edit.Edit.{Edit}
use Rattle.box_tree.specs.declared.edit.Edit.TheVariants.{Add}
use Rattle.box_tree.specs.declared.edit.Done.TheVariants.{Node as NodeAdded}
use Rattle.box_tree.specs.declared.plan.Frame.{Frame}
use Rattle.box_tree.specs.declared.plan.Plan.TheVariants.{AddNode}
use Rattle.box_tree.specs.declared.plan.Taken.{Taken}
use Rattle.box_tree.specs.declared.plan.Taken.TheVariants.{Added}
use Rattle.box_tree.specs.Contents.{Contents, node_at, node_of, placed_of, origin, new_label, has_id, parent_id, IsValid}
use Rattle.box_tree.specs.Counted.{IsCounted}
use Rattle.box_tree.specs.Edited.{edited, answer_of, planted, put_below, ancestors_below, child_count}
use Rattle.box_tree.specs.Forest.{Label, Forest, End, roots_of, node_count, Placed}
use Rattle.box_tree.specs.Kept.{node_with, page_of, IsKept}
use Rattle.box_tree.specs.Nodes.{NodesState, changed_at, ChangesAt}
use Rattle.box_tree.specs.TreeState.{TreeState}
use Rattle.box_tree.specs.Planned.{node_added, with_child_at, MayInsertAt, IsPlanned}
use Rattle.box_tree.specs.Taken.{without_child_at, IsTaken, answer_by}
use Rattle.box_tree.specs.Forms.{form_vertices}
use Rattle.box_tree.specs.declared.sums.Sums.{Sums}
use Rattle.box_tree.specs.Totals.{box_count, vertex_count, sums_in}
use Rattle.box_tree.proofs.AddLemmas.{may_add, once_there, ancestors_below-none, kept-root, kept-below}
use Rattle.box_tree.proofs.ForestLemmas.{single, placed_in-absent, node_in-absent, node_count-put_below}
use Rattle.box_tree.proofs.KeptLemmas.{changed-none, changed-here, changed-back, child-back, child_at}
use Rattle.box_tree.proofs.KeptPages.{Means, means}
pub use Rattle.box_tree.proofs.PlacedLemmas.{id-placed_in}
use Rattle.box_tree.proofs.PutLemmas.{given-absent}
use Rattle.box_tree.proofs.TotalLemmas.{same_sums, total-none, total-put_below}

-- the page that nodes with a frame are
abbrev pub state_of : NodesState → Frame → TreeState
state_of nodes frame = record { contents = page_of (node_with nodes.nodes) frame.root frame.viewport frame.next; room = nodes.room; ids = nodes.ids }

-- the nodes and the frame mean the edited page, and what was taken leads back
pub record Carries (new : NodesState) (frame : Frame) (taken : Taken) (state : TreeState) (edit : Edit) : Type 0 where
  pub means : Means new frame (edited state.contents edit)
  pub taken_is : IsTaken taken state.contents (edited state.contents edit) new.room
  pub answer_is : answer_by taken ≡ answer_of state.contents edit

-- the same of what was taken, where the nodes and the frame are those of a page
pub taken_as : (new : NodesState) (frame : Frame) (taken : Taken) (state page : TreeState) (edit : Edit) → state ≡ page → Carries new frame taken state edit → IsTaken taken page.contents (page_of (node_with new.nodes) frame.root frame.viewport frame.next) new.room
taken_as new frame taken state page edit is carried =
    subst (λ (s : TreeState). IsTaken taken s.contents (page_of (node_with new.nodes) frame.root frame.viewport frame.next) new.room) is
    (subst (λ (after : Contents). IsTaken taken state.contents after new.room) (sym carried.means.is) carried.taken_is)

-- what an exchange leaves of the numbers of a page
pub record Leaves (new : NodesState) (frame : Frame) (after : Contents) : Type 0 where
  pub count : length new.nodes ≡ node_count after.tree
  pub sums : frame.sums ≡ sums_in after.tree
  pub viewport : frame.viewport ≡ after.viewport
  pub next : frame.next ≡ after.next
  pub fits : length new.nodes ≤ new.room
  pub placed : (id : ℕ) → 0 < id → id < after.next → id < new.ids

pub carries : (new : NodesState) (frame : Frame) (taken : Taken) (state : TreeState) (edit : Edit) → IsKept (node_with new.nodes) frame.root (edited state.contents edit) → Leaves new frame (edited state.contents edit) → IsTaken taken state.contents (edited state.contents edit) new.room → answer_by taken ≡ answer_of state.contents edit → Carries new frame taken state edit
carries new frame taken state edit kept leaves taken_is answer_is = record {
  means = means new frame (edited state.contents edit) (record { kept = kept; count = leaves.count; sums_are = leaves.sums; fits = leaves.fits; placed = leaves.placed }) leaves.viewport leaves.next;
  taken_is = taken_is;
  answer_is = answer_is;
}

-- the parent that a new node names
pub parent-node_added : (page : Contents) (parent : ℕ) (kind : Kind) (style : Style) (boxes : List Piece) → IsValid page → (parent ≡ 0) ⊎ (has_id page parent ≡ true) → (node_added page parent kind style boxes).parent ≡ parent
parent-node_added page parent kind style boxes valid (inl none_named) = rw none_named (ap parent_id (ancestors_below-none page valid))
parent-node_added page parent kind style boxes valid (inr there) = at_place (placed_of page parent) refl there
  where
    at_place : (place : Option Placed) → placed_of page parent ≡ place → is_some place ≡ true → parent_id (option_map_or (λ p. p.label ∷ p.above) place []) ≡ parent
    at_place None is there' = absurd (false≢true there')
    at_place (Some p) is there' = id-placed_in page.tree [] parent p is

pub planted-root : (parent at : ℕ) (n : Label) (tree : Forest) → parent ≡ 0 → planted parent at n End tree ≡ single n End
planted-root parent at n tree none_named = grind (arith, nat_tests)

pub planted-below : (parent at : ℕ) (n : Label) (tree : Forest) → parent ≢ 0 → planted parent at n End tree ≡ put_below parent at n End tree
planted-below parent at n tree other = grind (arith, nat_tests)

-- a reader sees a node where one is placed
pub is_some-node_at : (o : Option Placed) → is_some (option_map node_at o) ≡ is_some o
is_some-node_at None = refl
is_some-node_at (Some p) = refl

-- what an add asks of its place, by the parent as a reader sees it
module _ (page : Contents) (parent : ℕ) where
  pub child_count-node_of : child_count page parent ≡ option_map_or (λ (n : Node). length n.children) (node_of page parent) 0
  child_count-node_of = by_place (placed_of page parent)
    where
      by_place : (o : Option Placed) → option_map_or (λ p. length (roots_of p.below)) o 0 ≡ option_map_or (λ (n : Node). length n.children) (option_map node_at o) 0
      by_place None = refl
      by_place (Some p) = refl

  pub length-ancestors_below : length (ancestors_below page parent) ≡ option_map_or (λ (n : Node). n.depth) (node_of page parent) 0
  length-ancestors_below = by_place (placed_of page parent)
    where
      by_place : (o : Option Placed) → length (option_map_or (λ p. p.label ∷ p.above) o []) ≡ option_map_or (λ (n : Node). n.depth) (option_map node_at o) 0
      by_place None = refl
      by_place (Some p) = omega arith

-- the node that an add makes, field by field
pub node_is-added : (page : Contents) (parent : ℕ) (kind : Kind) (style : Style) (boxes : List Piece) (id depth : ℕ) (children : List ℕ) (own : List Piece) (declared : Style) → IsValid page → (parent ≡ 0) ⊎ (has_id page parent ≡ true) → id ≡ page.next → children ≡ [] → depth ≡ option_map_or (λ (n : Node). n.depth) (node_of page parent) 0 → own ≡ boxes → declared ≡ style →
    let made : Node = record { id = id; kind = kind; parent = parent; children = children; depth = depth + 1; style = declared; anchor = origin; boxes = own; form = None; scroll = origin; max = origin } in made ≡ node_added page parent kind style boxes
node_is-added page parent kind style boxes id depth children own declared valid present id_is children_are depth_is own_is declared_is =
    let parent_is = parent-node_added page parent kind style boxes valid present in
    let depth_is' : depth + 1 ≡ 1 + length (ancestors_below page parent) = omega (arith, length-ancestors_below page parent, depth_is) in
    rw (id_is, children_are, depth_is', own_is, declared_is) (ap (λ (k : ℕ). let made : Node = record { id = page.next; kind = kind; parent = k; children = []; depth = 1 + length (ancestors_below page parent); style = style; anchor = origin; boxes = boxes; form = None; scroll = origin; max = origin } in made) (sym parent_is))

-- no node has the id 0
nowhere : (page : Contents) → IsValid page → has_id page 0 ≡ false
nowhere page valid = ap is_some (placed_in-absent page.tree [] 0 (given-absent page.tree [] page.next 0 valid.given (inl refl)))

-- an add makes the boxes of its node more, and no vertices
pub record AddsBoxes (page after : Contents) (count : ℕ) : Type 0 where
  pub total : count + box_count page.tree ≡ box_count after.tree
  pub most : count + box_count page.tree ≤ 262144
  pub vertices : vertex_count page.tree ≡ vertex_count after.tree

pub boxes_added : (state : TreeState) (edit : Edit) (node : Node) (place : ℕ) (spare : Option (Vec ℕ Global)) → IsValid state.contents → IsPlanned (AddNode node place spare) edit state → AddsBoxes state.contents (edited state.contents edit) (length node.boxes)
boxes_added state (Add parent at kind boxes style) node place spare valid planned =
    let page = state.contents in
    let may = may_add page parent at kind style boxes planned.faultless in
    let n = new_label page.next kind style boxes in
    let boxes_are : length node.boxes ≡ length boxes = ap (λ (m : Node). length m.boxes) planned.plan_is.node_is in
    record {
      total = elim may.present [
        | inl none_named ↦ rw (planted-root parent at n page.tree none_named) (omega (arith, boxes_are, total-none (λ m. length m.boxes) page.tree (may.root none_named)))
        | inr there ↦
            let named : parent ≢ 0 = (λ none_named. false≢true (sym (nowhere page valid) ∙ ap (has_id page) (sym none_named) ∙ there)) in
            rw (planted-below parent at n page.tree named, total-put_below (λ m. length m.boxes) page.tree parent at n End (once_there page parent valid there)) (omega (arith, boxes_are))
      ];
      most = omega (arith, boxes_are, may.total);
      vertices = elim may.present [
        | inl none_named ↦ rw (planted-root parent at n page.tree none_named) (omega (arith, total-none (λ m. form_vertices m.form) page.tree (may.root none_named)))
        | inr there ↦
            let named : parent ≢ 0 = (λ none_named. false≢true (sym (nowhere page valid) ∙ ap (has_id page) (sym none_named) ∙ there)) in
            rw (planted-below parent at n page.tree named, total-put_below (λ m. form_vertices m.form) page.tree parent at n End (once_there page parent valid there)) (omega arith)
      ];
    }
boxes_added state edit node place spare valid planned = absurd planned.plan_is

-- a planned add
module _ (nodes : NodesState) (frame : Frame) (counted : IsCounted nodes frame.root frame.sums (state_of nodes frame).contents) (node : Node) (place : ℕ) (spare : Option (Vec ℕ Global)) where
  -- the new id is not there, there is room for its node, and it has a place
  pub record CanAdd (given : NodesState) : Type 0 where
    pub absent : node_with given.nodes node.id ≡ None
    pub fits : length given.nodes < given.room
    pub placed : node.id < given.ids
    pub next : frame.next < 2 ^ 32 - 1
    pub boxes : frame.sums.boxes + length node.boxes ≤ 262144

  abbrev page : Contents
  page = (state_of nodes frame).contents

  -- the parent of the new node is the one that the add names
  parent_of-added : (parent at : ℕ) (kind : Kind) (boxes : List Piece) (style : Style) → IsPlanned (AddNode node place spare) (Add parent at kind boxes style) (state_of nodes frame) → node.parent ≡ parent
  parent_of-added parent at kind boxes style planned =
      ap (λ (n : Node). n.parent) planned.plan_is.node_is ∙ parent-node_added page parent kind style boxes counted.kept.valid (may_add page parent at kind style boxes planned.faultless).present

  -- so it can take its child
  pub may_give : (edit : Edit) → IsPlanned (AddNode node place spare) edit (state_of nodes frame) → MayInsertAt (node_with nodes.nodes node.parent) place spare
  may_give (Add parent at kind boxes style) planned =
      subst (λ o. MayInsertAt o place spare) (sym (ap (node_with nodes.nodes) (parent_of-added parent at kind boxes style planned) ∙ counted.kept.looked_up parent)) planned.plan_is.may_insert
  may_give edit planned = absurd planned.plan_is

  pub can_add : (edit : Edit) (given : NodesState) → IsPlanned (AddNode node place spare) edit (state_of nodes frame) → ChangesAt nodes given node.parent (with_child_at place node.id) → CanAdd given
  can_add (Add parent at kind boxes style) given planned gives =
      let may = may_add page parent at kind style boxes planned.faultless in
      let plan = planned.plan_is in
      let id_is : node.id ≡ page.next = ap (λ (n : Node). n.id) plan.node_is in
      let boxes_are : length node.boxes ≡ length boxes = ap (λ (n : Node). length n.boxes) plan.node_is in
      record {
        absent = gives.looked_up node.id ∙ ap (changed_at node.parent (with_child_at place node.id) node.id) (ap (node_with nodes.nodes) id_is ∙ counted.kept.looked_up page.next ∙ node_in-absent page.tree [] page.next (given-absent page.tree [] page.next page.next counted.kept.valid.given (inr (omega arith)))) ∙ changed-none node.parent (with_child_at place node.id) node.id;
        fits = omega (arith, gives.count, counted.count, plan.room, gives.same_room.room);
        placed = omega (arith, id_is, plan.placed, gives.same_room.ids);
        next = omega (arith, may.next);
        boxes = omega (arith, ap (λ (sums : Sums). sums.boxes) counted.sums_are, boxes_are, may.total);
      }
  can_add edit given planned gives = absurd planned.plan_is

  pub planned-add : (edit : Edit) (given new : NodesState) (frame' : Frame) → IsPlanned (AddNode node place spare) edit (state_of nodes frame) → ChangesAt nodes given node.parent (with_child_at place node.id) →
      ((k : ℕ) → node_with new.nodes k ≡ (if node.id == k then Some node else node_with given.nodes k)) → length new.nodes ≡ length given.nodes + 1 → new.room ≡ given.room → new.ids ≡ given.ids →
      frame'.sums.boxes ≡ length node.boxes + frame.sums.boxes → frame'.sums.vertices ≡ frame.sums.vertices → frame'.root ≡ (if node.parent == 0 then Some node.id else frame.root) → frame'.viewport ≡ frame.viewport → frame'.next ≡ frame.next + 1 →
      Carries new frame' (Added node.id node.parent place) (state_of nodes frame) edit
  planned-add (Add parent at kind boxes style) given new frame' planned gives puts count room ids boxes_is vertices_is root_is viewport_is next_is =
      let valid = counted.kept.valid in
      let may = may_add page parent at kind style boxes planned.faultless in
      let plan = planned.plan_is in
      let edit = Add parent at kind boxes style in
      let id_is : node.id ≡ page.next = ap (λ (n : Node). n.id) plan.node_is in
      let parent_is = parent_of-added parent at kind boxes style planned in
      let known : (k : ℕ) → node_with new.nodes k ≡ (if page.next == k then Some (node_added page parent kind style boxes) else changed_at parent (with_child_at at page.next) k (node_with nodes.nodes k)) = (λ k.
      puts k ∙ ap (λ o. if node.id == k then Some node else o) (gives.looked_up k)
      ∙ ap (λ i. if i == k then Some node else changed_at node.parent (with_child_at place i) k (node_with nodes.nodes k)) id_is
      ∙ ap (λ n. if page.next == k then Some n else changed_at node.parent (with_child_at place page.next) k (node_with nodes.nodes k)) plan.node_is
      ∙ ap (λ i. if page.next == k then Some (node_added page parent kind style boxes) else changed_at i (with_child_at place page.next) k (node_with nodes.nodes k)) parent_is
      ∙ ap (λ i. if page.next == k then Some (node_added page parent kind style boxes) else changed_at parent (with_child_at i page.next) k (node_with nodes.nodes k)) plan.place_is) in
      let label = new_label page.next kind style boxes in
      let kept : IsKept (node_with new.nodes) frame'.root (edited page edit) = elim (cases_eq parent 0) [
        | inl none_named ↦
            let first_is : frame'.root ≡ Some page.next = root_is ∙ ap (λ i. if i == 0 then Some node.id else frame.root) (parent_is ∙ none_named) ∙ ap Some id_is in
            rw (first_is, planted-root parent at label page.tree none_named) (kept-root page valid parent at kind style boxes planned.in_range may (node_with nodes.nodes) (node_with new.nodes) counted.kept.looked_up known none_named)
        | inr named ↦
            let there : has_id page parent ≡ true = elim may.present [ inl none_named ↦ absurd (named none_named) | inr there' ↦ there' ] in
            let is_not : (node.parent == 0) ≡ false = (let apart : node.parent ≢ 0 = (λ is. named (sym parent_is ∙ is)) in grind (arith, nat_tests)) in
            let first_is : frame'.root ≡ frame.root = root_is ∙ ap (λ (b : Bool). if b then Some node.id else frame.root) is_not in
            rw (first_is, planted-below parent at label page.tree named) (kept-below page valid parent at kind style boxes planned.in_range may (node_with nodes.nodes) (node_with new.nodes) counted.kept.looked_up known there frame.root counted.kept.root)
      ] in
      let adds = boxes_added (state_of nodes frame) edit node place spare valid planned in
      let after_count : node_count (edited page edit).tree ≡ node_count page.tree + 1 = elim (cases_eq parent 0) [
        | inl none_named ↦ rw (planted-root parent at label page.tree none_named) (omega (arith, may.root none_named))
        | inr named ↦
            let there : has_id page parent ≡ true = elim may.present [ inl none_named ↦ absurd (named none_named) | inr there' ↦ there' ] in
            rw (planted-below parent at label page.tree named, node_count-put_below page.tree parent at label End (once_there page parent valid there)) (omega arith)
      ] in
      carries new frame' (Added node.id node.parent place) (state_of nodes frame) edit kept
      (record {
        count = omega (arith, count, gives.count, counted.count, after_count);
        sums = same_sums frame'.sums (sums_in (edited page edit).tree)
            (omega (arith, boxes_is, ap (λ (sums : Sums). sums.boxes) counted.sums_are, adds.total))
            (vertices_is ∙ ap (λ (sums : Sums). sums.vertices) counted.sums_are ∙ adds.vertices);
        viewport = viewport_is;
        next = next_is;
        fits = omega (arith, count, gives.count, counted.count, plan.room, room, gives.same_room.room);
        placed = λ id positive below. elim (cases_eq id page.next) [
          | inl is ↦ omega (arith, is, plan.placed, ids, gives.same_room.ids)
          | inr other ↦ omega (arith, counted.placed id positive (omega (arith, other, below)), ids, gives.same_room.ids)
        ];
      })
      (record {
        looked_up = λ k. sym (
            ap (λ o. if node.id == k then None else changed_at node.parent (without_child_at place) k o) (sym (kept.looked_up k) ∙ puts k ∙ ap (λ o. if node.id == k then Some node else o) (gives.looked_up k))
            ∙ back k);
        count = omega (arith, after_count);
        can_go_back = record {
          there = ap is_some (sym (kept.looked_up node.id) ∙ puts node.id ∙ (let same : (node.id == node.id) ≡ true = grind (arith, nat_tests) in ap (λ (b : Bool). if b then Some node else node_with given.nodes node.id) same));
          within = λ other n found.
              let apart : (node.id == node.parent) ≡ false = grind (arith, nat_tests) in
              let seen : node_of (edited page edit) node.parent ≡ option_map (with_child_at place node.id) (node_with nodes.nodes node.parent) =
              sym (kept.looked_up node.parent) ∙ puts node.parent ∙ ap (λ (b : Bool). if b then Some node else node_with given.nodes node.parent) apart ∙ gives.looked_up node.parent
              ∙ changed-here node.parent (with_child_at place node.id) node.parent (node_with nodes.nodes node.parent) refl in
              child_at place node.id (node_with nodes.nodes node.parent) n (may_give edit planned).within (sym seen ∙ found);
        };
        fits = omega (arith, plan.room, room, gives.same_room.room);
        next = omega arith;
      })
      (ap NodeAdded id_is)
    where
      goes : (n : Node) → node_with nodes.nodes node.parent ≡ Some n → without_child_at place (with_child_at place node.id n) ≡ n
      goes n found = child-back place node.id n (subst (λ o. place ≤ option_map_or (λ (m : Node). length m.children) o place) found (may_give (Add parent at kind boxes style) planned).within)

      back : (k : ℕ) → (if node.id == k then None else changed_at node.parent (without_child_at place) k (if node.id == k then Some node else changed_at node.parent (with_child_at place node.id) k (node_with nodes.nodes k))) ≡ node_of page k
      back k = elim (cases_eq node.id k) [
        | inl here ↦
            let is : (node.id == k) ≡ true = grind (arith, nat_tests) in
            rw is (sym (ap (node_of page) (sym here ∙ ap (λ (n : Node). n.id) planned.plan_is.node_is) ∙ node_in-absent page.tree [] page.next (given-absent page.tree [] page.next page.next counted.kept.valid.given (inr (omega arith)))))
        | inr other ↦
            let is : (node.id == k) ≡ false = grind (arith, nat_tests) in
            rw is (changed-back node.parent (with_child_at place node.id) (without_child_at place) (node_with nodes.nodes) goes k ∙ counted.kept.looked_up k)
      ]
  planned-add edit given new frame' planned gives puts count room ids boxes_is vertices_is root_is viewport_is next_is = absurd planned.plan_is
