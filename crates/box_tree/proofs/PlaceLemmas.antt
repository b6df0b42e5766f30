-- A page with another label for one node, and with another viewport: what no fault means, that it is valid, and that it is
-- what the nodes then mean.
use Rattle.std.proofs.Common.{◌≡◌, ◌≢◌, ℕ, suc, ◌+◌, ◌==◌, ℤ, List, [], ◌∷◌, length, map, Option, Some, None, true, false, Bool, if◌then◌else◌, refl, sym, ap, ◌∙◌, inl, inr, arith}
use Rattle.std.specs.Prelude.{◌≤◌, ◌&&◌}
use Rattle.std.specs.Option.{option_or, option_map, option_map_or}
use Rattle.std.proofs.lemmas.Bool.{cases_eq}
use Rattle.std.proofs.lemmas.Bool.Decides.{nat_tests}
use Rattle.std.proofs.lemmas.Int.{ints, clamps}
use Rattle.fractions.specs.declared.rect.Spot.{Spot}
use Rattle.box_tree.specs.declared.piece.Piece.{Piece}
use Rattle.box_tree.specs.declared.node.Node.{Node}
use Rattle.box_tree.specs.declared.edit.Edit.{Edit}
use Rattle.box_tree.specs.declared.edit.Edit.TheVariants.{Place, Resize}
use Rattle.box_tree.specs.declared.plan.Frame.{Frame}
use Rattle.box_tree.specs.declared.plan.Plan.TheVariants.{ResizeViewport}
use Rattle.box_tree.specs.declared.plan.Taken.TheVariants.{Untouched}
use Rattle.box_tree.specs.Forest.{Label, Forest, End, Grow, roots_of, node_count, height_of, occurrences, Placed, placed_in, EachNode}
use Rattle.box_tree.specs.Contents.{Contents, node_at, node_of, placed_of, has_id, parent_id, IsMaxInRange, IsScrolled, IsGiven, IsSuited, IsValid}
use Rattle.box_tree.specs.Counted.{IsCounted}
use Rattle.box_tree.specs.declared.kind.Kind.{Kind}
use Rattle.box_tree.specs.Suits.{has_no_parent, kind_suits, box_count_suits, takes_place}
use Rattle.box_tree.specs.Totals.{box_count, vertex_count}
use Rattle.box_tree.specs.Forms.{form_vertices}
use Rattle.box_tree.specs.Edited.{IsPlaceInRange, kind_may_be_placed, relabelled, clamped_to, laid_out, resized, first_fault, faults_of}
use Rattle.box_tree.specs.Kept.{with_label, IsKept}
use Rattle.box_tree.specs.Nodes.{NodesState, changed_at}
use Rattle.box_tree.specs.Planned.{IsPlanned}
use Rattle.box_tree.proofs.ForestLemmas.{if_map}
use Rattle.box_tree.proofs.KeptLemmas.{changed-here, changed-other}
use Rattle.box_tree.proofs.AddLemmas.{none_holds, both_true, not_false}
use Rattle.box_tree.proofs.PlacedLemmas.{AreAtPlaces, page-at_places, id-node_of}
use Rattle.box_tree.proofs.PlanLemmas.{state_of, Carries, carries}
use Rattle.box_tree.proofs.TotalLemmas.{total-relabelled-same}

-- trees with another label for one node, which keeps its id
module _ (id : ℕ) (change : Label → Label) (keeps : (n : Label) → (change n).id ≡ n.id) where
  -- the label of a node after the change
  abbrev new : Label → Label
  new n = if n.id == id then change n else n

  id-new : (n : Label) → (new n).id ≡ n.id
  id-new n = by_test (n.id == id)
    where
      by_test : (b : Bool) → (if b then change n else n).id ≡ n.id
      by_test true = keeps n
      by_test false = refl

  -- the trees stay as they are but for that label
  pub roots-relabelled : (f : Forest) → roots_of (relabelled id change f) ≡ roots_of f
  roots-relabelled End = refl
  roots-relabelled (Grow n below others) = rw (id-new n, roots-relabelled others) refl

  pub occurrences-relabelled : (f : Forest) (k : ℕ) → occurrences (relabelled id change f) k ≡ occurrences f k
  occurrences-relabelled End k = refl
  occurrences-relabelled (Grow n below others) k = rw (id-new n, occurrences-relabelled below k, occurrences-relabelled others k) refl

  pub node_count-relabelled : (f : Forest) → node_count (relabelled id change f) ≡ node_count f
  node_count-relabelled End = refl
  node_count-relabelled (Grow n below others) = rw (node_count-relabelled below, node_count-relabelled others) refl

  pub height-relabelled : (f : Forest) → height_of (relabelled id change f) ≡ height_of f
  height-relabelled End = refl
  height-relabelled (Grow n below others) = rw (height-relabelled below, height-relabelled others) refl

  -- the place of a node after the change
  abbrev pub new_place : Placed → Placed
  new_place p = record { label = new p.label; above = map new p.above; below = relabelled id change p.below }

  pub placed_in-relabelled : (f : Forest) (above : List Label) (k : ℕ) → placed_in (map new above) (relabelled id change f) k ≡ option_map new_place (placed_in above f k)
  placed_in-relabelled End above k = refl
  placed_in-relabelled (Grow n below others) above k =
      ap (λ m. if m == k then Some (new_place (record { label = n; above = above; below = below })) else option_or (placed_in (map new (n ∷ above)) (relabelled id change below) k) (placed_in (map new above) (relabelled id change others) k)) (id-new n)
      ∙ if_map new_place (n.id == k) _ _ _ _ _ _ refl (placed_in-relabelled below (n ∷ above) k) (placed_in-relabelled others above k)

  -- a node after the change as a reader sees it: the changed one with the new label, every other as before
  length-new : (above : List Label) → length (map new above) ≡ length above
  length-new [] = refl
  length-new (n ∷ above) = ap suc (length-new above)

  parent_id-new : (above : List Label) → parent_id (map new above) ≡ parent_id above
  parent_id-new [] = refl
  parent_id-new (n ∷ above) = id-new n

  node_at-new : (p : Placed) → node_at (new_place p) ≡ with_label new (node_at p)
  node_at-new p = with_parts (node_at (new_place p)) _ _ _ _ _ _ (parent_id-new p.above) (roots-relabelled p.below) (ap (λ k. 1 + k) (length-new p.above))
    where
      with_parts : (n : Node) (a a' : ℕ) (b b' : List ℕ) (d d' : ℕ) → a ≡ a' → b ≡ b' → d ≡ d' → record n { parent = a; children = b; depth = d } ≡ record n { parent = a'; children = b'; depth = d' }
      with_parts n a a' b b' d d' parents children depths = rw (parents, children, depths) refl

  -- what follows for each node of the trees, which are at their places in a page
  each-relabelled : (page : Contents) (P Q : List Label → Label → Type 0) → ((n : Label) (above : List Label) (below : Forest) → placed_of page n.id ≡ Some (record { label = n; above = above; below = below }) → P above n → Q (map new above) (new n)) →
      (f : Forest) (above : List Label) → AreAtPlaces page above f → EachNode P above f → EachNode Q (map new above) (relabelled id change f)
  each-relabelled page P Q follows End above known each = tt
  each-relabelled page P Q follows (Grow n below others) above known each =
      (follows n above below known.0 each.0, (each-relabelled page P Q follows below (n ∷ above) known.1.0 each.1.0, each-relabelled page P Q follows others above known.1.1 each.1.1))

  module _ (page : Contents) (valid : IsValid page) (keeps_kind : (n : Label) → (change n).kind ≡ n.kind) (few : box_count (relabelled id change page.tree) ≤ 262144) (few' : vertex_count (relabelled id change page.tree) ≤ 1048576) (suits : (p : Placed) → placed_of page id ≡ Some p → IsSuited p.above p.label → IsSuited p.above (change p.label)) where
    abbrev new_page : Contents
    new_page = record page { tree = relabelled id change page.tree }

    given-new : (n : Label) (above : List Label) (below : Forest) → placed_of page n.id ≡ Some (record { label = n; above = above; below = below }) → IsGiven page.next above n → IsGiven page.next (map new above) (new n)
    given-new n above below found given = record { positive = rw (id-new n) given.positive; below_next = rw (id-new n) given.below_next }

    suited-new : (n : Label) (above : List Label) (below : Forest) → placed_of page n.id ≡ Some (record { label = n; above = above; below = below }) → IsSuited above n → IsSuited (map new above) (new n)
    suited-new n above below found suited = elsewhere above (elim (cases_eq n.id id) [
      | inl here ↦
          let new_is : new n ≡ change n = grind (arith, nat_tests) in
          rw new_is (suits _ (ap (placed_of page) (sym here) ∙ found) suited)
      | inr other ↦
          let new_is : new n ≡ n = grind (arith, nat_tests) in
          rw new_is suited
    ])
      where
        kind-new : (x : Label) → (new x).kind ≡ x.kind
        kind-new x = by_test (x.id == id)
          where
            by_test : (b : Bool) → (if b then change x else x).kind ≡ x.kind
            by_test true = keeps_kind x
            by_test false = refl

        no_parent-new : (xs : List Label) → has_no_parent (map new xs) ≡ has_no_parent xs
        no_parent-new [] = refl
        no_parent-new (x ∷ xs) = refl

        kind_suits-new : (xs : List Label) (kind : Kind) → kind_suits (map new xs) kind ≡ kind_suits xs kind
        kind_suits-new [] kind = refl
        kind_suits-new (x ∷ xs) kind = rw (kind-new x, no_parent-new xs) refl

        elsewhere : (xs : List Label) {m : Label} → IsSuited xs m → IsSuited (map new xs) m
        elsewhere xs {m} s = record {
          kind = kind_suits-new xs m.kind ∙ s.kind;
          boxes = ap (λ b. box_count_suits b m.kind (length m.boxes)) (no_parent-new xs) ∙ s.boxes;
          style = s.style;
          style_in_range = s.style_in_range;
          box_count = s.box_count;
          in_range = s.in_range;
          formed = s.formed;
          anchor = s.anchor;
          scroll = s.scroll;
        }

    valid-relabelled : IsValid new_page
    valid-relabelled = record {
      one_tree = rw (roots-relabelled page.tree) valid.one_tree;
      distinct = λ k. rw (occurrences-relabelled page.tree k) (valid.distinct k);
      given = each-relabelled page (IsGiven page.next) (IsGiven page.next) given-new page.tree [] (page-at_places page valid) valid.given;
      suited = each-relabelled page IsSuited IsSuited suited-new page.tree [] (page-at_places page valid) valid.suited;
      depth = rw (height-relabelled page.tree) valid.depth;
      nodes = rw (node_count-relabelled page.tree) valid.nodes;
      boxes = few;
      vertices = few';
      next = valid.next;
      viewport = valid.viewport;
    }

    -- a node of the page after the change
    node_of-relabelled : (k : ℕ) → node_of new_page k ≡ option_map (with_label new) (node_of page k)
    node_of-relabelled k = ap (option_map node_at) (placed_in-relabelled page.tree [] k) ∙ by_place (placed_of page k)
      where
        by_place : (o : Option Placed) → option_map node_at (option_map new_place o) ≡ option_map (with_label new) (option_map node_at o)
        by_place None = refl
        by_place (Some p) = ap Some (node_at-new p)

    -- nodes that are looked up as those of the page, with that one changed
    pub kept-relabelled : (first : Option ℕ) (look look' : ℕ → Option Node) (make : Node → Node) → IsKept look first page →
        option_map make (node_of page id) ≡ option_map (with_label change) (node_of page id) →
        ((k : ℕ) → look' k ≡ changed_at id make k (look k)) → IsKept look' first new_page
    kept-relabelled first look look' make kept makes known = record {
      valid = valid-relabelled;
      looked_up = λ k. known k ∙ ap (changed_at id make k) (kept.looked_up k) ∙ relabelled_at k ∙ sym (node_of-relabelled k);
      root = kept.root ∙ sym (roots-relabelled page.tree);
    }
      where
        new-here : (m : Node) → m.id ≡ id → with_label change m ≡ with_label new m
        new-here m here = let is_changed : (m.id == id) ≡ true = grind (arith, nat_tests) in ap (λ b. with_label (λ l. if b then change l else l) m) (sym is_changed)

        new-other : (m : Node) → m.id ≢ id → m ≡ with_label new m
        new-other m other = let is_other : (m.id == id) ≡ false = grind (arith, nat_tests) in ap (λ b. with_label (λ l. if b then change l else l) m) (sym is_other)

        relabelled_at : (k : ℕ) → changed_at id make k (node_of page k) ≡ option_map (with_label new) (node_of page k)
        relabelled_at k = elim (cases_eq id k) [
          | inl here ↦ changed-here id make k (node_of page k) here ∙ ap (λ i. option_map make (node_of page i)) (sym here) ∙ makes ∙ here_seen (node_of page id) refl ∙ ap (λ i. option_map (with_label new) (node_of page i)) here
          | inr apart ↦ changed-other id make k (node_of page k) apart ∙ other_seen apart (node_of page k) refl
        ]
          where
            here_seen : (o : Option Node) → node_of page id ≡ o → option_map (with_label change) o ≡ option_map (with_label new) o
            here_seen None seen = refl
            here_seen (Some m) seen = ap Some (new-here m (id-node_of page id m seen))

            other_seen : id ≢ k → (o : Option Node) → node_of page k ≡ o → o ≡ option_map (with_label new) o
            other_seen apart None seen = refl
            other_seen apart (Some m) seen = ap Some (new-other m (λ same. apart (sym same ∙ id-node_of page k m seen)))

-- a clamped scroll is between 0 and the greatest one
pub scrolled-clamped : (max scroll : Spot) → IsMaxInRange max → IsScrolled (clamped_to max scroll) max
scrolled-clamped max scroll within = record {
  greatest = within;
  x = (omega (arith, ints, clamps), omega (arith, ints, clamps, within.x.0));
  y = (omega (arith, ints, clamps), omega (arith, ints, clamps, within.y.0));
}

-- a place without a fault
pub record MayPlace (page : Contents) (id : ℕ) (anchor : Spot) (boxes : List Piece) (max : Spot) : Type 0 where
  pub there : has_id page id ≡ true
  pub suits : kind_may_be_placed page id (length boxes) ≡ true
  pub few : length boxes ≤ 1024
  pub total : box_count (relabelled id (laid_out anchor boxes max) page.tree) ≤ 262144

pub may_place : (page : Contents) (id : ℕ) (anchor : Spot) (boxes : List Piece) (max : Spot) → first_fault page (Place id anchor boxes max) ≡ None → MayPlace page id anchor boxes max
may_place page id anchor boxes max none =
    let tests = none_holds (faults_of page (Place id anchor boxes max)) none in
    record {
      there = not_false (has_id page id) tests.0;
      suits = not_false (kind_may_be_placed page id (length boxes)) tests.1.0;
      few = grind (arith, nat_tests, tests.1.1.0);
      total = grind (arith, nat_tests, tests.1.1.0);
    }

-- a label that is laid out suits where one did that may be placed
suited-laid_out : (page : Contents) (id : ℕ) (anchor : Spot) (boxes : List Piece) (max : Spot) → IsPlaceInRange id anchor boxes max → MayPlace page id anchor boxes max → (q : Placed) → placed_of page id ≡ Some q → IsSuited q.above q.label → IsSuited q.above (laid_out anchor boxes max q.label)
suited-laid_out page id anchor boxes max range may q found suited = record {
  kind = suited.kind;
  boxes = (both_true _ _ (sym (ap (λ o. option_map_or (λ p. takes_place p.label.kind && box_count_suits (has_no_parent p.above) p.label.kind (length boxes)) o false) found) ∙ may.suits)).1;
  style = suited.style;
  style_in_range = suited.style_in_range;
  box_count = may.few;
  in_range = range.boxes_in_range;
  formed = suited.formed;
  anchor = range.anchor_in_range;
  scroll = scrolled-clamped max q.label.scroll range.max_in_range;
}

pub kept-placed : (page : Contents) (id : ℕ) (anchor : Spot) (boxes : List Piece) (max : Spot) (first : Option ℕ) (look look' : ℕ → Option Node) (make : Node → Node) → IsPlaceInRange id anchor boxes max → MayPlace page id anchor boxes max → IsKept look first page →
    option_map make (node_of page id) ≡ option_map (with_label (laid_out anchor boxes max)) (node_of page id) → ((k : ℕ) → look' k ≡ changed_at id make k (look k)) →
    IsKept look' first (record page { tree = relabelled id (laid_out anchor boxes max) page.tree })
kept-placed page id anchor boxes max first look look' make range may kept makes known =
    let few' : vertex_count (relabelled id (laid_out anchor boxes max) page.tree) ≤ 1048576 = omega (arith, total-relabelled-same (λ n. form_vertices n.form) id (laid_out anchor boxes max) (λ n. refl) page.tree, kept.valid.vertices) in
    kept-relabelled id (laid_out anchor boxes max) (λ n. refl) page kept.valid (λ n. refl) may.total few' (suited-laid_out page id anchor boxes max range may) first look look' make kept makes known

-- a planned resize: the nodes stay
pub planned-resize : (nodes : NodesState) (frame frame' : Frame) (w h : ℤ) (max : Spot) (edit : Edit) → IsCounted nodes frame.root frame.sums (state_of nodes frame).contents → IsPlanned (ResizeViewport w h max) edit (state_of nodes frame) →
    frame'.sums ≡ frame.sums → frame'.root ≡ frame.root → frame'.viewport ≡ resized w h max frame.viewport → frame'.next ≡ frame.next → Carries nodes frame' Untouched (state_of nodes frame) edit
planned-resize nodes frame frame' w' h' max' (Resize w h max) counted planned sums_is root_is viewport_is next_is =
    let page = (state_of nodes frame).contents in
    let plan = planned.plan_is in
    let range = planned.in_range in
    let after : Contents = record page { viewport = resized w h max page.viewport } in
    let kept = counted.kept in
    let valid : IsValid after = record {
      one_tree = kept.valid.one_tree;
      distinct = kept.valid.distinct;
      given = kept.valid.given;
      suited = kept.valid.suited;
      depth = kept.valid.depth;
      nodes = kept.valid.nodes;
      boxes = kept.valid.boxes;
      vertices = kept.valid.vertices;
      next = kept.valid.next;
      viewport = record { width = range.width; height = range.height; scroll = scrolled-clamped max page.viewport.scroll range.max_in_range };
    } in
    carries nodes frame' Untouched (state_of nodes frame) (Resize w h max)
    (rw root_is (record { valid = valid; looked_up = kept.looked_up; root = kept.root }))
    (record {
      count = counted.count;
      sums = sums_is ∙ counted.sums_are;
      viewport = viewport_is ∙ ap (λ x. resized x h' max' page.viewport) plan.width_is ∙ ap (λ x. resized w x max' page.viewport) plan.height_is ∙ ap (λ x. resized w h x page.viewport) plan.max_is;
      next = next_is;
      fits = counted.fits;
      placed = counted.placed;
    })
    (record {
      looked_up = λ k. refl;
      count = refl;
      can_go_back = tt;
      fits = omega (arith, counted.fits, counted.count);
      next = omega arith;
    })
    refl
planned-resize nodes frame frame' w' h' max' edit counted planned sums_is root_is viewport_is next_is = absurd planned.plan_is
