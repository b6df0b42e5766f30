-- The page with a node more: what no fault means, that it is valid, and that it is what the nodes then mean.
use Rattle.std.proofs.Common.{◌≡◌, ◌≢◌, ◌⊎◌, ℕ, ◌+◌, ◌<◌, ◌≤◌, ◌==◌, List, [], ◌∷◌, length, Option, Some, None, is_some, true, false, Bool, if◌then◌else◌, not, refl, sym, ap, ◌∙◌, subst, inl, inr, arith}
use Rattle.std.specs.Prelude.{◌&&◌, ◌||◌}
use Rattle.std.specs.Option.{option_or, option_map, option_map_or, option_to_list}
use Rattle.std.proofs.lemmas.Bool.{cases_lt, cases_eq}
use Rattle.std.proofs.lemmas.Bool.Decides.{nat_tests}
use Rattle.computed_style.specs.declared.style.Style.{Style}
use Rattle.box_tree.specs.declared.kind.Kind.{Kind}
use Rattle.box_tree.specs.declared.piece.Piece.{Piece}
use Rattle.box_tree.specs.declared.node.Node.{Node}
use Rattle.box_tree.specs.declared.edit.Edit.TheVariants.{Add}
use Rattle.box_tree.specs.declared.edit.EditFault.{EditFault}
use Rattle.box_tree.specs.Forest.{Label, Forest, End, Grow, roots_of, node_count, occurrences}
use Rattle.box_tree.specs.Contents.{Contents, node_at, node_of, has_id, depth_below, new_label, IsSuited, IsGiven, IsValid}
use Rattle.box_tree.specs.Suits.{has_no_parent, kind_suits, box_count_suits, style_suits}
use Rattle.box_tree.specs.Forms.{form_vertices}
use Rattle.box_tree.specs.Totals.{box_count}
use Rattle.box_tree.specs.Edited.{IsAddInRange, first_of, faults_of, first_fault, put_below, ancestors_below, child_count}
use Rattle.box_tree.specs.Kept.{IsKept}
use Rattle.box_tree.specs.Nodes.{changed_at}
use Rattle.box_tree.specs.Planned.{with_child_at}
use Rattle.box_tree.proofs.ForestLemmas.{single, node_in, with_child, placed_in-absent, roots-put_below, occurrences-put_below, node_count-put_below, node_in-put_below, node_in-absent, or-none}
use Rattle.box_tree.proofs.KeptPages.{unscrolled}
use Rattle.box_tree.proofs.KeptLemmas.{changed-none, child_put}
use Rattle.box_tree.proofs.PlacedLemmas.{id-node_of}
use Rattle.box_tree.proofs.TotalLemmas.{total-put_below}
use Rattle.box_tree.proofs.PutLemmas.{given-absent, each-put_below, each-map, height-put_below}
use mathlib.Core.Bool.{false≢true}

-- no test of the table holds
abbrev pub NoneHolds : List (Bool × EditFault) → Type 0
NoneHolds [] = Unit {0}
NoneHolds ((holds, why) ∷ others) = (holds ≡ false) × NoneHolds others

pub none_holds : (tests : List (Bool × EditFault)) → first_of tests ≡ None → NoneHolds tests
none_holds [] none = tt
none_holds ((false, why) ∷ others) none = (refl, none_holds others none)
none_holds ((true, why) ∷ others) none = absurd cc

-- an add without a fault
pub record MayAdd (page : Contents) (parent at : ℕ) (kind : Kind) (style : Style) (boxes : List Piece) : Type 0 where
  pub present : (parent ≡ 0) ⊎ (has_id page parent ≡ true)
  pub root : parent ≡ 0 → node_count page.tree ≡ 0
  pub kind_fits : kind_suits (ancestors_below page parent) kind ≡ true
  pub style_fits : style_suits kind style ≡ true
  pub count_fits : box_count_suits (has_no_parent (ancestors_below page parent)) kind (length boxes) ≡ true
  pub place : at ≤ child_count page parent
  pub depth : depth_below (ancestors_below page parent) ≤ 256
  pub nodes : node_count page.tree < 65536
  pub next : page.next ≤ 1048576
  pub few : length boxes ≤ 1024
  pub total : length boxes + box_count page.tree ≤ 262144

-- two or three tests hold where they hold together
pub both_true : (a b : Bool) → (a && b) ≡ true → (a ≡ true) × (b ≡ true)
both_true true b is = (refl, is)
both_true false b is = absurd cc

pub not_false : (b : Bool) → not b ≡ false → b ≡ true
not_false true is = refl
not_false false is = absurd cc

pub may_add : (page : Contents) (parent at : ℕ) (kind : Kind) (style : Style) (boxes : List Piece) → first_fault page (Add parent at kind boxes style) ≡ None → MayAdd page parent at kind style boxes
may_add page parent at kind style boxes none =
    let tests = none_holds (faults_of page (Add parent at kind boxes style)) none in
    let suits = both_true _ _ (not_false _ tests.1.1.0) in
    let suits' = both_true _ _ suits.1 in
    record {
      present = elim (cases_eq parent 0) [
        | inl none_named ↦ inl none_named
        | inr other ↦ inr (present_in (has_id page parent) tests.0 other)
      ];
      root = λ is. grind (arith, nat_tests, tests.1.0);
      kind_fits = suits.0;
      style_fits = suits'.0;
      count_fits = suits'.1;
      place = grind (arith, nat_tests, tests.1.1.1.0);
      depth = grind (arith, nat_tests, tests.1.1.1.1.0);
      nodes = grind (arith, nat_tests, tests.1.1.1.1.1.0);
      next = grind (arith, nat_tests, tests.1.1.1.1.1.0);
      few = grind (arith, nat_tests, tests.1.1.1.1.1.0);
      total = grind (arith, nat_tests, tests.1.1.1.1.1.0);
    }
  where
    present_in : (has : Bool) → not (parent == 0 || has) ≡ false → parent ≢ 0 → has ≡ true
    present_in true is other = refl
    present_in false is other = absurd (grind (arith, nat_tests))

-- an id that is in a valid page stands there once
pub once_there : (page : Contents) (id : ℕ) → IsValid page → has_id page id ≡ true → occurrences page.tree id ≡ 1
once_there page id valid there = elim (cases_lt 0 (occurrences page.tree id)) [
  | inl some ↦ omega (arith, valid.distinct id)
  | inr few ↦ absurd (false≢true (ap is_some (sym (placed_in-absent page.tree [] id (omega arith))) ∙ there))
]

-- nothing is below the node 0
pub ancestors_below-none : (page : Contents) → IsValid page → ancestors_below page 0 ≡ []
ancestors_below-none page valid = ap (λ p. option_map_or (λ q. q.label ∷ q.above) p []) (placed_in-absent page.tree [] 0 (given-absent page.tree [] page.next 0 valid.given (inl refl)))

module _ (page : Contents) (valid : IsValid page) (parent at : ℕ) (kind : Kind) (style : Style) (boxes : List Piece) (in_range : IsAddInRange boxes style) (may : MayAdd page parent at kind style boxes) where
  abbrev label : Label
  label = new_label page.next kind style boxes

  -- the new id was not given yet
  new_absent : occurrences page.tree page.next ≡ 0
  new_absent = given-absent page.tree [] page.next page.next valid.given (inr (omega arith))

  new_given : (above : List Label) → IsGiven (page.next + 1) above label
  new_given above = record { positive = valid.next.0; below_next = omega arith }

  new_suited : IsSuited (ancestors_below page parent) label
  new_suited = record {
    kind = may.kind_fits;
    boxes = may.count_fits;
    style = may.style_fits;
    style_in_range = in_range.style_in_range;
    box_count = may.few;
    in_range = in_range.boxes_in_range;
    formed = record { suits = refl; in_range = tt; vertices = omega arith };
    anchor = record { x = (omega arith, omega arith); y = (omega arith, omega arith) };
    scroll = unscrolled;
  }

  -- as the root
  valid-root : parent ≡ 0 → IsValid (record page { tree = single label End; next = page.next + 1 })
  valid-root none_named = record {
    one_tree = omega arith;
    distinct = λ id. grind (arith, nat_tests);
    given = (new_given [], (tt, tt));
    suited = (subst (λ above. IsSuited above label) (ap (ancestors_below page) none_named ∙ ancestors_below-none page valid) new_suited, (tt, tt));
    depth = omega arith;
    nodes = omega arith;
    boxes = omega (arith, may.total);
    vertices = omega arith;
    next = (omega arith, omega (arith, may.next));
    viewport = valid.viewport;
  }

  -- as a child
  valid-below : has_id page parent ≡ true → IsValid (record page { tree = put_below parent at label End page.tree; next = page.next + 1 })
  valid-below there =
      let once = once_there page parent valid there in
      record {
        one_tree = rw (roots-put_below page.tree parent at label End) valid.one_tree;
        distinct = λ id. rw (occurrences-put_below page.tree parent at label End id once) (grind (arith, nat_tests, new_absent, valid.distinct id));
        given = each-put_below (IsGiven (page.next + 1)) page.tree [] parent at label End once (each-map (IsGiven page.next) (IsGiven (page.next + 1)) (λ above n given. record { positive = given.positive; below_next = omega (arith, given.below_next) }) page.tree [] valid.given) (new_given _, (tt, tt));
        suited = each-put_below IsSuited page.tree [] parent at label End once valid.suited (new_suited, (tt, tt));
        depth = omega (arith, height-put_below page.tree [] parent at label End 256 once (omega (arith, valid.depth)) (omega (arith, may.depth)));
        nodes = rw (node_count-put_below page.tree parent at label End once) (omega (arith, may.nodes));
        boxes = rw (total-put_below (λ n. length n.boxes) page.tree parent at label End once) (omega (arith, may.total));
        vertices = rw (total-put_below (λ n. form_vertices n.form) page.tree parent at label End once) (omega (arith, valid.vertices));
        next = (omega arith, omega (arith, may.next));
        viewport = valid.viewport;
      }

  -- the new node as a reader sees it
  abbrev pub added_node : Node
  added_node = node_at (record { label = label; above = ancestors_below page parent; below = End })

  -- looking the new node up in its tree
  node_in-new : (above : List Label) (id : ℕ) → node_in above (single label End) id ≡ (if page.next == id then Some (node_at (record { label = label; above = above; below = End })) else None)
  node_in-new above id = grind (arith, nat_tests)

  -- nodes that are looked up as those of the page, with the new one, which is a child of its parent
  module _ (look new : ℕ → Option Node) (looked_up : (k : ℕ) → look k ≡ node_of page k)
      (known : (k : ℕ) → new k ≡ (if page.next == k then Some added_node else changed_at parent (with_child_at at page.next) k (look k))) where
    -- as the root
    pub kept-root : parent ≡ 0 → IsKept new (Some page.next) (record page { tree = single label End; next = page.next + 1 })
    kept-root none_named = record {
      valid = valid-root none_named;
      looked_up = λ id.
          known id ∙ ap (λ o. if page.next == id then Some added_node else changed_at parent (with_child_at at page.next) id o) (looked_up id ∙ node_in-absent page.tree [] id (nothing page.tree id (may.root none_named)))
          ∙ ap (λ o. if page.next == id then Some added_node else o) (changed-none parent (with_child_at at page.next) id)
          ∙ ap (λ above. if page.next == id then Some (node_at (record { label = label; above = above; below = End })) else None) (ap (ancestors_below page) none_named ∙ ancestors_below-none page valid)
          ∙ sym (node_in-new [] id);
      root = refl;
    }
      where
        nothing : (f : Forest) (id : ℕ) → node_count f ≡ 0 → occurrences f id ≡ 0
        nothing End id none = refl
        nothing (Grow n below others) id none = absurd (omega arith)

    -- as a child
    pub kept-below : has_id page parent ≡ true → (first : Option ℕ) → option_to_list first ≡ roots_of page.tree → IsKept new first (record page { tree = put_below parent at label End page.tree; next = page.next + 1 })
    kept-below there first root = record {
      valid = valid-below there;
      looked_up = λ id.
          known id ∙ ap (λ o. if page.next == id then Some added_node else changed_at parent (with_child_at at page.next) id o) (looked_up id)
          ∙ in_form id
          ∙ ap (option_or (option_map (with_child parent at page.next) (node_of page id))) (sym (node_in-new (ancestors_below page parent) id))
          ∙ sym (node_in-put_below page.tree [] parent at label End id (once_there page parent valid there) may.place (grind (arith, nat_tests, new_absent, valid.distinct id)));
      root = root ∙ sym (roots-put_below page.tree parent at label End);
    }
      where
        in_form : (id : ℕ) → (if page.next == id then Some added_node else changed_at parent (with_child_at at page.next) id (node_of page id)) ≡ option_or (option_map (with_child parent at page.next) (node_of page id)) (if page.next == id then Some added_node else None)
        in_form id = elim (cases_eq page.next id) [
          | inl here ↦
              let is : (page.next == id) ≡ true = grind (arith, nat_tests) in
              let unseen : node_of page id ≡ None = ap (node_of page) (sym here) ∙ node_in-absent page.tree [] page.next new_absent in
              rw (is, unseen) refl
          | inr other ↦
              let is : (page.next == id) ≡ false = grind (arith, nat_tests) in
              rw (is, or-none (option_map (with_child parent at page.next) (node_of page id)))
              (child_put parent at page.next id (node_of page id) (λ n seen. id-node_of page id n seen))
        ]
