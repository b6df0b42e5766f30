-- What a walk over trees writes: the entry of each node that is laid out.
use Rattle.std.proofs.Common.{◌≡◌, ℕ, ◌+◌, ◌<◌, ◌≤◌, ◌==◌, List, [], ◌∷◌, length, get_or, Option, Some, None, Result, Ok, Err, Bool, true, false, is_some, IsTrue, if◌then◌else◌, refl, sym, ap, ◌∙◌, subst, inl, inr, arith}
use Rattle.std.specs.Prelude.{◌&&◌}
use Rattle.std.specs.Option.{option_map, option_map_or, option_and_then}
use Rattle.std.specs.Result.{IsErrAnd, IfErr}
use Rattle.std.proofs.lemmas.Bool.{cases_lt, cases_eq}
use Rattle.std.proofs.lemmas.Bool.Decides.{nat_tests}
use Rattle.box_tree.specs.declared.node.Node.{Node}
use Rattle.box_tree.specs.declared.viewport.Viewport.{Viewport}
use Rattle.box_tree.specs.Forest.{Label, Forest, End, Grow, node_count, occurrences, Placed, placed_in}
use Rattle.box_tree.specs.Contents.{Contents, node_of, placed_of, has_id, ancestors_of, ancestor_count, below_of, tree_of, IsValid}
use Rattle.box_tree.specs.Edited.{ancestors_below}
use Rattle.box_tree.specs.Kept.{label_of}
use Rattle.box_tree.proofs.ForestLemmas.{placed_in-head, placed_in-below, placed_in-others}
use Rattle.box_tree.proofs.PlacedLemmas.{trees_from, trees_from-all, IsChildAt, id-placed_in}
use Rattle.box_tree.proofs.SubtreeLemmas.{at_place, place, children_is, the_child, below_of-seen, tree_of-seen}
use Rattle.spaces.specs.declared.table.entry.Entry.{Entry}
use Rattle.spaces.specs.Around.{is_bounded_by, written, written_from}
use Rattle.spaces.specs.Bound.{is_bounded_at, are_bounded}
use Rattle.box_tree.specs.Containing.{standing_at}
use Rattle.spaces.specs.Spaces.{is_laid_out}
use Rattle.spaces.specs.Table.{entry_at, entry_placed, new_entry, is_bounded_from}
use Rattle.spaces.proofs.WalkLemmas.{and-false}

module _ (viewport : Viewport) where
  -- what a node with its ancestors makes of the entry of an id
  abbrev one : List Label → Label → ℕ → Option Entry → Option Entry
  one above n id before = if is_laid_out n.kind && n.id == id then Some (entry_at viewport (record { label = n; above = above })) else before

  one-other : (above : List Label) (n : Label) (id : ℕ) (before : Option Entry) → (n.id == id) ≡ false → one above n id before ≡ before
  one-other above n id before other =
      ap (λ (b : Bool). if is_laid_out n.kind && b then Some (entry_at viewport (record { label = n; above = above })) else before) other
      ∙ ap (λ (b : Bool). if b then Some (entry_at viewport (record { label = n; above = above })) else before) (and-false (is_laid_out n.kind))

  -- nothing where no node has the id
  written-absent : (f : Forest) (above : List Label) (id : ℕ) (before : Option Entry) → occurrences f id ≡ 0 → written viewport above f id before ≡ before
  written-absent End above id before none = refl
  written-absent (Grow n below others) above id before none =
      let other : (n.id == id) ≡ false = grind (arith, nat_tests) in
      ap (λ (o : Option Entry). written viewport above others id (written viewport (n ∷ above) below id o)) (one-other above n id before other)
      ∙ ap (written viewport above others id) (written-absent below (n ∷ above) id before (omega arith))
      ∙ written-absent others above id before (omega arith)

  -- its entry where one node has it
  pub written-once : (f : Forest) (above : List Label) (id : ℕ) → occurrences f id ≤ 1 → written viewport above f id None ≡ option_and_then (entry_placed viewport) (placed_in above f id)
  written-once End above id once = refl
  written-once (Grow n below others) above id once = elim (cases_eq n.id id) [
    | inl here ↦
        let same : (n.id == id) ≡ true = grind (arith, nat_tests) in
        ap (written viewport above others id) (written-absent below (n ∷ above) id (one above n id None) (grind (arith, nat_tests)))
        ∙ written-absent others above id (one above n id None) (grind (arith, nat_tests))
        ∙ ap (λ (b : Bool). if is_laid_out n.kind && b then Some (entry_at viewport (record { label = n; above = above })) else None) same
        ∙ and-one (is_laid_out n.kind) (entry_at viewport (record { label = n; above = above }))
        ∙ sym (ap (λ (k : ℕ). option_and_then (entry_placed viewport) (placed_in above (Grow n below others) k)) (sym here) ∙ ap (option_and_then (entry_placed viewport)) (placed_in-head n below others above))
    | inr other ↦
        let other' : (n.id == id) ≡ false = grind (arith, nat_tests) in
        ap (λ (o : Option Entry). written viewport above others id (written viewport (n ∷ above) below id o)) (one-other above n id None other')
        ∙ elim (cases_lt 0 (occurrences below id)) [
          | inl deeper ↦
              ap (written viewport above others id) (written-once below (n ∷ above) id (grind (arith, nat_tests)))
              ∙ written-absent others above id _ (grind (arith, nat_tests))
              ∙ sym (ap (option_and_then (entry_placed viewport)) (placed_in-below n below others above id other deeper))
          | inr few ↦
              ap (written viewport above others id) (written-absent below (n ∷ above) id None (omega (arith, few)))
              ∙ written-once others above id (grind (arith, nat_tests))
              ∙ sym (ap (option_and_then (entry_placed viewport)) (placed_in-others n below others above id other (omega (arith, few))))
        ]
  ]
    where
      and-one : (b : Bool) (e : Entry) → (if b && true then Some e else None) ≡ (if b then Some e else None)
      and-one true e = refl
      and-one false e = refl

-- a walk from the node of an id has come to the child of a number, and the change from `before` to `now`
pub record IsWalked (page : Contents) (id k : ℕ) (before now : List (ℕ × Entry)) : Type 0 where
  pub entries : (x : ℕ) → written page.viewport (ancestors_below page id) (trees_from k (below_of page id)) x (new_entry now x) ≡ written_from page id x (new_entry before x)
  pub count : length now + node_count (trees_from k (below_of page id)) ≤ length before + node_count (tree_of page id)
  pub bounded : are_bounded page.viewport (ancestors_below page id) (trees_from k (below_of page id)) ≡ is_bounded_from page id

-- and is at its end
pub record IsWalkedAll (page : Contents) (id : ℕ) (before now : List (ℕ × Entry)) : Type 0 where
  pub entries : (x : ℕ) → new_entry now x ≡ written_from page id x (new_entry before x)
  pub count : length now ≤ length before + node_count (tree_of page id)
  pub bounded : is_bounded_from page id ≡ true

module _ (page : Contents) (valid : IsValid page) (id : ℕ) (node : Node) (seen : node_of page id ≡ Some node) where
  abbrev here : Placed
  here = place page valid id node seen

  found : placed_of page id ≡ Some here
  found = (at_place page valid id node seen).found

  label-here : label_of node ≡ here.label
  label-here = ap label_of (sym (at_place page valid id node seen).node_is)

  id-here : here.label.id ≡ id
  id-here = id-placed_in page.tree [] id here found

  above-here : ancestors_of page id ≡ here.above
  above-here = ap (λ (o : Option Placed). option_map_or (λ p. p.above) o []) found

  ancestors-here : ancestors_below page id ≡ here.label ∷ here.above
  ancestors-here = ap (λ (o : Option Placed). option_map_or (λ p. p.label ∷ p.above) o []) found

  -- the trees of the children from a number on
  abbrev children : ℕ → Forest
  children k = trees_from k (below_of page id)

  children-here : (k : ℕ) → children k ≡ trees_from k here.below
  children-here k = ap (trees_from k) (below_of-seen page valid id node seen)

  -- the walk writes the entry of the node itself, and then goes through its children
  pub written-start : (x : ℕ) (before : Option Entry) (entry : Entry) → option_map (λ p. entry_at page.viewport (standing_at p)) (placed_of page id) ≡ Some entry →
      written page.viewport (ancestors_below page id) (children 0) x (if is_laid_out node.kind && id == x then Some entry else before) ≡ written_from page id x before
  written-start x before entry entry_is =
      ap (λ (o : Option Entry). written page.viewport (ancestors_below page id) (children 0) x (if is_laid_out node.kind && id == x then o else before)) (sym entry_is ∙ ap (option_map (λ p. entry_at page.viewport (standing_at p))) found)
      ∙ ap (λ (l : Label). written page.viewport (ancestors_below page id) (children 0) x (if is_laid_out l.kind && id == x then Some (entry_at page.viewport (standing_at here)) else before)) label-here
      ∙ ap (λ (k : ℕ). written page.viewport (ancestors_below page id) (children 0) x (if is_laid_out here.label.kind && k == x then Some (entry_at page.viewport (standing_at here)) else before)) (sym id-here)
      ∙ ap (λ (above : List Label). written page.viewport above (children 0) x (one page.viewport here.above here.label x before)) ancestors-here
      ∙ ap (λ (f : Forest). written page.viewport (here.label ∷ here.above) f x (one page.viewport here.above here.label x before)) (children-here 0)
      ∙ sym (ap (λ (above : List Label). written page.viewport above (tree_of page id) x before) above-here
      ∙ ap (λ (f : Forest). written page.viewport here.above f x before) (tree_of-seen page valid id node seen))

  pub bounded-start : is_bounded_by page id ≡ true → are_bounded page.viewport (ancestors_below page id) (children 0) ≡ is_bounded_from page id
  bounded-start own =
      ap (λ (above : List Label). are_bounded page.viewport above (children 0)) ancestors-here
      ∙ ap (are_bounded page.viewport (here.label ∷ here.above)) (children-here 0)
      ∙ sym (from-here ∙ ap (λ (b : Bool). b && (are_bounded page.viewport (here.label ∷ here.above) here.below && true)) (sym own-here ∙ own) ∙ and-true _)
    where
      own-here : is_bounded_by page id ≡ is_bounded_at page.viewport (standing_at here)
      own-here = ap (λ (o : Option Placed). option_map_or (λ p. is_bounded_at page.viewport (standing_at p)) o true) found

      from-here : is_bounded_from page id ≡ are_bounded page.viewport here.above (Grow here.label here.below End)
      from-here = ap (λ (o : Option Placed). option_map_or (λ p. are_bounded page.viewport p.above (Grow p.label p.below End)) o true) found

      and-true : (b : Bool) → (b && true) ≡ b
      and-true true = refl
      and-true false = refl

  pub count-start : 1 + node_count (children 0) ≡ node_count (tree_of page id)
  count-start = rw (below_of-seen page valid id node seen, tree_of-seen page valid id node seen) (omega arith)

  -- a child with all below it, and then those after it
  module _ (k child d : ℕ) (in_list : k < length node.children) (is : get_or node.children k d ≡ child) where
    abbrev child_is : IsChildAt page here k child
    child_is = the_child page valid id node seen k child d in_list is

    pub child-there : IsTrue (has_id page child)
    child-there = ap is_some child_is.found

    pub child-above : ancestors_of page child ≡ ancestors_below page id
    child-above = ap (λ (o : Option Placed). option_map_or (λ p. p.above) o []) child_is.found ∙ sym ancestors-here

    pub child-deeper : ancestor_count page child ≡ 1 + ancestor_count page id
    child-deeper =
        let count = ap (λ (o : Option Placed). length (option_map_or (λ p. p.above) o [])) child_is.found in
        let own = ap (λ (o : Option Placed). length (option_map_or (λ p. p.above) o [])) found in
        omega (arith, count, own)

    tree-child : tree_of page child ≡ Grow child_is.label child_is.below End
    tree-child = ap (λ (o : Option Placed). option_map_or (λ p. Grow p.label p.below End) o End) child_is.found

    children-step : children k ≡ Grow child_is.label child_is.below (children (k + 1))
    children-step = children-here k ∙ child_is.trees_are ∙ ap (Grow child_is.label child_is.below) (sym (children-here (k + 1)))

    pub written-step : (x : ℕ) (before : Option Entry) → written page.viewport (ancestors_below page id) (children k) x before ≡ written page.viewport (ancestors_below page id) (children (k + 1)) x (written_from page child x before)
    written-step x before =
        ap (λ (f : Forest). written page.viewport (ancestors_below page id) f x before) children-step
        ∙ ap (λ (above : List Label). written page.viewport (ancestors_below page id) (children (k + 1)) x (written page.viewport above (Grow child_is.label child_is.below End) x before)) (sym child-above)
        ∙ ap (λ (f : Forest). written page.viewport (ancestors_below page id) (children (k + 1)) x (written page.viewport (ancestors_of page child) f x before)) (sym tree-child)

    bounded-child : is_bounded_from page child ≡ are_bounded page.viewport (ancestors_below page id) (Grow child_is.label child_is.below End)
    bounded-child =
        ap (λ (o : Option Placed). option_map_or (λ p. are_bounded page.viewport p.above (Grow p.label p.below End)) o true) child_is.found
        ∙ ap (λ (above : List Label). are_bounded page.viewport above (Grow child_is.label child_is.below End)) (sym ancestors-here)

    pub bounded-step : are_bounded page.viewport (ancestors_below page id) (children k) ≡ (is_bounded_from page child && are_bounded page.viewport (ancestors_below page id) (children (k + 1)))
    bounded-step =
        ap (are_bounded page.viewport (ancestors_below page id)) children-step
        ∙ regroup (is_bounded_at page.viewport (record { label = child_is.label; above = ancestors_below page id })) (are_bounded page.viewport (child_is.label ∷ ancestors_below page id) child_is.below) (are_bounded page.viewport (ancestors_below page id) (children (k + 1)))
        ∙ ap (λ (b : Bool). b && are_bounded page.viewport (ancestors_below page id) (children (k + 1))) (sym bounded-child)
      where
        regroup : (a b c : Bool) → (a && (b && c)) ≡ ((a && (b && true)) && c)
        regroup true true c = refl
        regroup true false c = refl
        regroup false b c = refl

    pub count-step : node_count (children k) ≡ node_count (tree_of page child) + node_count (children (k + 1))
    count-step =
        let step = ap node_count children-step in
        let tree = ap node_count tree-child in
        omega (arith, step, tree)

  -- no child is left after the last
  pub children-end : (k : ℕ) → length node.children ≤ k → children k ≡ End
  children-end k all = children-here k ∙ trees_from-all here.below k (subst (λ (ids : List ℕ). length ids ≤ k) (children_is page valid id node seen) all)

  pub written-end : (k : ℕ) → length node.children ≤ k → (x : ℕ) (before : Option Entry) → written page.viewport (ancestors_below page id) (children k) x before ≡ before
  written-end k all x before = ap (λ (f : Forest). written page.viewport (ancestors_below page id) f x before) (children-end k all)

  pub bounded-end : (k : ℕ) → length node.children ≤ k → are_bounded page.viewport (ancestors_below page id) (children k) ≡ true
  bounded-end k all = ap (are_bounded page.viewport (ancestors_below page id)) (children-end k all)

  -- the walk step by step
  module _ (before now : List (ℕ × Entry)) where
    pub walked-start : (entry : Entry) → option_map (λ p. entry_at page.viewport (standing_at p)) (placed_of page id) ≡ Some entry → is_bounded_by page id ≡ true →
        ((x : ℕ) → new_entry now x ≡ (if is_laid_out node.kind && id == x then Some entry else new_entry before x)) → length now ≤ length before + 1 → IsWalked page id 0 before now
    walked-start entry entry_is own put few = record {
      entries = λ x. ap (written page.viewport (ancestors_below page id) (children 0) x) (put x) ∙ written-start x (new_entry before x) entry entry_is;
      count = omega (arith, few, count-start);
      bounded = bounded-start own;
    }

    pub walked-end : (k : ℕ) → IsWalked page id k before now → length node.children ≤ k → IsWalkedAll page id before now
    walked-end k walked all = record {
      entries = λ x. sym (written-end k all x (new_entry now x)) ∙ walked.entries x;
      count = let walked' = walked.count in omega (arith, walked');
      bounded = sym walked.bounded ∙ bounded-end k all;
    }

    -- a node without children
    pub walked-leaf : (entry : Entry) → option_map (λ p. entry_at page.viewport (standing_at p)) (placed_of page id) ≡ Some entry → is_bounded_by page id ≡ true →
        ((x : ℕ) → new_entry now x ≡ (if is_laid_out node.kind && id == x then Some entry else new_entry before x)) → length now ≤ length before + 1 → (length node.children == 0) ≡ true → IsWalkedAll page id before now
    walked-leaf entry entry_is own put few none = walked-end 0 (walked-start entry entry_is own put few) (grind (arith, nat_tests))

    module _ (k child d : ℕ) (in_list : k < length node.children) (is : get_or node.children k d ≡ child) (walked : IsWalked page id k before now) where
      pub walked-step : (after : List (ℕ × Entry)) → ((x : ℕ) → new_entry after x ≡ written_from page child x (new_entry now x)) → length after ≤ length now + node_count (tree_of page child) → is_bounded_from page child ≡ true →
          IsWalked page id (k + 1) before after
      walked-step after put few own = record {
        entries = λ x. ap (written page.viewport (ancestors_below page id) (children (k + 1)) x) (put x) ∙ sym (written-step k child d in_list is x (new_entry now x)) ∙ walked.entries x;
        count = let walked' = walked.count in omega (arith, few, walked', count-step k child d in_list is);
        bounded = sym (bounded-step k child d in_list is ∙ ap (λ (b : Bool). b && are_bounded page.viewport (ancestors_below page id) (children (k + 1))) own) ∙ walked.bounded;
      }

      pub walked-beyond : is_bounded_from page child ≡ false → is_bounded_from page id ≡ false
      walked-beyond own = sym walked.bounded ∙ bounded-step k child d in_list is ∙ ap (λ (b : Bool). b && are_bounded page.viewport (ancestors_below page id) (children (k + 1))) own

-- an error of which something weaker is known
pub if_err-from_and : {T E : Type 0} (r : Result T E) (P Q : E → Type 0) → IsErrAnd r P → ((why : E) → P why → Q why) → IfErr r Q
if_err-from_and (Ok value) P Q is weaker = absurd is
if_err-from_and (Err why) P Q is weaker = weaker why is
