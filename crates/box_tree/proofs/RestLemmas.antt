-- An edit of a node leaves the trees without that node as they are, and so the place of each node that stands outside of it.
use Rattle.std.proofs.Common.{◌≡◌, ℕ, zero, suc, ◌<◌, ◌≤◌, ◌==◌, List, [], ◌∷◌, Option, Some, None, IfSome, IsSomeAnd, is_some, Bool, true, false, if◌then◌else◌, refl, sym, ap, ◌∙◌, subst, inl, inr, arith}
use Rattle.std.specs.Prelude.{nat_lt}
use Rattle.std.specs.List.{AllByRecursion}
use Rattle.std.specs.Option.{option_map, option_map_or}
use Rattle.std.proofs.lemmas.Bool.{cases_lt, cases_eq, false≢true}
use Rattle.std.proofs.lemmas.Bool.Decides.{nat_tests}
use Rattle.computed_style.specs.declared.style.Style.{Style}
use Rattle.box_tree.specs.declared.edit.Edit.{Edit}
use Rattle.box_tree.specs.declared.edit.Edit.TheVariants.{Add, Remove, Move, Place, Restyle, Reshape, Scroll, Resize, ScrollView}
use Rattle.box_tree.specs.declared.kind.Kind.{Kind}
use Rattle.box_tree.specs.declared.piece.Piece.{Piece}
use Rattle.box_tree.specs.Forest.{Label, Forest, End, Grow, node_count, occurrences, Placed, placed_in}
use Rattle.box_tree.specs.Contents.{Contents, placed_of, tree_of, has_id, new_label, IsValid}
use Rattle.box_tree.specs.Containing.{Standing, standing_at}
use Rattle.box_tree.specs.Edited.{put_in, put_below, planted, taken_out, relabelled, laid_out, restyled, reshaped, scrolled_node, edited}
use Rattle.box_tree.specs.Frame.{edited_node, IsFaultless, StandsApart, IsOutside}
use Rattle.box_tree.proofs.AddLemmas.{MayAdd, may_add, once_there}
use Rattle.box_tree.proofs.ForestLemmas.{single, placed_in-absent, placed_in-present, occurrences-put_below}
use Rattle.box_tree.proofs.MoveLemmas.{may_move}
use Rattle.box_tree.proofs.PlaceLemmas.{occurrences-relabelled}
use Rattle.box_tree.proofs.PlacedLemmas.{id-placed_in}
use Rattle.box_tree.proofs.PlanLemmas.{planted-root, planted-below}
use Rattle.box_tree.proofs.PutLemmas.{given-absent}
use Rattle.box_tree.proofs.SubtreeLemmas.{Head, Deeper, Beside, found_in, is_among-ids_in}
use Rattle.box_tree.proofs.TakenLemmas.{taken_out-head, taken_out-other, occurrences-taken_out, place_without, placed_in-taken_out, occurrences-parted}

-- trees at whose head a node goes or stays, each part equal
same_rest : (goes : Bool) (first : Label) (firsts firsts' others others' : Forest) → firsts ≡ firsts' → others ≡ others' → (if goes then others else Grow first firsts others) ≡ (if goes then others' else Grow first firsts' others')
same_rest goes first firsts firsts' others others' below beside = rw (below, beside) refl

-- without a tree that was put in
taken_out-put_in : (f : Forest) (at : ℕ) (n : Label) (below : Forest) (id : ℕ) → n.id ≡ id → taken_out id (put_in at n below f) ≡ taken_out id f
taken_out-put_in f zero n below id same = taken_out-head n below f id same
taken_out-put_in End (suc at) n below id same = taken_out-head n below End id same
taken_out-put_in (Grow first firsts others) (suc at) n below id same =
    same_rest (first.id == id) first _ _ _ _ refl (taken_out-put_in others at n below id same)

taken_out-put_below : (f : Forest) (parent at : ℕ) (n : Label) (below : Forest) (id : ℕ) → n.id ≡ id → taken_out id (put_below parent at n below f) ≡ taken_out id f
taken_out-put_below End parent at n below id same = refl
taken_out-put_below (Grow first firsts others) parent at n below id same =
    by_test (first.id == parent) (taken_out-put_below firsts parent at n below id same) (taken_out-put_below others parent at n below id same)
  where
    by_test : (here : Bool) → taken_out id (put_below parent at n below firsts) ≡ taken_out id firsts → taken_out id (put_below parent at n below others) ≡ taken_out id others →
        taken_out id (if here then Grow first (put_in at n below firsts) others else Grow first (put_below parent at n below firsts) (put_below parent at n below others)) ≡ taken_out id (Grow first firsts others)
    by_test true deeper beside = same_rest (first.id == id) first _ _ _ _ (taken_out-put_in firsts at n below id same) refl
    by_test false deeper beside = same_rest (first.id == id) first _ _ _ _ deeper beside

-- without a node that has another label
taken_out-relabelled : (id : ℕ) (change : Label → Label) → ((n : Label) → (change n).id ≡ n.id) → (f : Forest) → taken_out id (relabelled id change f) ≡ taken_out id f
taken_out-relabelled id change keeps End = refl
taken_out-relabelled id change keeps (Grow n below others) =
    by_test (n.id == id) refl (taken_out-relabelled id change keeps below) (taken_out-relabelled id change keeps others)
  where
    by_test : (here : Bool) → (n.id == id) ≡ here → taken_out id (relabelled id change below) ≡ taken_out id below → taken_out id (relabelled id change others) ≡ taken_out id others →
        taken_out id (Grow (if here then change n else n) (relabelled id change below) (relabelled id change others)) ≡ taken_out id (Grow n below others)
    by_test true is deeper beside =
        let same : n.id ≡ id = grind (arith, nat_tests) in
        taken_out-head (change n) (relabelled id change below) (relabelled id change others) id (keeps n ∙ same) ∙ beside ∙ sym (taken_out-head n below others id same)
    by_test false is deeper beside = same_rest (n.id == id) n _ _ _ _ deeper beside

-- without a node that is gone already
taken_out-twice : (f : Forest) (id : ℕ) → taken_out id (taken_out id f) ≡ taken_out id f
taken_out-twice End id = refl
taken_out-twice (Grow first firsts others) id = elim (cases_eq first.id id) [
  | inl here ↦
      let is = taken_out-head first firsts others id here in
      ap (taken_out id) is ∙ taken_out-twice others id ∙ sym is
  | inr other ↦
      let is = taken_out-other first firsts others id other in
      ap (taken_out id) is
      ∙ taken_out-other first (taken_out id firsts) (taken_out id others) id other
      ∙ same_rest false first _ _ _ _ (taken_out-twice firsts id) (taken_out-twice others id)
      ∙ sym is
]

-- what a page that an edit of a node leaves keeps: the trees without the node, and the viewport; no id stands twice in either
-- page
pub record KeepsRest (page after : Contents) (changed : ℕ) : Type 0 where
  pub rest : taken_out changed after.tree ≡ taken_out changed page.tree
  pub viewport : after.viewport ≡ page.viewport
  pub distinct : (k : ℕ) → occurrences page.tree k ≤ 1
  pub distinct_after : (k : ℕ) → occurrences after.tree k ≤ 1

module _ (page : Contents) (valid : IsValid page) where
  -- a node with another label
  keeps-relabelled : (id : ℕ) (change : Label → Label) → ((n : Label) → (change n).id ≡ n.id) → KeepsRest page (record page { tree = relabelled id change page.tree }) id
  keeps-relabelled id change keeps = record {
    rest = taken_out-relabelled id change keeps page.tree;
    viewport = refl;
    distinct = valid.distinct;
    distinct_after = λ k. omega (arith, occurrences-relabelled id change keeps page.tree k, valid.distinct k);
  }

  -- a node that is gone
  keeps-removed : (id : ℕ) → KeepsRest page (edited page (Remove id)) id
  keeps-removed id = record {
    rest = taken_out-twice page.tree id;
    viewport = refl;
    distinct = valid.distinct;
    distinct_after = λ k. omega (arith, occurrences-taken_out page.tree id k, valid.distinct k);
  }

  -- a new node
  module _ (parent at : ℕ) (kind : Kind) (boxes : List Piece) (style : Style) (may : MayAdd page parent at kind style boxes) where
    abbrev label : Label
    label = new_label page.next kind style boxes

    nothing : (f : Forest) → node_count f ≡ 0 → f ≡ End
    nothing End none = refl
    nothing (Grow n below others) none = absurd (omega arith)

    once-planted : (k : ℕ) → occurrences (planted parent at label End page.tree) k ≤ 1
    once-planted k = elim (cases_eq parent 0) [
      | inl none_named ↦ rw (planted-root parent at label page.tree none_named) (grind (arith, nat_tests))
      | inr named ↦
          let there : has_id page parent ≡ true = elim may.present [
            | inl none_named ↦ absurd (named none_named)
            | inr is ↦ is
          ] in
          let absent : occurrences page.tree page.next ≡ 0 = given-absent page.tree [] page.next page.next valid.given (inr (omega arith)) in
          rw (planted-below parent at label page.tree named, occurrences-put_below page.tree parent at label End k (once_there page parent valid there)) (grind (arith, nat_tests, absent, valid.distinct k))
    ]

    keeps-added : KeepsRest page (edited page (Add parent at kind boxes style)) page.next
    keeps-added = record {
      rest = elim (cases_eq parent 0) [
        | inl none_named ↦
            ap (taken_out page.next) (planted-root parent at label page.tree none_named)
            ∙ taken_out-head label End End page.next refl
            ∙ sym (ap (taken_out page.next) (nothing page.tree (may.root none_named)))
        | inr named ↦ ap (taken_out page.next) (planted-below parent at label page.tree named) ∙ taken_out-put_below page.tree parent at label End page.next refl
      ];
      viewport = refl;
      distinct = valid.distinct;
      distinct_after = once-planted;
    }

  -- a node at another place
  keeps-moved : (id parent at : ℕ) → has_id page parent ≡ true → occurrences (tree_of page id) parent ≡ 0 → KeepsRest page (edited page (Move id parent at)) id
  keeps-moved id parent at there apart = record {
    rest = rest-at (placed_of page id) refl;
    viewport = refl;
    distinct = valid.distinct;
    distinct_after = λ k. once-at k (placed_of page id) refl;
  }
    where
      rest-at : (o : Option Placed) → placed_of page id ≡ o → taken_out id (option_map_or (λ p. put_below parent at p.label p.below (taken_out id page.tree)) o page.tree) ≡ taken_out id page.tree
      rest-at None found = refl
      rest-at (Some p) found = taken_out-put_below (taken_out id page.tree) parent at p.label p.below id (id-placed_in page.tree [] id p found) ∙ taken_out-twice page.tree id

      once-at : (k : ℕ) (o : Option Placed) → placed_of page id ≡ o → occurrences (option_map_or (λ p. put_below parent at p.label p.below (taken_out id page.tree)) o page.tree) k ≤ 1
      once-at k None found = valid.distinct k
      once-at k (Some p) found =
          let once : occurrences (taken_out id page.tree) parent ≡ 1 = omega (arith, occurrences-parted page.tree [] id parent (valid.distinct id), once_there page parent valid there, apart) in
          let tree_is : tree_of page id ≡ single p.label p.below = ap (λ o. option_map_or (λ q. Grow q.label q.below End) o End) found in
          rw (occurrences-put_below (taken_out id page.tree) parent at p.label p.below k once)
          (omega (arith, occurrences-parted page.tree [] id k (valid.distinct id), ap (λ f. occurrences f k) tree_is, valid.distinct k))

-- each edit of a node
pub keeps-rest : (page : Contents) (edit : Edit) → IsFaultless page edit → IfSome (edited_node page edit) (KeepsRest page (edited page edit))
keeps-rest page (Add parent at kind boxes style) faultless = keeps-added page faultless.valid parent at kind boxes style (may_add page parent at kind style boxes faultless.none)
keeps-rest page (Remove id) faultless = keeps-removed page faultless.valid id
keeps-rest page (Move id parent at) faultless =
    let may = may_move page id parent at faultless.none in
    keeps-moved page faultless.valid id parent at may.parent_there may.apart
keeps-rest page (Place id anchor boxes max) faultless = keeps-relabelled page faultless.valid id (laid_out anchor boxes max) (λ n. refl)
keeps-rest page (Restyle id style) faultless = keeps-relabelled page faultless.valid id (restyled style) (λ n. refl)
keeps-rest page (Reshape id form) faultless = keeps-relabelled page faultless.valid id (reshaped form) (λ n. refl)
keeps-rest page (Scroll id x y) faultless = keeps-relabelled page faultless.valid id (scrolled_node x y) (λ n. refl)
keeps-rest page (Resize w h max) faultless = tt
keeps-rest page (ScrollView x y) faultless = tt

-- a node with its ancestors, by its id
abbrev pub standing_of : Contents → ℕ → Option Standing
standing_of page id = option_map standing_at (placed_of page id)

-- a node of the trees without another one stands in both trees below the same ancestors
standing-without : (page : Contents) (changed k : ℕ) → occurrences page.tree k ≤ 1 → 0 < occurrences (taken_out changed page.tree) k → option_map standing_at (placed_in [] (taken_out changed page.tree) k) ≡ standing_of page k
standing-without page changed k once some = ap (option_map standing_at) (placed_in-taken_out page.tree [] changed k once some) ∙ by_place (placed_of page k)
  where
    by_place : (o : Option Placed) → option_map standing_at (option_map (place_without changed) o) ≡ option_map standing_at o
    by_place None = refl
    by_place (Some p) = refl

-- what a node that stands there has holds of all its ancestors too
pub each-ancestor : (IsSo : ℕ → Type 0) (f : Forest) (above : List Label) (id : ℕ) (p : Placed) → ((k : ℕ) → 0 < occurrences f k → IsSo k) → AllByRecursion (λ (n : Label). IsSo n.id) above → placed_in above f id ≡ Some p → AllByRecursion (λ (n : Label). IsSo n.id) p.above
each-ancestor IsSo End above id p each known found = absurd cc
each-ancestor IsSo (Grow n below others) above id p each known found = elim (found_in n below others above id p found) [
  | Head here is ↦ subst (λ (q : Placed). AllByRecursion (λ (m : Label). IsSo m.id) q.above) (sym is) known
  | Deeper other is ↦ each-ancestor IsSo below (n ∷ above) id p (λ k some. each k (omega (arith, some))) (each n.id (grind (arith, nat_tests)), known) is
  | Beside other is ↦ each-ancestor IsSo others above id p (λ k some. each k (omega (arith, some))) known is
]

module _ (page after : Contents) (changed : ℕ) (keeps : KeepsRest page after changed) where
  abbrev rest : Forest
  rest = taken_out changed page.tree

  -- a node of the rest stands below the same ancestors as before
  pub standing-rest : (k : ℕ) → 0 < occurrences rest k → standing_of after k ≡ standing_of page k
  standing-rest k some =
      let some' : 0 < occurrences (taken_out changed after.tree) k = subst (λ (f : Forest). 0 < occurrences f k) (sym keeps.rest) some in
      sym (standing-without after changed k (keeps.distinct_after k) some')
      ∙ ap (λ (f : Forest). option_map standing_at (placed_in [] f k)) keeps.rest
      ∙ standing-without page changed k (keeps.distinct k) some

  -- a node that stands apart from the changed one is in the rest
  pub in_rest : (id : ℕ) → StandsApart page changed id → 0 < occurrences rest id
  in_rest id stands =
      let none : nat_lt 0 (occurrences (tree_of page changed) id) ≡ false = sym (is_among-ids_in (tree_of page changed) id) ∙ stands.apart in
      let none' : occurrences (tree_of page changed) id ≡ 0 = grind (arith, nat_tests) in
      omega (arith, some, none', occurrences-parted page.tree [] changed id (keeps.distinct changed))
    where
      some : 0 < occurrences page.tree id
      some = elim (cases_lt 0 (occurrences page.tree id)) [
        | inl is ↦ is
        | inr few ↦ absurd (false≢true (ap is_some (sym (placed_in-absent page.tree [] id (omega arith))) ∙ stands.there))
      ]

  -- and of the rest after the edit
  pub apart_after : (id : ℕ) → StandsApart page changed id → StandsApart after changed id
  apart_after id stands =
      let stays : 0 < occurrences (taken_out changed after.tree) id = subst (λ (f : Forest). 0 < occurrences f id) (sym keeps.rest) (in_rest id stands) in
      let parted = occurrences-parted after.tree [] changed id (keeps.distinct_after changed) in
      let none : occurrences (tree_of after changed) id ≡ 0 = omega (arith, stays, parted, keeps.distinct_after id) in
      record {
        there = placed_in-present after.tree [] id (omega (arith, stays, parted));
        apart = is_among-ids_in (tree_of after changed) id ∙ ap (nat_lt 0) none;
      }

-- taking an edit back keeps the same rest
pub flipped : (page after : Contents) (changed : ℕ) → KeepsRest page after changed → KeepsRest after page changed
flipped page after changed keeps = record {
  rest = sym keeps.rest;
  viewport = sym keeps.viewport;
  distinct = keeps.distinct_after;
  distinct_after = keeps.distinct;
}

module _ (page : Contents) (edit : Edit) (id : ℕ) (faultless : IsFaultless page edit) where
  -- a node that stands apart from the edited one before the edit stands apart from it after the edit
  pub outside-after : IsSomeAnd (edited_node page edit) (λ changed. StandsApart page changed id) → IsOutside page edit id
  outside-after apart = by_node (edited_node page edit) (keeps-rest page edit faultless) apart
    where
      by_node : (o : Option ℕ) → IfSome o (KeepsRest page (edited page edit)) → IsSomeAnd o (λ changed. StandsApart page changed id) → IsSomeAnd o (λ changed. StandsApart page changed id × StandsApart (edited page edit) changed id)
      by_node None keeps stands = stands
      by_node (Some changed) keeps stands = (stands, apart_after page (edited page edit) changed keeps id stands)

module _ (page : Contents) (edit : Edit) (faultless : IsFaultless page edit) where
  -- a node that stands apart from the edited one after the edit did so before it
  pub outside-before : (id : ℕ) → IsSomeAnd (edited_node page edit) (λ changed. StandsApart (edited page edit) changed id) → IsOutside page edit id
  outside-before id apart = by_node (edited_node page edit) (keeps-rest page edit faultless) apart
    where
      by_node : (o : Option ℕ) → IfSome o (KeepsRest page (edited page edit)) → IsSomeAnd o (λ changed. StandsApart (edited page edit) changed id) → IsSomeAnd o (λ changed. StandsApart page changed id × StandsApart (edited page edit) changed id)
      by_node None keeps stands = stands
      by_node (Some changed) keeps stands = (apart_after (edited page edit) page changed (flipped page (edited page edit) changed keeps) id stands, stands)
