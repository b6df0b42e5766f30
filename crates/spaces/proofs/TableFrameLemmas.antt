-- Each node that an edit doesn't take out is in the page after it, of the same kind; so the table of the page before, with the
-- entries of the edited node and of all below it, is the table of the page after.
use Rattle.std.proofs.Common.{◌≡◌, ℕ, zero, suc, ◌+◌, ◌<◌, ◌==◌, List, [], ◌∷◌, length, get_or, Option, Some, None, IsSome, is_some, Bool, true, false, if◌then◌else◌, refl, sym, ap, subst, ◌∙◌, inl, inr, arith}
use Rattle.std.specs.Prelude.{All, nat_lt, unwrap_or, ◌&&◌, ℤ, IfSome}
use Rattle.std.specs.List.{list_all}
use Rattle.std.specs.Option.{option_or, option_map, option_map_or, option_and_then}
use Rattle.std.proofs.lemmas.Bool.{cases_lt, cases_eq, false≢true}
use Rattle.std.proofs.lemmas.Bool.Decides.{nat_tests}
use Rattle.std.proofs.lemmas.Int.{ints}
use Rattle.box_tree.specs.declared.edit.Edit.{Edit}
use Rattle.box_tree.specs.declared.edit.Edit.TheVariants.{Add, Remove, Move, Place, Restyle, Reshape, Scroll, Resize, ScrollView}
use Rattle.box_tree.specs.declared.kind.Kind.{Kind}
use Rattle.box_tree.specs.Forest.{Label, Forest, End, Grow, node_count, occurrences, Placed, placed_in}
use Rattle.box_tree.specs.Contents.{Contents, placed_of, tree_of, has_id, new_label, empty_page, IsValid, IsSuited}
use Rattle.box_tree.specs.Containing.{containing_block_chain, standing_at}
use Rattle.box_tree.specs.Edited.{put_in, put_below, taken_out, moved, relabelled, laid_out, restyled, reshaped, scrolled_node, edited}
use Rattle.box_tree.specs.Planned.{is_among}
use Rattle.box_tree.specs.Suits.{is_text}
use Rattle.box_tree.proofs.AddLemmas.{may_add, once_there}
use Rattle.box_tree.proofs.ForestLemmas.{single, if_map, or-none, placed_in-absent, placed_in-present, put_below-absent}
use Rattle.box_tree.proofs.MoveLemmas.{may_move, each-placed}
use Rattle.box_tree.proofs.PlanLemmas.{planted-below}
use Rattle.box_tree.proofs.PutLemmas.{given-absent}
use Rattle.box_tree.proofs.PlacedLemmas.{id-placed_in, found-at_places}
use Rattle.box_tree.proofs.ContainingLemmas.{AreAncestors, are_ancestors}
use Rattle.box_tree.proofs.SubtreeLemmas.{is_among-ids_in, placed-at_places}
use Rattle.box_tree.proofs.TakenLemmas.{place_without, placed_in-taken_out, occurrences-parted}
use Rattle.box_tree.specs.Frame.{edited_node, IsFaultless, IsOutside}
use Rattle.affine.specs.declared.map.Parts.{Parts}
use Rattle.computed_style.specs.declared.inherited.Inherited.{Inherited}
use Rattle.computed_style.specs.Ranges.{IsSide}
use Rattle.spaces.specs.declared.table.entry.Entry.{Entry}
use Rattle.spaces.specs.Spaces.{is_laid_out, shows, space_along, space_of, space, local_point_in, local_point}
use Rattle.spaces.specs.Values.{values_along, values_below, values}
use Rattle.spaces.specs.Table.{entry_at, entry_placed, entry_of, entry_under, local_point_under, is_in_subtree, new_entry, renewed_entry, applied, renewed_node, removed_ids, IsTableOf, IsTableOutside}
use Rattle.box_tree.proofs.RestLemmas.{outside-after}
use Rattle.spaces.proofs.ValueLemmas.{values_along-cons, width-computed}
use Rattle.spaces.proofs.FrameLemmas.{entry-outside, table-outside, table-whole}

-- the kind of the node of an id in trees
abbrev kind_at : Forest → ℕ → Option Kind
kind_at End x = None
kind_at (Grow n below others) x = if n.id == x then Some n.kind else option_or (kind_at below x) (kind_at others x)

kind-placed : (f : Forest) (above : List Label) (x : ℕ) → option_map (λ p. p.label.kind) (placed_in above f x) ≡ kind_at f x
kind-placed End above x = refl
kind-placed (Grow n below others) above x =
    sym (if_map (λ (p : Placed). p.label.kind) (n.id == x) (record { label = n; above = above; below = below }) _ _ n.kind _ _ refl (sym (kind-placed below (n ∷ above) x)) (sym (kind-placed others above x)))

kind-absent : (f : Forest) (x : ℕ) → occurrences f x ≡ 0 → kind_at f x ≡ None
kind-absent f x none = sym (kind-placed f [] x) ∙ ap (option_map (λ p. p.label.kind)) (placed_in-absent f [] x none)

-- whether a kind is there and laid out
abbrev is_kept : Option Kind → Bool
is_kept None = false
is_kept (Some kind) = is_laid_out kind

-- a node has an entry by its kind
entry-kept : (page : Contents) (x : ℕ) → is_some (entry_of page x) ≡ is_kept (kind_at page.tree x)
entry-kept page x = by_place (placed_of page x) ∙ ap is_kept (kind-placed page.tree [] x)
  where
    by_place : (o : Option Placed) → is_some (option_and_then (entry_placed page.viewport) o) ≡ is_kept (option_map (λ p. p.label.kind) o)
    by_place None = refl
    by_place (Some p) = by_kind (is_laid_out p.label.kind) (entry_at page.viewport (standing_at p))
      where
        by_kind : (b : Bool) (e : Entry) → is_some (if b then Some e else None) ≡ b
        by_kind true e = refl
        by_kind false e = refl

-- a node with another label of the same kind
kind-relabelled : (id : ℕ) (change : Label → Label) → ((n : Label) → (change n).id ≡ n.id) → ((n : Label) → (change n).kind ≡ n.kind) → (f : Forest) (x : ℕ) → kind_at (relabelled id change f) x ≡ kind_at f x
kind-relabelled id change keeps same End x = refl
kind-relabelled id change keeps same (Grow n below others) x =
    by_test (n.id == id)
    ∙ ap (λ (o : Option Kind). if n.id == x then Some n.kind else option_or o (kind_at (relabelled id change others) x)) (kind-relabelled id change keeps same below x)
    ∙ ap (λ (o : Option Kind). if n.id == x then Some n.kind else option_or (kind_at below x) o) (kind-relabelled id change keeps same others x)
  where
    rest : Option Kind
    rest = option_or (kind_at (relabelled id change below) x) (kind_at (relabelled id change others) x)

    by_test : (b : Bool) → (if (if b then change n else n).id == x then Some (if b then change n else n).kind else option_or (kind_at (relabelled id change below) x) (kind_at (relabelled id change others) x)) ≡ (if n.id == x then Some n.kind else option_or (kind_at (relabelled id change below) x) (kind_at (relabelled id change others) x))
    by_test true = rw (keeps n, same n) refl
    by_test false = refl

-- a tree more: the other nodes stay
module _ (n : Label) (below : Forest) (x : ℕ) where
  old-first : (f : Forest) → occurrences (single n below) x ≡ 0 → kind_at (Grow n below f) x ≡ kind_at f x
  old-first f none =
      let other : (n.id == x) ≡ false = grind (arith, nat_tests) in
      ap (λ (b : Bool). if b then Some n.kind else option_or (kind_at below x) (kind_at f x)) other
      ∙ ap (λ (o : Option Kind). option_or o (kind_at f x)) (kind-absent below x (grind (arith, nat_tests)))

  old-put_in : (f : Forest) (at : ℕ) → occurrences (single n below) x ≡ 0 → kind_at (put_in at n below f) x ≡ kind_at f x
  old-put_in f zero none = old-first f none
  old-put_in End (suc at) none = old-first End none
  old-put_in (Grow first firsts others) (suc at) none =
      ap (λ (o : Option Kind). if first.id == x then Some first.kind else option_or (kind_at firsts x) o) (old-put_in others at none)

  old-put_below : (f : Forest) (parent at : ℕ) → occurrences (single n below) x ≡ 0 → kind_at (put_below parent at n below f) x ≡ kind_at f x
  old-put_below End parent at none = refl
  old-put_below (Grow first firsts others) parent at none = by_test (first.id == parent) (old-put_below firsts parent at none) (old-put_below others parent at none)
    where
      by_test : (b : Bool) → kind_at (put_below parent at n below firsts) x ≡ kind_at firsts x → kind_at (put_below parent at n below others) x ≡ kind_at others x →
          kind_at (if b then Grow first (put_in at n below firsts) others else Grow first (put_below parent at n below firsts) (put_below parent at n below others)) x ≡ kind_at (Grow first firsts others) x
      by_test true deeper beside = ap (λ (o : Option Kind). if first.id == x then Some first.kind else option_or o (kind_at others x)) (old-put_in firsts at none)
      by_test false deeper beside =
          ap (λ (o : Option Kind). if first.id == x then Some first.kind else option_or o (kind_at (put_below parent at n below others) x)) deeper
          ∙ ap (λ (o : Option Kind). if first.id == x then Some first.kind else option_or (kind_at firsts x) o) beside

  -- and its own nodes come
  new-first : (f : Forest) → occurrences f x ≡ 0 → kind_at (Grow n below f) x ≡ kind_at (single n below) x
  new-first f none = ap (λ (o : Option Kind). if n.id == x then Some n.kind else option_or (kind_at below x) o) (kind-absent f x none)

  new-put_in : (f : Forest) (at : ℕ) → occurrences f x ≡ 0 → kind_at (put_in at n below f) x ≡ kind_at (single n below) x
  new-put_in f zero none = new-first f none
  new-put_in End (suc at) none = refl
  new-put_in (Grow first firsts others) (suc at) none =
      let other : (first.id == x) ≡ false = grind (arith, nat_tests) in
      ap (λ (b : Bool). if b then Some first.kind else option_or (kind_at firsts x) (kind_at (put_in at n below others) x)) other
      ∙ ap (λ (o : Option Kind). option_or o (kind_at (put_in at n below others) x)) (kind-absent firsts x (grind (arith, nat_tests)))
      ∙ new-put_in others at (grind (arith, nat_tests))

  new-put_below : (f : Forest) (parent at : ℕ) → occurrences f x ≡ 0 → occurrences f parent ≡ 1 → kind_at (put_below parent at n below f) x ≡ kind_at (single n below) x
  new-put_below End parent at none once = absurd (omega arith)
  new-put_below (Grow first firsts others) parent at none once = elim (cases_eq first.id parent) [
    | inl here ↦
        let same : (first.id == parent) ≡ true = grind (arith, nat_tests) in
        ap (λ (b : Bool). kind_at (if b then Grow first (put_in at n below firsts) others else Grow first (put_below parent at n below firsts) (put_below parent at n below others)) x) same
        ∙ ap (λ (b : Bool). if b then Some first.kind else option_or (kind_at (put_in at n below firsts) x) (kind_at others x)) other
        ∙ ap (λ (o : Option Kind). option_or (kind_at (put_in at n below firsts) x) o) (kind-absent others x (grind (arith, nat_tests)))
        ∙ or-none (kind_at (put_in at n below firsts) x)
        ∙ new-put_in firsts at (grind (arith, nat_tests))
    | inr apart ↦
        let apart' : (first.id == parent) ≡ false = grind (arith, nat_tests) in
        ap (λ (b : Bool). kind_at (if b then Grow first (put_in at n below firsts) others else Grow first (put_below parent at n below firsts) (put_below parent at n below others)) x) apart'
        ∙ ap (λ (b : Bool). if b then Some first.kind else option_or (kind_at (put_below parent at n below firsts) x) (kind_at (put_below parent at n below others) x)) other
        ∙ elim (cases_lt 0 (occurrences firsts parent)) [
          | inl deeper ↦
              let none' : occurrences others parent ≡ 0 = grind (arith, nat_tests) in
              ap (λ (f : Forest). option_or (kind_at (put_below parent at n below firsts) x) (kind_at f x)) (put_below-absent others parent at n below none')
              ∙ ap (λ (o : Option Kind). option_or (kind_at (put_below parent at n below firsts) x) o) (kind-absent others x (grind (arith, nat_tests)))
              ∙ or-none (kind_at (put_below parent at n below firsts) x)
              ∙ new-put_below firsts parent at (grind (arith, nat_tests)) (grind (arith, nat_tests))
          | inr few ↦
              let none' : occurrences firsts parent ≡ 0 = omega (arith, few) in
              ap (λ (f : Forest). option_or (kind_at f x) (kind_at (put_below parent at n below others) x)) (put_below-absent firsts parent at n below none')
              ∙ ap (λ (o : Option Kind). option_or o (kind_at (put_below parent at n below others) x)) (kind-absent firsts x (grind (arith, nat_tests)))
              ∙ new-put_below others parent at (grind (arith, nat_tests)) (grind (arith, nat_tests))
        ]
  ]
    where
      other : (first.id == x) ≡ false
      other = grind (arith, nat_tests)

-- a place without a node below it is that of the same node
kind-without : (id : ℕ) (o : Option Placed) → option_map (λ q. q.label.kind) (option_map (place_without id) o) ≡ option_map (λ q. q.label.kind) o
kind-without id None = refl
kind-without id (Some q) = refl

-- a node of a page, before its tree is moved and after
module _ (page : Contents) (valid : IsValid page) (id parent at : ℕ) (there : has_id page parent ≡ true) (apart : occurrences (tree_of page id) parent ≡ 0) (x : ℕ) (some : 0 < occurrences page.tree x) where
  kind-moved : kind_at (moved page id parent at) x ≡ kind_at page.tree x
  kind-moved = by_place (placed_of page id) refl
    where
      by_place : (o : Option Placed) → placed_of page id ≡ o → kind_at (option_map_or (λ p. put_below parent at p.label p.below (taken_out id page.tree)) o page.tree) x ≡ kind_at page.tree x
      by_place None found = refl
      by_place (Some p) found =
          let rest = taken_out id page.tree in
          let tree_is : tree_of page id ≡ single p.label p.below = ap (λ o. option_map_or (λ q. Grow q.label q.below End) o End) found in
          let parted = occurrences-parted page.tree [] id x (valid.distinct id) in
          let parted' = occurrences-parted page.tree [] id parent (valid.distinct id) in
          let own = ap (λ f. occurrences f x) tree_is in
          elim (cases_lt 0 (occurrences rest x)) [
            | inl stays ↦
                old-put_below p.label p.below x rest parent at (omega (arith, parted, own, stays, valid.distinct x))
                ∙ sym (kind-placed rest [] x)
                ∙ ap (option_map (λ q. q.label.kind)) (placed_in-taken_out page.tree [] id x (valid.distinct x) stays)
                ∙ kind-without id (placed_of page x)
                ∙ kind-placed page.tree [] x
            | inr goes ↦
                let inside : 0 < occurrences (single p.label p.below) x = omega (arith, parted, own, goes, some) in
                new-put_below p.label p.below x rest parent at (omega (arith, goes)) (omega (arith, parted', once_there page parent valid there, apart))
                ∙ sym (kind-placed (single p.label p.below) p.above x)
                ∙ sym (ap (option_map (λ q. q.label.kind)) (placed-at_places page (single p.label p.below) p.above x (ap (placed_of page) (id-placed_in page.tree [] id p found) ∙ found, (found-at_places page id p valid found, tt)) inside))
                ∙ kind-placed page.tree [] x
          ]

-- a node with an entry is there
entry-there : (page : Contents) (x : ℕ) → IsSome (entry_of page x) → 0 < occurrences page.tree x
entry-there page x some = elim (cases_lt 0 (occurrences page.tree x)) [
  | inl is ↦ is
  | inr few ↦ absurd (nothing (placed_of page x) (placed_in-absent page.tree [] x (omega (arith, few))) some)
]
  where
    nothing : (o : Option Placed) → o ≡ None → IsSome (option_and_then (entry_placed page.viewport) o) → ⊥
    nothing None is some' = cc
    nothing (Some p) is some' = cc

-- nodes of the same kind have entries both before and after
kept : (page after : Contents) (x : ℕ) → kind_at after.tree x ≡ kind_at page.tree x → IsSome (entry_of page x) → IsSome (entry_of after x)
kept page after x same some = entry-kept after x ∙ ap is_kept same ∙ sym (entry-kept page x) ∙ some

module _ (page : Contents) (x : ℕ) where
  -- what isn't taken out stays
  stays : (edit : Edit) → IsFaultless page edit → is_among (removed_ids page edit) x ≡ false → IsSome (entry_of page x) → IsSome (entry_of (edited page edit) x)
  stays (Add parent at kind boxes style) faultless left some =
      let there = entry-there page x some in
      let may = may_add page parent at kind style boxes faultless.none in
      let absent : occurrences page.tree page.next ≡ 0 = given-absent page.tree [] page.next page.next faultless.valid.given (inr (omega arith)) in
      elim (cases_eq parent 0) [
        | inl none_named ↦ absurd (empty page.tree (may.root none_named) there)
        | inr named ↦
            kept page (edited page (Add parent at kind boxes style)) x
            (ap (λ (f : Forest). kind_at f x) (planted-below parent at (new_label page.next kind style boxes) page.tree named)
            ∙ old-put_below (new_label page.next kind style boxes) End x page.tree parent at (apart page.next absent there)) some
      ]
    where
      empty : (f : Forest) → node_count f ≡ 0 → 0 < occurrences f x → ⊥
      empty End none some' = absurd (omega arith)
      empty (Grow n below others) none some' = absurd (omega arith)

      apart : (next : ℕ) → occurrences page.tree next ≡ 0 → 0 < occurrences page.tree x → (if next == x then 1 else 0) + (0 + 0) ≡ 0
      apart next absent there' = elim (cases_eq next x) [
        | inl same ↦ absurd (let e = ap (occurrences page.tree) same in omega (arith, e, absent, there'))
        | inr other ↦ grind (arith, nat_tests)
      ]
  stays (Remove id) faultless left some =
      let there = placed_in-present page.tree [] x (entry-there page x some) in
      let outside : IsOutside page (Remove id) x = outside-after page (Remove id) x faultless (record { there = there; apart = left }) in
      ap is_some (entry-outside page (Remove id) faultless x outside) ∙ some
  stays (Move id parent at) faultless left some =
      let may = may_move page id parent at faultless.none in
      kept page (edited page (Move id parent at)) x (kind-moved page faultless.valid id parent at may.parent_there may.apart x (entry-there page x some)) some
  stays (Place id anchor boxes max) faultless left some = kept page (edited page (Place id anchor boxes max)) x (kind-relabelled id (laid_out anchor boxes max) (λ n. refl) (λ n. refl) page.tree x) some
  stays (Restyle id style) faultless left some = kept page (edited page (Restyle id style)) x (kind-relabelled id (restyled style) (λ n. refl) (λ n. refl) page.tree x) some
  stays (Reshape id form) faultless left some = kept page (edited page (Reshape id form)) x (kind-relabelled id (reshaped form) (λ n. refl) (λ n. refl) page.tree x) some
  stays (Scroll id to_x to_y) faultless left some = kept page (edited page (Scroll id to_x to_y)) x (kind-relabelled id (scrolled_node to_x to_y) (λ n. refl) (λ n. refl) page.tree x) some
  stays (Resize w h max) faultless left some = kept page (edited page (Resize w h max)) x refl some
  stays (ScrollView to_x to_y) faultless left some = kept page (edited page (ScrollView to_x to_y)) x refl some

  -- and what is taken out is gone
  gone : (edit : Edit) → IsFaultless page edit → is_among (removed_ids page edit) x ≡ true → None ≡ entry_of (edited page edit) x
  gone (Add parent at kind boxes style) faultless out = absurd (false≢true out)
  gone (Remove id) faultless out =
      let inside : nat_lt 0 (occurrences (tree_of page id) x) ≡ true = sym (is_among-ids_in (tree_of page id) x) ∙ out in
      let inside' : 0 < occurrences (tree_of page id) x = grind (arith, nat_tests) in
      let none : occurrences (taken_out id page.tree) x ≡ 0 = omega (arith, inside', occurrences-parted page.tree [] id x (faultless.valid.distinct id), faultless.valid.distinct x) in
      sym (ap (option_and_then (entry_placed page.viewport)) (placed_in-absent (taken_out id page.tree) [] x none))
  gone (Move id parent at) faultless out = absurd (false≢true out)
  gone (Place id anchor boxes max) faultless out = absurd (false≢true out)
  gone (Restyle id style) faultless out = absurd (false≢true out)
  gone (Reshape id form) faultless out = absurd (false≢true out)
  gone (Scroll id to_x to_y) faultless out = absurd (false≢true out)
  gone (Resize w h max) faultless out = absurd (false≢true out)
  gone (ScrollView to_x to_y) faultless out = absurd (false≢true out)

-- each of some ids is among them
all-among : (ids : List ℕ) (P : ℕ → Type 0) → ((x : ℕ) → is_among ids x ≡ true → P x) → All P ids
all-among ids P so = λ k d within. so (get_or ids k d) (among ids k d within)
  where
    among : (xs : List ℕ) (k d : ℕ) → k < length xs → is_among xs (get_or xs k d) ≡ true
    among [] k d within = absurd (omega (arith, within))
    among (x ∷ xs) zero d within = grind (arith, nat_tests)
    among (x ∷ xs) (suc k) d within = grind (arith, nat_tests, among xs k d (omega (arith, within)))

-- so none of the ids that are taken out has a new entry
pub removed-apart : (page : Contents) (edit : Edit) → IsFaultless page edit → (change : List (ℕ × Entry)) → ((x : ℕ) → new_entry change x ≡ renewed_entry (edited page edit) (renewed_node page edit) x) → All (λ id. new_entry change id ≡ None) (removed_ids page edit)
removed-apart page edit faultless change renewed = all-among (removed_ids page edit) (λ x. new_entry change x ≡ None) (λ x out. renewed x ∙ by_test x out (is_in_subtree (edited page edit) (renewed_node page edit) x))
  where
    by_test : (x : ℕ) → is_among (removed_ids page edit) x ≡ true → (b : Bool) → (if b then entry_of (edited page edit) x else None) ≡ None
    by_test x out true = sym (gone page x edit faultless out)
    by_test x out false = refl

module _ (page : Contents) (edit : Edit) (faultless : IsFaultless page edit) (table : List (Option Entry)) (known : IsTableOf table page) where
  -- the table before has the entries of the nodes outside of what the edit changes
  pub table-suits : IsTableOutside table (edited page edit) (renewed_node page edit)
  table-suits = by_node (edited_node page edit) refl
    where
      by_node : (o : Option ℕ) → edited_node page edit ≡ o → IsTableOutside table (edited page edit) (unwrap_or o 0)
      by_node None is = table-whole table (edited page edit)
      by_node (Some node) is = table-outside page edit faultless table node is known

  -- and with the change it is the table after
  pub table-applied : (new : List (Option Entry)) (change : List (ℕ × Entry)) → ((x : ℕ) → new_entry change x ≡ renewed_entry (edited page edit) (renewed_node page edit) x) →
      ((x : ℕ) → entry_under new x ≡ applied table change (removed_ids page edit) x) → IsTableOf new (edited page edit)
  table-applied new change renewed is x = is x ∙ by_removed (is_among (removed_ids page edit) x) refl
    where
      after : Contents
      after = edited page edit

      none_before : is_among (removed_ids page edit) x ≡ false → entry_of after x ≡ None → (o : Option Entry) → entry_of page x ≡ o → entry_under table x ≡ None
      none_before left none None o_is = known x ∙ o_is
      none_before left none (Some e) o_is = absurd (false≢true (ap is_some (sym none) ∙ stays page x edit faultless left (ap is_some o_is)))

      by_entry : is_among (removed_ids page edit) x ≡ false → (b : Bool) → is_in_subtree after (renewed_node page edit) x ≡ b → (o : Option Entry) → entry_of after x ≡ o → option_or (if b then o else None) (entry_under table x) ≡ o
      by_entry left true inside (Some e) o_is = refl
      by_entry left true inside None o_is = none_before left o_is (entry_of page x) refl
      by_entry left false inside (Some e) o_is = table-suits x inside (ap is_some o_is) ∙ o_is
      by_entry left false inside None o_is = none_before left o_is (entry_of page x) refl

      by_removed : (b : Bool) → is_among (removed_ids page edit) x ≡ b → (if b then None else option_or (new_entry change x) (entry_under table x)) ≡ entry_of after x
      by_removed true out = gone page x edit faultless out
      by_removed false left =
          ap (λ (o : Option Entry). option_or o (entry_under table x)) (renewed x)
          ∙ by_entry left (is_in_subtree after (renewed_node page edit) x) refl (entry_of after x) refl

-- no node and no entry
pub table-empty : (w h : ℤ) → IsTableOf [] (empty_page w h)
table-empty w h x = refl

-- an entry has the space and the values of its node
pub entry-space : (page : Contents) (x : ℕ) → option_and_then (λ entry. entry.space) (entry_of page x) ≡ space page x
entry-space page x = by_place (placed_of page x)
  where
    by_place : (o : Option Placed) → option_and_then (λ entry. entry.space) (option_and_then (entry_placed page.viewport) o) ≡ option_and_then (λ p. space_of page.viewport (standing_at p)) o
    by_place None = refl
    by_place (Some p) = by_kind (is_laid_out p.label.kind) refl
      where
        by_kind : (b : Bool) → is_laid_out p.label.kind ≡ b → option_and_then (λ entry. entry.space) (if b then Some (entry_at page.viewport (standing_at p)) else None) ≡ space_of page.viewport (standing_at p)
        by_kind true is = refl
        by_kind false is = sym (ap (λ (b : Bool). if b && list_all shows p.above then Some (space_along page.viewport (standing_at p) (containing_block_chain (standing_at p))) else None) is)

pub entry-values : (page : Contents) (x : ℕ) → IsSome (entry_of page x) → option_map (λ entry. entry.values) (entry_of page x) ≡ values page x
entry-values page x some = by_place (placed_of page x) some
  where
    by_place : (o : Option Placed) → IsSome (option_and_then (entry_placed page.viewport) o) → option_map (λ entry. entry.values) (option_and_then (entry_placed page.viewport) o) ≡ option_map (λ p. values_below p.above p.label) o
    by_place None some' = refl
    by_place (Some p) some' = by_kind (is_laid_out p.label.kind) some'
      where
        by_kind : (b : Bool) → IsSome (if b then Some (entry_at page.viewport (standing_at p)) else None) → option_map (λ entry. entry.values) (if b then Some (entry_at page.viewport (standing_at p)) else None) ≡ Some (values_below p.above p.label)
        by_kind true is = refl
        by_kind false is = absurd cc

-- the width of a stroke that these nodes of a page give is within its limits
width-along : (page : Contents) (valid : IsValid page) (above : List Label) → AreAncestors page above → IsSide 26 (values_along above).stroke_width
width-along page valid [] stand = (omega (arith, ints), omega (arith, ints))
width-along page valid (n ∷ above) stand =
    let suited = (each-placed IsSuited page.tree [] n.id _ valid.suited stand.0.found).0 in
    subst (λ (v : Inherited). IsSide 26 v.stroke_width) (sym (values_along-cons n above))
    (width-computed (values_along above) n.style suited.style_in_range.stroke_width (width-along page valid above stand.1))

pub entry-width : (page : Contents) (id : ℕ) → IsValid page → IfSome (entry_of page id) (λ entry. IsSide 26 entry.values.stroke_width)
entry-width page id valid = by_place (placed_of page id) refl
  where
    by_place : (o : Option Placed) → placed_of page id ≡ o → IfSome (option_and_then (entry_placed page.viewport) o) (λ entry. IsSide 26 entry.values.stroke_width)
    by_place None found = tt
    by_place (Some p) found = by_kind (is_laid_out p.label.kind) (is_text p.label.kind)
      where
        above : AreAncestors page p.above
        above = are_ancestors page p.above id p valid found refl

        here : AreAncestors page (p.label ∷ p.above)
        here = (record { below = p.below; found = ap (placed_of page) (id-placed_in page.tree [] id p found) ∙ found }, above)

        by_kind : (laid text : Bool) → IfSome {T = Entry} (if laid then Some (record { space = space_of page.viewport (standing_at p); values = if text then values_along p.above else values_along (p.label ∷ p.above) }) else None) (λ entry. IsSide 26 entry.values.stroke_width)
        by_kind true true = width-along page valid p.above above
        by_kind true false = width-along page valid (p.label ∷ p.above) here
        by_kind false text = tt

-- a local point by a table is that of the page
pub entry-local_point : (table : List (Option Entry)) (page : Contents) (id : ℕ) (x y : ℤ) → IsTableOf table page → local_point_under table id x y ≡ local_point page id x y
entry-local_point table page id x y is =
    ap (λ (s : Option Parts). local_point_in s x y) (ap (option_and_then (λ entry. entry.space)) (is id) ∙ entry-space page id)

pub entry-some : (table : List (Option Entry)) (id : ℕ) (x y : ℤ) → IsSome (local_point_under table id x y) → IsSome (entry_under table id)
entry-some table id x y some = by_entry (entry_under table id) some
  where
    by_entry : (o : Option Entry) → IsSome (local_point_in (option_and_then (λ entry. entry.space) o) x y) → IsSome o
    by_entry None some' = some'
    by_entry (Some entry) some' = refl

-- the entries of all nodes, put where there was none
pub table-first : (page : Contents) (table new : List (Option Entry)) (change : List (ℕ × Entry)) → ((x : ℕ) → entry_under table x ≡ None) → ((x : ℕ) → new_entry change x ≡ renewed_entry page 0 x) →
    ((x : ℕ) → entry_under new x ≡ applied table change [] x) → IsTableOf new page
table-first page table new change none renewed is x =
    is x
    ∙ ap (option_or (new_entry change x)) (none x)
    ∙ or-nothing (new_entry change x)
    ∙ renewed x
    ∙ by_test (is_in_subtree page 0 x) refl (entry_of page x) refl
  where
    or-nothing : (o : Option Entry) → option_or o None ≡ o
    or-nothing None = refl
    or-nothing (Some e) = refl

    by_test : (b : Bool) → is_in_subtree page 0 x ≡ b → (o : Option Entry) → entry_of page x ≡ o → (if b then o else None) ≡ o
    by_test true inside o o_is = refl
    by_test false inside None o_is = refl
    by_test false inside (Some e) o_is = table-whole [] page x inside (ap is_some o_is) ∙ o_is
