-- An edit of a node leaves the trees without that node as they are, and what is below the node where it stays.
use Rattle.std.proofs.Common.{◌≡◌, ◌≢◌, ℕ, zero, suc, ◌+◌, ◌<◌, ◌≤◌, ◌==◌, List, [], ◌∷◌, Option, Some, None, IfSome, true, if◌then◌else◌, refl, sym, ap, ◌∙◌, subst, inl, inr, arith}
use Rattle.std.specs.Option.{option_map, option_map_or}
use Rattle.std.proofs.lemmas.Bool.{cases_lt, cases_eq}
use Rattle.std.proofs.lemmas.Bool.Decides.{nat_tests}
use Rattle.box_tree.specs.declared.edit.Edit.{Edit}
use Rattle.box_tree.specs.declared.edit.Edit.TheVariants.{Add, Remove, Move, Place, Restyle, Reshape, Scroll, Resize, ScrollView}
use Rattle.box_tree.specs.Forest.{Label, Forest, End, Grow, occurrences, Placed, placed_in}
use Rattle.box_tree.specs.Contents.{Contents, placed_of, tree_of, has_id, IsValid}
use Rattle.box_tree.specs.Edited.{put_in, put_below, taken_out, relabelled, laid_out, restyled, reshaped, scrolled_node, edited}
use Rattle.box_tree.specs.Frame.{edited_node, IsFaultless}
use Rattle.box_tree.proofs.AddLemmas.{once_there}
use Rattle.box_tree.proofs.ForestLemmas.{single, ancestors_in, placed_in-absent, placed_in-head, placed_in-below, placed_in-others, occurrences-put_in, occurrences-put_below, put_below-absent, put_below-here, put_below-other}
use Rattle.box_tree.proofs.MoveLemmas.{may_move}
use Rattle.box_tree.proofs.PlaceLemmas.{placed_in-relabelled, new_place}
use Rattle.box_tree.proofs.PlacedLemmas.{id-placed_in}
use Rattle.box_tree.proofs.PutLemmas.{given-absent}
use Rattle.box_tree.proofs.RestLemmas.{KeepsRest, keeps-rest}
use Rattle.box_tree.proofs.SubtreeLemmas.{Head, Deeper, Beside, found_in}
use Rattle.box_tree.proofs.TakenLemmas.{taken_out-head, taken_out-other, occurrences-parted}

-- no node has another label where the node doesn't stand
relabelled-absent : (id : ℕ) (change : Label → Label) (f : Forest) → occurrences f id ≡ 0 → relabelled id change f ≡ f
relabelled-absent id change End none = refl
relabelled-absent id change (Grow n below others) none = grind (arith, nat_tests, relabelled-absent id change below, relabelled-absent id change others)

-- nothing is left of a node that goes
pub gone : (f : Forest) (id : ℕ) → occurrences (taken_out id f) id ≡ 0
gone End id = refl
gone (Grow first firsts others) id = elim (cases_eq first.id id) [
  | inl here ↦ rw (taken_out-head first firsts others id here) (gone others id)
  | inr other ↦ rw (taken_out-other first firsts others id other) (grind (arith, nat_tests, gone firsts id, gone others id))
]

-- what is below a node
abbrev pub below_in : List Label → Forest → ℕ → Option Forest
below_in above f id = option_map (λ p. p.below) (placed_in above f id)

-- the place of a node that was put in
place-put_in : (f : Forest) (above : List Label) (at : ℕ) (n : Label) (below : Forest) → occurrences f n.id ≡ 0 → placed_in above (put_in at n below f) n.id ≡ Some (record { label = n; above = above; below = below })
place-put_in f above zero n below none = placed_in-head n below f above
place-put_in End above (suc at) n below none = placed_in-head n below End above
place-put_in (Grow first firsts others) above (suc at) n below none =
    placed_in-others first firsts (put_in at n below others) above n.id (grind (arith, nat_tests)) (omega (arith, none))
    ∙ place-put_in others above at n below (omega (arith, none))

pub place-put_below : (f : Forest) (above : List Label) (parent at : ℕ) (n : Label) (below : Forest) → occurrences f n.id ≡ 0 → occurrences f parent ≡ 1 →
    placed_in above (put_below parent at n below f) n.id ≡ Some (record { label = n; above = ancestors_in above f parent; below = below })
place-put_below End above parent at n below none once = absurd (omega (arith, once))
place-put_below (Grow first firsts others) above parent at n below none once =
    let apart : first.id ≢ n.id = grind (arith, nat_tests) in
    let own : 0 < occurrences (single n below) n.id = grind (arith, nat_tests) in
    elim (cases_eq first.id parent) [
      | inl here ↦
          ap (λ f. placed_in above f n.id) (put_below-here first firsts others parent at n below here)
          ∙ placed_in-below first (put_in at n below firsts) others above n.id apart (omega (arith, own, occurrences-put_in firsts at n below n.id))
          ∙ place-put_in firsts (first ∷ above) at n below (omega (arith, none))
          ∙ ap (λ (o : Option Placed). placed_below (option_map_or (λ p. p.label ∷ p.above) o [])) (sym (placed_in-head first firsts others above) ∙ ap (placed_in above (Grow first firsts others)) here)
      | inr other ↦
          ap (λ f. placed_in above f n.id) (put_below-other first firsts others parent at n below other)
          ∙ elim (cases_lt 0 (occurrences firsts parent)) [
            | inl some ↦
                let one : occurrences firsts parent ≡ 1 = grind (arith, nat_tests) in
                placed_in-below first (put_below parent at n below firsts) (put_below parent at n below others) above n.id apart (omega (arith, own, occurrences-put_below firsts parent at n below n.id one))
                ∙ place-put_below firsts (first ∷ above) parent at n below (omega (arith, none)) one
                ∙ ap (λ (o : Option Placed). placed_below (option_map_or (λ p. p.label ∷ p.above) o [])) (sym (placed_in-below first firsts others above parent other some))
            | inr few ↦
                let absent : put_below parent at n below firsts ≡ firsts = put_below-absent firsts parent at n below (omega (arith, few)) in
                placed_in-others first (put_below parent at n below firsts) (put_below parent at n below others) above n.id apart (ap (λ f. occurrences f n.id) absent ∙ omega (arith, none))
                ∙ place-put_below others above parent at n below (omega (arith, none)) (grind (arith, nat_tests))
                ∙ ap (λ (o : Option Placed). placed_below (option_map_or (λ p. p.label ∷ p.above) o [])) (sym (placed_in-others first firsts others above parent other (omega (arith, few))))
          ]
    ]
  where
    placed_below : List Label → Option Placed
    placed_below ancestors = Some (record { label = n; above = ancestors; below = below })

-- what stands at a node or below it stands in the trees in which it was found
pub occurrences-placed_in : (f : Forest) (above : List Label) (id : ℕ) (p : Placed) (other : ℕ) → placed_in above f id ≡ Some p → (if p.label.id == other then 1 else 0) + occurrences p.below other ≤ occurrences f other
occurrences-placed_in End above id p other found = absurd cc
occurrences-placed_in (Grow n below others) above id p other found = elim (found_in n below others above id p found) [
  | Head here is ↦ rw is (omega arith)
  | Deeper apart is ↦ omega (arith, occurrences-placed_in below (n ∷ above) id p other is)
  | Beside apart is ↦ omega (arith, occurrences-placed_in others above id p other is)
]

-- and is found below it
pub placed_in-deeper : (f : Forest) (above : List Label) (id : ℕ) (p : Placed) (other : ℕ) → placed_in above f id ≡ Some p → occurrences f other ≤ 1 → 0 < occurrences p.below other → placed_in above f other ≡ placed_in (p.label ∷ p.above) p.below other
placed_in-deeper End above id p other found once some = absurd cc
placed_in-deeper (Grow n below others) above id p other found once some = elim (found_in n below others above id p found) [
  | Head here is ↦
      let some' : 0 < occurrences below other = subst (λ (q : Placed). 0 < occurrences q.below other) is some in
      placed_in-below n below others above other (grind (arith, nat_tests)) some'
      ∙ ap (λ (q : Placed). placed_in (q.label ∷ q.above) q.below other) (sym is)
  | Deeper apart is ↦
      let more = occurrences-placed_in below (n ∷ above) id p other is in
      let some' : 0 < occurrences below other = omega (arith, more, some) in
      placed_in-below n below others above other (grind (arith, nat_tests)) some' ∙ placed_in-deeper below (n ∷ above) id p other is (omega (arith, once)) some
  | Beside apart is ↦
      let more = occurrences-placed_in others above id p other is in
      let some' : 0 < occurrences others other = omega (arith, more, some) in
      placed_in-others n below others above other (grind (arith, nat_tests)) (omega (arith, once, some')) ∙ placed_in-deeper others above id p other is (omega (arith, once)) some
]

-- what is below the node that an edit changes stays, where the node is there before and after
abbrev pub KeepsBelow : (page after : Contents) → ℕ → Type 0
KeepsBelow page after changed = (f g : Forest) → below_in [] page.tree changed ≡ Some f → below_in [] after.tree changed ≡ Some g → f ≡ g

nothing-found : (g : Forest) → None ≡ Some g → ⊥
nothing-found g is = cc

module _ (page : Contents) (valid : IsValid page) where
  -- a node doesn't stand below itself
  once-below : (id : ℕ) (p : Placed) → placed_of page id ≡ Some p → occurrences p.below id ≡ 0
  once-below id p found =
      let more = occurrences-placed_in page.tree [] id p id found in
      let here : p.label.id ≡ id = id-placed_in page.tree [] id p found in
      let once = valid.distinct id in
      grind (arith, nat_tests, more, once)

  -- a node with another label
  below-relabelled : (id : ℕ) (change : Label → Label) → ((n : Label) → (change n).id ≡ n.id) → KeepsBelow page (record page { tree = relabelled id change page.tree }) id
  below-relabelled id change keeps f g found found' = by_place (placed_of page id) refl found (sym (ap (option_map (λ p. p.below)) (placed_in-relabelled id change keeps page.tree [] id)) ∙ found')
    where
      by_place : (o : Option Placed) → placed_of page id ≡ o → option_map (λ p. p.below) o ≡ Some f → option_map (λ p. p.below) (option_map (new_place id change keeps) o) ≡ Some g → f ≡ g
      by_place None is before later = absurd cc
      by_place (Some p) is before later =
          let same : p.below ≡ f = cc in
          let same' : relabelled id change p.below ≡ g = cc in
          sym same ∙ sym (relabelled-absent id change p.below (once-below id p is)) ∙ same'

  -- a node that is gone
  below-removed : (id : ℕ) → KeepsBelow page (edited page (Remove id)) id
  below-removed id f g found found' = absurd (nothing-found g (sym (ap (option_map (λ p. p.below)) (placed_in-absent (taken_out id page.tree) [] id (gone page.tree id))) ∙ found'))

  -- a node that is new
  below-added : (after : Contents) → KeepsBelow page after page.next
  below-added after f g found found' =
      let absent : occurrences page.tree page.next ≡ 0 = given-absent page.tree [] page.next page.next valid.given (inr (omega arith)) in
      absurd (nothing-found f (sym (ap (option_map (λ p. p.below)) (placed_in-absent page.tree [] page.next absent)) ∙ found))

  -- a node at another place
  below-moved : (id parent at : ℕ) → has_id page parent ≡ true → occurrences (tree_of page id) parent ≡ 0 → KeepsBelow page (edited page (Move id parent at)) id
  below-moved id parent at there apart f g = by_place (placed_of page id) refl
    where
      once : occurrences (taken_out id page.tree) parent ≡ 1
      once = omega (arith, occurrences-parted page.tree [] id parent (valid.distinct id), once_there page parent valid there, apart)

      by_place : (o : Option Placed) → placed_of page id ≡ o → option_map (λ p. p.below) o ≡ Some f → below_in [] (option_map_or (λ p. put_below parent at p.label p.below (taken_out id page.tree)) o page.tree) id ≡ Some g → f ≡ g
      by_place None is found found' = absurd cc
      by_place (Some p) is found found' =
          let here : p.label.id ≡ id = id-placed_in page.tree [] id p is in
          let put : below_in [] (put_below parent at p.label p.below (taken_out id page.tree)) p.label.id ≡ Some p.below =
          ap (option_map (λ q. q.below)) (place-put_below (taken_out id page.tree) [] parent at p.label p.below (ap (occurrences (taken_out id page.tree)) here ∙ gone page.tree id) once) in
          let put' : Some p.below ≡ Some g = sym put ∙ ap (below_in [] (put_below parent at p.label p.below (taken_out id page.tree))) here ∙ found' in
          let same : p.below ≡ f = cc in
          let same' : p.below ≡ g = cc in
          sym same ∙ same'

-- each edit of a node
keeps-below : (page : Contents) (edit : Edit) → IsFaultless page edit → IfSome (edited_node page edit) (KeepsBelow page (edited page edit))
keeps-below page (Add parent at kind boxes style) faultless = below-added page faultless.valid (edited page (Add parent at kind boxes style))
keeps-below page (Remove id) faultless = below-removed page faultless.valid id
keeps-below page (Move id parent at) faultless =
    let may = may_move page id parent at faultless.none in
    below-moved page faultless.valid id parent at may.parent_there may.apart
keeps-below page (Place id anchor boxes max) faultless = below-relabelled page faultless.valid id (laid_out anchor boxes max) (λ n. refl)
keeps-below page (Restyle id style) faultless = below-relabelled page faultless.valid id (restyled style) (λ n. refl)
keeps-below page (Reshape id form) faultless = below-relabelled page faultless.valid id (reshaped form) (λ n. refl)
keeps-below page (Scroll id x y) faultless = below-relabelled page faultless.valid id (scrolled_node x y) (λ n. refl)
keeps-below page (Resize w h max) faultless = tt
keeps-below page (ScrollView x y) faultless = tt

-- what a page that an edit of a node leaves keeps: the trees without the node, and what is below the node; no id stands twice
-- in either page
pub record KeepsTrees (page after : Contents) (changed : ℕ) : Type 0 where
  pub rest : taken_out changed after.tree ≡ taken_out changed page.tree
  pub below : KeepsBelow page after changed
  pub distinct : (k : ℕ) → occurrences page.tree k ≤ 1
  pub distinct_after : (k : ℕ) → occurrences after.tree k ≤ 1

pub keeps-trees : (page : Contents) (edit : Edit) → IsFaultless page edit → IfSome (edited_node page edit) (KeepsTrees page (edited page edit))
keeps-trees page edit faultless = by_node (edited_node page edit) (keeps-rest page edit faultless) (keeps-below page edit faultless)
  where
    by_node : (o : Option ℕ) → IfSome o (KeepsRest page (edited page edit)) → IfSome o (KeepsBelow page (edited page edit)) → IfSome o (KeepsTrees page (edited page edit))
    by_node None keeps below = tt
    by_node (Some changed) keeps below = record {
      rest = keeps.rest;
      below = below;
      distinct = keeps.distinct;
      distinct_after = keeps.distinct_after;
    }
