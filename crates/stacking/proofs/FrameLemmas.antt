-- The frame law of lists. A context whose list an edit isn't to change stands either among the trees without the edited node,
-- and then that node, before the edit and after it, is below it only behind another stacking context, so that it doesn't
-- count; or it stands below the edited node, and all that is below it stays.
use Rattle.std.proofs.Common.{◌≡◌, ◌≢◌, ℕ, ◌<◌, ◌≤◌, ◌==◌, List, [], ◌∷◌, Option, Some, None, IfSome, is_some, Bool, true, false, refl, sym, ap, ◌∙◌, subst, inl, inr, arith}
use Rattle.std.specs.Prelude.{if◌then◌else◌}
use Rattle.std.specs.Option.{option_map, option_map_or, option_or}
use Rattle.std.proofs.lemmas.Bool.{cases_lt, false≢true}
use Rattle.std.proofs.lemmas.Bool.Decides.{nat_tests}
use Rattle.box_tree.specs.declared.edit.Edit.{Edit}
use Rattle.box_tree.specs.declared.edit.Edit.TheVariants.{Add, Remove, Move, Place, Restyle, Reshape, Scroll, Resize, ScrollView}
use Rattle.box_tree.specs.Forest.{Label, Forest, End, Grow, occurrences, Placed, placed_in}
use Rattle.box_tree.specs.Contents.{Contents, placed_of, has_id}
use Rattle.box_tree.specs.Containing.{parent_of, makes_context}
use Rattle.box_tree.specs.Edited.{taken_out, edited}
use Rattle.box_tree.specs.Used.{is_real_context}
use Rattle.box_tree.proofs.ForestLemmas.{placed_in-absent, placed_in-head, placed_in-below, placed_in-others}
use Rattle.box_tree.proofs.PlacedLemmas.{id-placed_in}
use Rattle.box_tree.proofs.TakenLemmas.{taken_out-other, place_without, placed_in-taken_out, occurrences-parted}
use Rattle.stacking.specs.Painting.{at, entries}
use Rattle.stacking.specs.OnPage.{of_node}
use Rattle.stacking.specs.Contexts.{nearest_context, context_of}
use Rattle.box_tree.specs.Frame.{edited_node, IsFaultless}
use Rattle.stacking.specs.Frame.{is_next_to, KeepsList}
use Rattle.stacking.proofs.AlikeLemmas.{AlikeTrees, IsSame, same-at, real-looks, entries-alike}
use Rattle.stacking.proofs.RestLemmas.{placed_in-deeper, occurrences-placed_in, KeepsTrees, keeps-trees}

-- a node doesn't stand in trees down to the next stacking contexts
abbrev Hidden : ℕ → Forest → Type 0
Hidden x End = Unit {0}
Hidden x (Grow n below others) = (n.id ≢ x) × ((is_real_context (Some n) n ≡ false → Hidden x below) × Hidden x others)

-- without it the trees agree so far
alike-without : (x : ℕ) (f : Forest) → Hidden x f → AlikeTrees f (taken_out x f)
alike-without x End hidden = tt
alike-without x (Grow n below others) hidden =
    subst (AlikeTrees (Grow n below others)) (sym (taken_out-other n below others x hidden.0))
    (refl, ((λ plain. alike-without x below (hidden.1.0 plain)), alike-without x others hidden.1.1))

-- what is found in trees stands there
pub stands : (f : Forest) (above : List Label) (x : ℕ) (q : Placed) → placed_in above f x ≡ Some q → 0 < occurrences f x
stands f above x q found = elim (cases_lt 0 (occurrences f x)) [
  | inl some ↦ some
  | inr few ↦ absurd (false≢true (ap is_some (sym (placed_in-absent f above x (omega (arith, few))) ∙ found)))
]

-- a node is hidden unless the nearest stacking context above it is that of the trees
hidden-in : (x : ℕ) (f : Forest) (a : Label) (above : List Label) → occurrences f x ≤ 1 →
    ((q : Placed) → placed_in (a ∷ above) f x ≡ Some q → nearest_context q.above ≡ nearest_context (a ∷ above) → ⊥) → Hidden x f
hidden-in x End a above once nowhere = tt
hidden-in x (Grow n below others) a above once nowhere =
    let other : n.id ≢ x = λ same. nowhere (record { label = n; above = a ∷ above; below = below }) (ap (placed_in (a ∷ above) (Grow n below others)) (sym same) ∙ placed_in-head n below others (a ∷ above)) refl in (
      other,
      (
        λ plain. hidden-in x below n (a ∷ above) (omega (arith, once)) (λ q found nearest.
            nowhere q (placed_in-below n below others (a ∷ above) x other (stands below (n ∷ (a ∷ above)) x q found) ∙ found) (nearest ∙ ap (λ b. if b then n.id else nearest_context (a ∷ above)) plain)),
        hidden-in x others a above (omega (arith, once)) (λ q found nearest.
            nowhere q (placed_in-others n below others (a ∷ above) x other (omega (arith, once, stands others (a ∷ above) x q found)) ∙ found) nearest),
      ),
    )

-- what a stacking context lists without a node of which it isn't the nearest stacking context above
entries-without : (page : Contents) (x id : ℕ) (p : Placed) → ((k : ℕ) → occurrences page.tree k ≤ 1) → placed_of page id ≡ Some p → at is_real_context p ≡ true → context_of page x ≢ id → entries p ≡ entries (place_without x p)
entries-without page x id p distinct found real apart =
    entries-alike p (place_without x p) (record { label = refl; parent = refl }) (alike-without x p.below (hidden-in x p.below p.label p.above
    (omega (arith, occurrences-placed_in page.tree [] id p x found, distinct x)) nowhere))
  where
    nowhere : (q : Placed) → placed_in (p.label ∷ p.above) p.below x ≡ Some q → nearest_context q.above ≡ nearest_context (p.label ∷ p.above) → ⊥
    nowhere q found' nearest = apart (
        ap (λ (o : Option Placed). nearest_context (option_map_or (λ r. r.above) o [])) (placed_in-deeper page.tree [] id p x found (distinct x) (stands p.below (p.label ∷ p.above) x q found') ∙ found')
        ∙ nearest
        ∙ ap (λ b. if b then p.label.id else nearest_context p.above) real
        ∙ id-placed_in page.tree [] id p found)

-- the same nodes below other ancestors
alike-itself : (f : Forest) → AlikeTrees f f
alike-itself End = tt
alike-itself (Grow n below others) = (refl, ((λ plain. alike-itself below), alike-itself others))

pub record IsElsewhere (p q : Placed) : Type 0 where
  pub same : IsSame p q
  pub below : p.below ≡ q.below

abbrev pub AreElsewhere : Option Placed → Option Placed → Type 0
AreElsewhere None None = Unit {0}
AreElsewhere None (Some q) = ⊥
AreElsewhere (Some p) None = ⊥
AreElsewhere (Some p) (Some q) = IsElsewhere p q

pub elsewhere : (f : Forest) (a b : Label) (above above' : List Label) (id : ℕ) → AreElsewhere (placed_in (a ∷ above) f id) (placed_in (b ∷ above') f id)
elsewhere End a b above above' id = tt
elsewhere (Grow n below others) a b above above' id =
    by_parts (n.id == id) (placed_in (n ∷ (a ∷ above)) below id) (placed_in (a ∷ above) others id) (placed_in (n ∷ (b ∷ above')) below id) (placed_in (b ∷ above') others id) (elsewhere below n n (a ∷ above) (b ∷ above') id) (elsewhere others a b above above' id)
  where
    by_parts : (here : Bool) (o u o' u' : Option Placed) → AreElsewhere o o' → AreElsewhere u u' →
        AreElsewhere (if here then Some (record { label = n; above = a ∷ above; below = below }) else option_or o u) (if here then Some (record { label = n; above = b ∷ above'; below = below }) else option_or o' u')
    by_parts true o u o' u' deeper beside = record { same = record { label = refl; parent = refl }; below = refl }
    by_parts false None u None u' deeper beside = beside
    by_parts false None u (Some q) u' deeper beside = absurd deeper
    by_parts false (Some p) u None u' deeper beside = absurd deeper
    by_parts false (Some p) u (Some q) u' deeper beside = deeper

-- what stays of a node that the edit doesn't change
pub record Stays (p q : Placed) : Type 0 where
  pub same : IsSame p q
  pub listed : entries p ≡ entries q

module _ (page after : Contents) (x : ℕ) (keeps : KeepsTrees page after x) (id : ℕ) (other : id ≢ x) where
  abbrev rest : Forest
  rest = taken_out x page.tree

  -- its place in the trees without the changed node
  pub place-rest : 0 < occurrences rest id → (placed_in [] rest id ≡ option_map (place_without x) (placed_of page id)) × (placed_in [] rest id ≡ option_map (place_without x) (placed_of after id))
  place-rest some = (
    placed_in-taken_out page.tree [] x id (keeps.distinct id) some,
    ap (λ (f : Forest). placed_in [] f id) (sym keeps.rest) ∙ placed_in-taken_out after.tree [] x id (keeps.distinct_after id) (subst (λ (f : Forest). 0 < occurrences f id) (sym keeps.rest) some),
  )

  module _ (p q : Placed) (found : placed_of page id ≡ Some p) (found' : placed_of after id ≡ Some q) (real : at is_real_context p ≡ true) (before : context_of page x ≢ id) (later : context_of after x ≢ id) where
    -- it stands among them
    stays-in_rest : 0 < occurrences rest id → Stays p q
    stays-in_rest some =
        let places = place-rest some in
        let both : Some (place_without x p) ≡ Some (place_without x q) = sym (ap (option_map (place_without x)) found) ∙ sym places.0 ∙ places.1 ∙ ap (option_map (place_without x)) found' in
        let one : place_without x p ≡ place_without x q = cc in
        let label_is : p.label ≡ q.label = ap (λ (r : Placed). r.label) one in
        let above_is : p.above ≡ q.above = ap (λ (r : Placed). r.above) one in
        let real' : at is_real_context q ≡ true = ap (λ (a : List Label). is_real_context (parent_of a) q.label) (sym above_is) ∙ ap (is_real_context (parent_of p.above)) (sym label_is) ∙ real in
        record {
          same = record { label = label_is; parent = ap (λ (a : List Label). is_some (parent_of a)) above_is };
          listed = entries-without page x id p keeps.distinct found real before ∙ ap entries one ∙ sym (entries-without after x id q keeps.distinct_after found' real' later);
        }

-- a node that stands among the trees and not among those without another one is below that
pub record IsBelow (page : Contents) (x id : ℕ) : Type 0 where
  pub place : Placed
  pub found : placed_of page x ≡ Some place
  pub some : 0 < occurrences place.below id

pub is_below : (page : Contents) (x id : ℕ) → ((k : ℕ) → occurrences page.tree k ≤ 1) → id ≢ x → 0 < occurrences page.tree id → occurrences (taken_out x page.tree) id ≡ 0 → IsBelow page x id
is_below page x id distinct other some none =
    by_place (placed_of page x) refl (omega (arith, some, none, occurrences-parted page.tree [] x id (distinct x)))
  where
    by_place : (o : Option Placed) → placed_of page x ≡ o → 0 < occurrences (option_map_or (λ p. Grow p.label p.below End) o End) id → IsBelow page x id
    by_place None is some' = absurd (omega (arith, some'))
    by_place (Some r) is some' =
        let here : r.label.id ≡ x = id-placed_in page.tree [] x r is in
        let apart : r.label.id ≢ id = grind (arith, nat_tests) in
        record { place = r; found = is; some = grind (arith, nat_tests) }

module _ (page after : Contents) (x : ℕ) (keeps : KeepsTrees page after x) (id : ℕ) (other : id ≢ x) (p q : Placed) (found : placed_of page id ≡ Some p) (found' : placed_of after id ≡ Some q) where
  -- it stands below the changed node
  stays-below : occurrences (taken_out x page.tree) id ≡ 0 → Stays p q
  stays-below none =
      let lower = is_below page x id keeps.distinct other (stands page.tree [] id p found) none in
      let lower' = is_below after x id keeps.distinct_after other (stands after.tree [] id q found') (ap (λ f. occurrences f id) keeps.rest ∙ none) in
      let r = lower.place in
      let r' = lower'.place in
      let below_is : r.below ≡ r'.below = keeps.below r.below r'.below (ap (option_map (λ p. p.below)) lower.found) (ap (option_map (λ p. p.below)) lower'.found) in
      let p_is : placed_in (r.label ∷ r.above) r.below id ≡ Some p = sym (placed_in-deeper page.tree [] x r id lower.found (keeps.distinct id) lower.some) ∙ found in
      let q_is : placed_in (r'.label ∷ r'.above) r.below id ≡ Some q = ap (λ (f : Forest). placed_in (r'.label ∷ r'.above) f id) below_is ∙ sym (placed_in-deeper after.tree [] x r' id lower'.found (keeps.distinct_after id) lower'.some) ∙ found' in
      let is : IsElsewhere p q = subst (λ (o : Option Placed). AreElsewhere (Some p) o) q_is (subst (λ (o : Option Placed). AreElsewhere o (placed_in (r'.label ∷ r'.above) r.below id)) p_is (elsewhere r.below r.label r'.label r.above r'.above id)) in
      record { same = is.same; listed = entries-alike p q is.same (subst (AlikeTrees p.below) is.below (alike-itself p.below)) }

  stays : at is_real_context p ≡ true → context_of page x ≢ id → context_of after x ≢ id → Stays p q
  stays real before later = elim (cases_lt 0 (occurrences (taken_out x page.tree) id)) [
    | inl some ↦ stays-in_rest page after x keeps id other p q found found' real before later some
    | inr few ↦ stays-below (omega (arith, few))
  ]

-- the list of a stacking context that stays one
module _ (page after : Contents) (changed id : ℕ) (keeps : KeepsTrees page after changed) where
  pub keeps-list : makes_context page id ≡ true → has_id after id ≡ true → changed ≢ id → context_of page changed ≢ id → context_of after changed ≢ id → KeepsList page after id
  keeps-list real there other before later = by_places (placed_of page id) (placed_of after id) refl refl real there
    where
      by_places : (o o' : Option Placed) → placed_of page id ≡ o → placed_of after id ≡ o' → option_map_or (λ p. is_real_context (parent_of p.above) p.label) o false ≡ true → is_some o' ≡ true → KeepsList page after id
      by_places None o' is is' real' there' = absurd (false≢true real')
      by_places (Some p) None is is' real' there' = absurd (false≢true there')
      by_places (Some p) (Some q) is is' real' there' =
          let stay = stays page after changed keeps id (λ same. other (sym same)) p q is is' real' before later in
          record {
            context = ap (λ o. option_map_or (λ r. is_real_context (parent_of r.above) r.label) o false) is' ∙ sym (same-at is_real_context real-looks p q stay.same) ∙ real';
            listed = ap (λ o. option_map_or entries o []) is' ∙ sym stay.listed ∙ sym (ap (λ o. option_map_or entries o []) is);
          }

-- what an edit keeps of a page, by the node that it changes
pub kept-by : (page : Contents) (edit : Edit) (changed : ℕ) → IsFaultless page edit → edited_node page edit ≡ Some changed → KeepsTrees page (edited page edit) changed
kept-by page edit changed can is = subst (λ o. IfSome o (KeepsTrees page (edited page edit))) is (keeps-trees page edit can)

-- a stacking context that isn't next to a node
pub record IsApart (page : Contents) (changed id : ℕ) : Type 0 where
  pub above : context_of page changed ≢ id
  pub other : changed ≢ id

pub is_apart : (page : Contents) (changed id : ℕ) → is_next_to page changed id ≡ false → IsApart page changed id
is_apart page changed id is = record { above = grind (arith, nat_tests, is); other = grind (arith, nat_tests, is) }

-- there is no context without a node
pub context-there : (page : Contents) (id : ℕ) → makes_context page id ≡ true → has_id page id ≡ true
context-there page id real = by_place (placed_of page id) real
  where
    by_place : (o : Option Placed) → option_map_or (λ p. is_real_context (parent_of p.above) p.label) o false ≡ true → is_some o ≡ true
    by_place None is = is
    by_place (Some p) is = refl

-- the frame law on lists
pub frame-list : (page : Contents) (edit : Edit) (changed id : ℕ) → IsFaultless page edit → edited_node page edit ≡ Some changed → makes_context page id ≡ true → makes_context (edited page edit) id ≡ true →
    is_next_to page changed id ≡ false → is_next_to (edited page edit) changed id ≡ false → of_node entries (edited page edit) id ≡ of_node entries page id
frame-list page edit changed id can is real real' before later =
    let apart = is_apart page changed id before in
    let apart' = is_apart (edited page edit) changed id later in
    (keeps-list page (edited page edit) changed id (kept-by page edit changed can is) real (context-there (edited page edit) id real') apart.other apart.above apart'.above).listed

-- an edit of the viewport leaves all trees
pub tree-viewed : (page : Contents) (edit : Edit) → edited_node page edit ≡ None → (edited page edit).tree ≡ page.tree
tree-viewed page (Add parent at kind boxes style) none = absurd cc
tree-viewed page (Remove node) none = absurd cc
tree-viewed page (Move node parent at) none = absurd cc
tree-viewed page (Place node anchor boxes max) none = absurd cc
tree-viewed page (Restyle node style) none = absurd cc
tree-viewed page (Reshape node form) none = absurd cc
tree-viewed page (Scroll node x y) none = absurd cc
tree-viewed page (Resize w h max) none = refl
tree-viewed page (ScrollView x y) none = refl

pub view-list : (page : Contents) (edit : Edit) (id : ℕ) → edited_node page edit ≡ None → of_node entries (edited page edit) id ≡ of_node entries page id
view-list page edit id none = ap (λ (f : Forest). option_map_or entries (placed_in [] f id) []) (tree-viewed page edit none)
