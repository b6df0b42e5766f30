-- An edit of a node makes no other node a stacking context: one that stands apart from the node keeps its label and its
-- ancestors, and one below it keeps its label and stays below a node.
use Rattle.std.proofs.Common.{◌≡◌, ◌≢◌, ◌⊎◌, ℕ, ◌<◌, ◌≤◌, List, [], ◌∷◌, Option, Some, None, IfSome, is_some, Bool, true, false, refl, sym, ap, ◌∙◌, subst, inl, inr, arith}
use Rattle.std.specs.Option.{option_map, option_map_or}
use Rattle.std.proofs.lemmas.Bool.{cases_lt, cases_eq, false≢true}
use Rattle.std.proofs.lemmas.Bool.Decides.{nat_tests}
use Rattle.std.proofs.lemmas.Option.{none-some}
use Rattle.box_tree.specs.declared.edit.Edit.{Edit}
use Rattle.box_tree.specs.declared.edit.Edit.TheVariants.{Add, Remove, Move, Place, Restyle, Reshape, Scroll, Resize, ScrollView}
use Rattle.box_tree.specs.declared.kind.Kind.{Kind}
use Rattle.box_tree.specs.declared.piece.Piece.{Piece}
use Rattle.computed_style.specs.declared.style.Style.{Style}
use Rattle.box_tree.specs.Forest.{Forest, End, occurrences, Placed, placed_in}
use Rattle.box_tree.specs.Contents.{Contents, IsValid, placed_of, has_id, new_label}
use Rattle.box_tree.specs.Containing.{parent_of, makes_context}
use Rattle.box_tree.specs.Edited.{taken_out, edited}
use Rattle.box_tree.specs.Frame.{edited_node, IsFaultless}
use Rattle.box_tree.specs.Used.{is_real_context}
use Rattle.box_tree.proofs.AddLemmas.{MayAdd, may_add, once_there}
use Rattle.box_tree.proofs.ForestLemmas.{occurrences-put_below}
use Rattle.box_tree.proofs.PlanLemmas.{planted-root, planted-below}
use Rattle.box_tree.proofs.TakenLemmas.{place_without}
use Rattle.stacking.specs.Frame.{is_next_to}
use Rattle.stacking.proofs.AlikeLemmas.{same-at, real-looks}
use Rattle.stacking.proofs.RestLemmas.{placed_in-deeper, KeepsTrees}
use Rattle.stacking.proofs.FrameLemmas.{stands, AreElsewhere, elsewhere, place-rest, is_below, kept-by, context-there, tree-viewed}
use Rattle.stacking.proofs.TouchedLemmas.{named_there}

-- whether what was found is a stacking context
abbrev real_of : Option Placed → Bool
real_of o = option_map_or (λ p. is_real_context (parent_of p.above) p.label) o false

real-without : (x : ℕ) (o : Option Placed) → real_of (option_map (place_without x) o) ≡ real_of o
real-without x None = refl
real-without x (Some p) = refl

real-elsewhere : (o o' : Option Placed) → AreElsewhere o o' → real_of o ≡ real_of o'
real-elsewhere None None are = refl
real-elsewhere None (Some q) are = absurd are
real-elsewhere (Some p) None are = absurd are
real-elsewhere (Some p) (Some q) are = same-at is_real_context real-looks p q are.same

module _ (page after : Contents) (x : ℕ) (keeps : KeepsTrees page after x) (k : ℕ) (other : k ≢ x) where
  real-in_rest : 0 < occurrences (taken_out x page.tree) k → makes_context page k ≡ makes_context after k
  real-in_rest some =
      let places = place-rest page after x keeps k other some in
      sym (real-without x (placed_of page k)) ∙ ap real_of (sym places.0 ∙ places.1) ∙ real-without x (placed_of after k)

  real-below : (r r' : Placed) → placed_of page x ≡ Some r → placed_of after x ≡ Some r' → 0 < occurrences r'.below k → makes_context page k ≡ makes_context after k
  real-below r r' found found' some =
      let below_is : r.below ≡ r'.below = keeps.below r.below r'.below (ap (option_map (λ p. p.below)) found) (ap (option_map (λ p. p.below)) found') in
      let some' : 0 < occurrences r.below k = subst (λ (f : Forest). 0 < occurrences f k) (sym below_is) some in
      ap real_of (placed_in-deeper page.tree [] x r k found (keeps.distinct k) some')
      ∙ real-elsewhere (placed_in (r.label ∷ r.above) r.below k) (placed_in (r'.label ∷ r'.above) r.below k) (elsewhere r.below r.label r'.label r.above r'.above k)
      ∙ ap (λ (f : Forest). real_of (placed_in (r'.label ∷ r'.above) f k)) below_is
      ∙ sym (ap real_of (placed_in-deeper after.tree [] x r' k found' (keeps.distinct_after k) some))

-- another node that stands after an add stood before it
added-before : (page : Contents) (parent at : ℕ) (kind : Kind) (boxes : List Piece) (style : Style) → IsValid page → MayAdd page parent at kind style boxes → (k : ℕ) → page.next ≢ k → occurrences (edited page (Add parent at kind boxes style)).tree k ≤ occurrences page.tree k
added-before page parent at kind boxes style valid may k other =
    let label = new_label page.next kind style boxes in
    elim (cases_eq parent 0) [
      | inl none_named ↦
          let is = ap (λ f. occurrences f k) (planted-root parent at label page.tree none_named) in
          grind (arith, nat_tests, is)
      | inr named ↦
          let there : has_id page parent ≡ true = elim may.present [
            | inl none_named ↦ absurd (named none_named)
            | inr is ↦ is
          ] in
          let is = ap (λ f. occurrences f k) (planted-below parent at label page.tree named) in
          let more = occurrences-put_below page.tree parent at label End k (once_there page parent valid there) in
          grind (arith, nat_tests, is, more)
    ]

-- the node that an edit changes was there, or all others were
abbrev WereThere : (page after : Contents) → ℕ → Type 0
WereThere page after x = (has_id page x ≡ true) ⊎ ((k : ℕ) → x ≢ k → occurrences after.tree k ≤ occurrences page.tree k)

were_there : (page : Contents) (edit : Edit) → IsFaultless page edit → IfSome (edited_node page edit) (WereThere page (edited page edit))
were_there page (Add parent at kind boxes style) can = inr (added-before page parent at kind boxes style can.valid (may_add page parent at kind style boxes can.none))
were_there page (Remove id) can = inl (named_there page (Remove id) can.none)
were_there page (Move id parent at) can = inl (named_there page (Move id parent at) can.none)
were_there page (Place id anchor boxes max) can = inl (named_there page (Place id anchor boxes max) can.none)
were_there page (Restyle id style) can = inl (named_there page (Restyle id style) can.none)
were_there page (Reshape id form) can = inl (named_there page (Reshape id form) can.none)
were_there page (Scroll id x y) can = inl (named_there page (Scroll id x y) can.none)
were_there page (Resize w h max) can = tt
were_there page (ScrollView x y) can = tt

module _ (page : Contents) (edit : Edit) (x k : ℕ) (can : IsFaultless page edit) (is : edited_node page edit ≡ Some x) where
  keeps : KeepsTrees page (edited page edit) x
  keeps = kept-by page edit x can is

  -- another node that stands after the edit is a stacking context if it was one
  real-same : k ≢ x → 0 < occurrences (edited page edit).tree k → makes_context page k ≡ makes_context (edited page edit) k
  real-same other some = elim (cases_lt 0 (occurrences (taken_out x page.tree) k)) [
    | inl some' ↦ real-in_rest page (edited page edit) x keeps k other some'
    | inr few ↦ by_place (omega (arith, few)) (placed_of page x) refl (subst (λ (o : Option ℕ). IfSome o (WereThere page (edited page edit))) is (were_there page edit can))
  ]
    where
      by_place : occurrences (taken_out x page.tree) k ≡ 0 → (o : Option Placed) → placed_of page x ≡ o → WereThere page (edited page edit) x → makes_context page k ≡ makes_context (edited page edit) k
      by_place none (Some r) found were =
          let lower = is_below (edited page edit) x k keeps.distinct_after other some (ap (λ f. occurrences f k) keeps.rest ∙ none) in
          real-below page (edited page edit) x keeps k other r lower.place found lower.found lower.some
      by_place none None found (inl there) = absurd (false≢true (sym (ap is_some found) ∙ there))
      by_place none None found (inr before) =
          let lower = is_below page x k keeps.distinct other (omega (arith, some, before k (λ same. other (sym same)))) none in
          absurd (none-some lower.place (sym found ∙ lower.found))

  -- the one that an edit makes is the node that it changes
  pub made-is : makes_context page k ≡ false → makes_context (edited page edit) k ≡ true → k ≡ x
  made-is before later = elim (cases_eq k x) [
    | inl same ↦ same
    | inr other ↦ absurd (false≢true (sym before ∙ real-same other (there (placed_of (edited page edit) k) refl (context-there (edited page edit) k later)) ∙ later))
  ]
    where
      there : (o : Option Placed) → placed_of (edited page edit) k ≡ o → is_some o ≡ true → 0 < occurrences (edited page edit).tree k
      there None found some = absurd (false≢true some)
      there (Some q) found some = stands (edited page edit).tree [] k q found

  pub made-there : makes_context page k ≡ false → makes_context (edited page edit) k ≡ true → has_id (edited page edit) x ≡ true
  made-there before later = sym (ap (has_id (edited page edit)) (made-is before later)) ∙ context-there (edited page edit) k later

  pub made-next : makes_context page k ≡ false → makes_context (edited page edit) k ≡ true → is_next_to (edited page edit) x k ≡ true
  made-next before later = let same = made-is before later in grind (arith, nat_tests, same)

-- an edit of the viewport makes none
pub view-contexts : (page : Contents) (edit : Edit) (id : ℕ) → edited_node page edit ≡ None → makes_context (edited page edit) id ≡ makes_context page id
view-contexts page edit id none = ap (λ (f : Forest). real_of (placed_in [] f id)) (tree-viewed page edit none)
