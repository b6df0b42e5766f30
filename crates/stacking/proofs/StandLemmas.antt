-- Where stacking contexts stand in lists: each but the root in the list of the nearest one above it, and in no other.
use Rattle.std.proofs.Common.{◌≡◌, ◌⊎◌, ℕ, ◌+◌, ◌<◌, ◌≤◌, ◌==◌, List, [], ◌∷◌, length, Option, Some, slice_get, Bool, true, false, refl, sym, ap, ◌∙◌, subst, inl, inr, arith}
use Rattle.std.specs.Prelude.{if◌then◌else◌}
use Rattle.std.specs.List.{list_any}
use Rattle.std.specs.Option.{option_map_or}
use Rattle.std.proofs.lemmas.Bool.{false≢true}
use Rattle.std.proofs.lemmas.Bool.Decides.{nat_tests}
use Rattle.box_tree.specs.Forest.{Label, Forest, End, Grow, height_of, Placed, placed_in, roots_of}
use Rattle.box_tree.specs.Contents.{Contents, IsValid}
use Rattle.box_tree.specs.Containing.{parent_of, makes_context}
use Rattle.box_tree.specs.Edited.{is_root}
use Rattle.box_tree.specs.Used.{is_real_context}
use Rattle.box_tree.proofs.PlacedLemmas.{id-placed_in, AreAtPlaces, page-at_places}
use Rattle.box_tree.proofs.SubtreeLemmas.{Head, Deeper, Beside, found_in}
use Rattle.stacking.specs.Painting.{at, ContextEntry, OneItem, SubContext, entries}
use Rattle.stacking.specs.Contexts.{nearest_context, context_of}
use Rattle.stacking.specs.Lists.{IsListedAt}
use Rattle.stacking.proofs.WeightLemmas.{total, heavy, given_by, given-step}
use Rattle.stacking.proofs.MemberLemmas.{IsContextAt, context_at, makes-context, of_node-context, IsListed, listed-at}
use Rattle.stacking.proofs.EntryLemmas.{sub_weight, context_weight, plain-weight, sub-list, list_at, at_place}

-- a stacking context in whose list another stands
pub record HasInList (page : Contents) (id : ℕ) : Type 0 where
  pub context : ℕ
  pub at_place : IsContextAt page context
  pub some : 0 < total (sub_weight id) (entries at_place.place)

module _ (page : Contents) (id : ℕ) where
  -- how often trees give the stacking context as a member
  abbrev given : List Label → Forest → ℕ
  given above f = given_by (context_weight id) (plain-weight id) above f

  -- a stacking context that stands in trees is a member that they give, or stands in the list of one of theirs
  given_or_listed : (above : List Label) (f : Forest) (q : Placed) → AreAtPlaces page above f → placed_in above f id ≡ Some q → at is_real_context q ≡ true → (0 < given above f) ⊎ HasInList page id
  given_or_listed above End q known found real = absurd cc
  given_or_listed above (Grow n below others) q known found real =
      let step = given-step (context_weight id) (plain-weight id) n above below others in
      elim (found_in n below others above id q found) [
        | Head here is ↦ inl (omega (arith, step, itself here is))
        | Deeper other is ↦ elim (given_or_listed (n ∷ above) below q known.1.0 is real) [
          | inl some ↦ by_test (is_real_context (parent_of above) n) refl some step
          | inr listed ↦ inr listed
        ]
        | Beside other is ↦ elim (given_or_listed above others q known.1.1 is real) [
          | inl some ↦ inl (omega (arith, step, some))
          | inr listed ↦ inr listed
        ]
      ]
    where
      itself : n.id ≡ id → q ≡ record { label = n; above = above; below = below } → context_weight id (record { label = n; above = above; below = below }) ≡ 1
      itself here is = ap (λ (r : Placed). context_weight id r) (sym is) ∙ ap (λ b. if b then (if q.label.id == id then 1 else 0) else 0) real ∙ ap {B = ℕ} (λ b. if b then 1 else 0) (same (ap (λ (r : Placed). r.label.id) is ∙ here))
        where
          same : q.label.id ≡ id → (q.label.id == id) ≡ true
          same is' = grind (arith, nat_tests)

      by_test : (b : Bool) → is_real_context (parent_of above) n ≡ b → 0 < given (n ∷ above) below →
          given above (Grow n below others) ≡ (context_weight id (record { label = n; above = above; below = below }) + (if is_real_context (parent_of above) n then 0 else given (n ∷ above) below)) + given above others →
          (0 < given above (Grow n below others)) ⊎ HasInList page id
      by_test true is some step = inr (record { context = n.id; at_place = record { place = record { label = n; above = above; below = below }; found = known.0; real = is }; some = omega (arith, some, sub-list id (record { label = n; above = above; below = below })) })
      by_test false is some step = inl (omega (arith, some, step, ap (λ b. if b then 0 else given (n ∷ above) below) is))

  -- only the root is given by the whole tree
  root-given : (f : Forest) → length (roots_of f) ≤ 1 → 0 < given [] f → list_any (λ root. root == id) (roots_of f) ≡ true
  root-given End one some = absurd (omega arith)
  root-given (Grow n below End) one some = by_test (n.id == id) refl (given-step (context_weight id) (plain-weight id) n [] below End)
    where
      by_test : (b : Bool) → (n.id == id) ≡ b → given [] (Grow n below End) ≡ ((if n.id == id then 1 else 0) + 0) + 0 → list_any (λ root. root == id) (n.id ∷ []) ≡ true
      by_test true is step = rw is refl
      by_test false is step = absurd (omega (arith, some, step, ap {B = ℕ} (λ b. if b then 1 else 0) is))
  root-given (Grow n below (Grow m deeper others)) one some = absurd (omega arith)

-- what weighs something is the stacking context itself
which : (id : ℕ) (entry : ContextEntry) → 0 < sub_weight id entry → entry ≡ SubContext id
which id (OneItem item) some = absurd (omega arith)
which id (SubContext other) some = by_test (other == id) refl some
  where
    by_test : (b : Bool) → (other == id) ≡ b → 0 < (if b then 1 else 0) → SubContext other ≡ SubContext id
    by_test true is some' = let same : other ≡ id = grind (arith, nat_tests) in ap SubContext same
    by_test false is some' = absurd (omega arith)

-- what stands as a stacking context in the list of one
module _ (page : Contents) (valid : IsValid page) (id context k : ℕ) (is : IsListedAt page (SubContext id) context k) where
  abbrev list : IsContextAt page context
  list = list_at page (SubContext id) context k is

  abbrev sub : IsListed page (height_of list.place.below) list.place.label.id id
  sub = listed-at page context list valid k id (at_place page (SubContext id) context k is)

  -- is one of the page
  pub sub-real : makes_context page id ≡ true
  sub-real = makes-context page id sub.at_place

  -- and that one is the nearest above it
  pub sub-nearest : context_of page id ≡ context
  sub-nearest = ap (λ (o : Option Placed). nearest_context (option_map_or (λ q. q.above) o [])) sub.at_place.found ∙ sub.within.nearest ∙ id-placed_in page.tree [] context list.place list.found

-- a stacking context other than the root
module _ (page : Contents) (valid : IsValid page) (id : ℕ) (real : makes_context page id ≡ true) (inner : is_root page id ≡ false) where
  has_in_list : HasInList page id
  has_in_list =
      let c = context_at page id real in
      elim (given_or_listed page id [] page.tree c.place (page-at_places page valid) c.found c.real) [
        | inl some ↦ absurd (false≢true (sym inner ∙ root-given page id page.tree valid.one_tree some))
        | inr listed ↦ listed
      ]

  pub stands_above : (k : ℕ) × IsListedAt page (SubContext id) (context_of page id) k
  stands_above =
      let has = has_in_list in
      let in_list = heavy (sub_weight id) (entries has.at_place.place) has.some in
      let is : IsListedAt page (SubContext id) has.context in_list.place = record {
        is_context = makes-context page has.context has.at_place;
        stands = ap (λ es. slice_get es in_list.place) (of_node-context page has.context has.at_place entries) ∙ in_list.at ∙ ap Some (which id in_list.element in_list.some);
      } in
      (in_list.place, subst (λ (c : ℕ). IsListedAt page (SubContext id) c in_list.place) (sym (sub-nearest page valid id has.context in_list.place is)) is)
