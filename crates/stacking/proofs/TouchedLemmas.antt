-- The nodes among which are the stacking contexts whose lists an edit can change.
use Rattle.std.proofs.Common.{◌≡◌, ◌≢◌, ℕ, suc, ◌+◌, ◌<◌, ◌≤◌, ◌==◌, List, [], ◌∷◌, ◌++◌, length, get_or, drop, map, Option, Some, None, is_some, Bool, true, false, refl, sym, ap, ◌∙◌, subst, inl, inr, arith, append_assoc, drop-cons}
use Rattle.std.specs.Prelude.{if◌then◌else◌, nat_lt, not, ◌||◌, ◌&&◌}
use Rattle.std.specs.List.{filter, AllByRecursion}
use Rattle.std.proofs.lemmas.Bool.Decides.{nat_tests}
use Rattle.std.specs.Option.{option_map, option_map_or}
use Rattle.std.proofs.lemmas.List.Elements.{filter-append}
use Rattle.std.proofs.lemmas.Bool.{cases_eq, false≢true}
use Rattle.box_tree.specs.declared.edit.Edit.{Edit}
use Rattle.box_tree.specs.declared.edit.Edit.TheVariants.{Add, Remove, Move, Place, Restyle, Reshape, Scroll, Resize, ScrollView}
use Rattle.box_tree.specs.Forest.{Label, Forest, End, Grow, Placed, placed_in, occurrences, roots_of, ids_in}
use Rattle.box_tree.specs.Contents.{Contents, placed_of, tree_of, below_of, ancestors_of, parent_id, has_id, new_label, IsValid}
use Rattle.box_tree.specs.Planned.{is_among, times_in}
use Rattle.box_tree.specs.Containing.{parent_of, makes_context}
use Rattle.box_tree.specs.Edited.{first_fault, faults_of, put_below, planted, taken_out, relabelled, laid_out, restyled, reshaped, scrolled_node, edited}
use Rattle.box_tree.specs.Used.{is_real_context}
use Rattle.box_tree.proofs.AddLemmas.{MayAdd, may_add, none_holds, not_false, once_there, ancestors_below-none}
use Rattle.box_tree.proofs.ForestLemmas.{single, ancestors_in, placed_in-absent, placed_in-present, placed_in-head, occurrences-put_below}
use Rattle.box_tree.proofs.PlaceLemmas.{new_place, occurrences-relabelled, placed_in-relabelled}
use Rattle.box_tree.proofs.PlanLemmas.{planted-root, planted-below}
use Rattle.stacking.proofs.RestLemmas.{gone, place-put_below}
use Rattle.stacking.proofs.FrameLemmas.{keeps-list, kept-by, context-there}
use Rattle.computed_style.specs.declared.style.Style.{Style}
use Rattle.box_tree.specs.declared.kind.Kind.{Kind}
use Rattle.box_tree.specs.declared.piece.Piece.{Piece}
use Rattle.box_tree.proofs.PutLemmas.{given-absent}
use Rattle.box_tree.proofs.SubtreeLemmas.{Head, Deeper, Beside, found_in, is_among-ids_in}
use Rattle.box_tree.proofs.TakenLemmas.{taken_out-absent, occurrences-parted, occurrences-taken_out, place_without, placed_in-taken_out}
use Rattle.stacking.proofs.ListLemmas.{each-weaken}
use Rattle.box_tree.proofs.PlacedLemmas.{id-placed_in, AreAtPlaces, found-at_places}
use Rattle.box_tree.proofs.CountLemmas.{times_in-append, times_in-ids_in}
use Rattle.box_tree.proofs.MoveLemmas.{may_move}
use Rattle.box_tree.specs.Frame.{edited_node, IsFaultless}
use Rattle.stacking.specs.Frame.{is_next_to, can_change, KeepsList}
use Rattle.stacking.specs.Contexts.{nearest_context, context_of}
use Rattle.stacking.specs.Touched.{contexts_among, context_around, near, new_context, candidates}

pub around-itself : (page : Contents) (id : ℕ) → makes_context page id ≡ true → id ≡ context_around page id
around-itself page id real = by_place (placed_of page id) refl real
  where
    by_place : (o : Option Placed) → placed_of page id ≡ o → option_map_or (λ p. is_real_context (parent_of p.above) p.label) o false ≡ true → id ≡ nearest_context (option_map_or (λ p. p.label ∷ p.above) o [])
    by_place None is real' = absurd (false≢true real')
    by_place (Some p) is real' = sym (ap (λ b. if b then p.label.id else nearest_context p.above) real' ∙ id-placed_in page.tree [] id p is)

pub among-append : (page : Contents) (xs ys : List ℕ) → contexts_among page (xs ++ ys) ≡ contexts_among page xs ++ contexts_among page ys
among-append page xs ys = filter-append (makes_context page) xs ys

-- one node more
pub among-more : (page : Contents) (items : List ℕ) (k : ℕ) (out out' all : List ℕ) → k < length items → out' ≡ out ++ contexts_among page (get_or items k 0 ∷ []) →
    out ++ contexts_among page (drop k items) ≡ all → out' ++ contexts_among page (drop (k + 1) items) ≡ all
among-more page items k out out' all within more known =
    let next : suc k ≡ k + 1 = omega arith in
    let left : drop k items ≡ get_or items k 0 ∷ drop (k + 1) items = drop-cons items k 0 within ∙ ap (λ (i : ℕ). get_or items k 0 ∷ drop i items) next in
    ap (λ xs. xs ++ contexts_among page (drop (k + 1) items)) more
    ∙ append_assoc out (contexts_among page (get_or items k 0 ∷ [])) (contexts_among page (drop (k + 1) items))
    ∙ ap (λ xs. out ++ xs) (sym (among-append page (get_or items k 0 ∷ []) (drop (k + 1) items)))
    ∙ ap (λ xs. out ++ contexts_among page xs) (sym left) ∙ known

-- the node that an edit without a fault names is there
abbrev pub NamedIsThere : Contents → Edit → Type 0
NamedIsThere page (Add parent at kind boxes style) = Unit {0}
NamedIsThere page (Remove id) = has_id page id ≡ true
NamedIsThere page (Move id parent at) = has_id page id ≡ true
NamedIsThere page (Place id anchor boxes max) = has_id page id ≡ true
NamedIsThere page (Restyle id style) = has_id page id ≡ true
NamedIsThere page (Reshape id form) = has_id page id ≡ true
NamedIsThere page (Scroll id x y) = has_id page id ≡ true
NamedIsThere page (Resize w h max) = Unit {0}
NamedIsThere page (ScrollView x y) = Unit {0}

first_of-two : (a b : Bool) → (not a || b) ≡ false → a ≡ true
first_of-two true b is = refl
first_of-two false b is = absurd (false≢true (sym is))

pub named_there : (page : Contents) (edit : Edit) → first_fault page edit ≡ None → NamedIsThere page edit
named_there page (Add parent at kind boxes style) none = tt
named_there page (Remove id) none = let tests = none_holds (faults_of page (Remove id)) none in not_false (has_id page id) tests.0
named_there page (Move id parent at) none = let tests = none_holds (faults_of page (Move id parent at)) none in first_of-two (has_id page id) _ tests.0
named_there page (Place id anchor boxes max) none = let tests = none_holds (faults_of page (Place id anchor boxes max)) none in not_false (has_id page id) tests.0
named_there page (Restyle id style) none = let tests = none_holds (faults_of page (Restyle id style)) none in not_false (has_id page id) tests.0
named_there page (Reshape id form) none = let tests = none_holds (faults_of page (Reshape id form)) none in not_false (has_id page id) tests.0
named_there page (Scroll id x y) none = let tests = none_holds (faults_of page (Scroll id x y)) none in not_false (has_id page id) tests.0
named_there page (Resize w h max) none = tt
named_there page (ScrollView x y) none = tt

-- what passes a test among some ids
pub among-filter : (t : ℕ → Bool) (xs : List ℕ) (k : ℕ) → is_among (filter t xs) k ≡ (is_among xs k && t k)
among-filter t [] k = refl
among-filter t (x ∷ xs) k = by_test (t x) refl (x == k) refl (among-filter t xs k)
  where
    by_test : (b : Bool) → t x ≡ b → (e : Bool) → (x == k) ≡ e → is_among (filter t xs) k ≡ (is_among xs k && t k) → is_among (if b then x ∷ filter t xs else filter t xs) k ≡ ((e || is_among xs k) && t k)
    by_test true is true same rest =
        let one : x ≡ k = grind (arith, nat_tests) in
        ap (λ c. c || is_among (filter t xs) k) same ∙ sym (sym (ap t one) ∙ is)
    by_test true is false other rest = ap (λ c. c || is_among (filter t xs) k) other ∙ rest
    by_test false is true same rest =
        let one : x ≡ k = grind (arith, nat_tests) in
        let no_more : t k ≡ false = sym (ap t one) ∙ is in
        rest ∙ ap (λ c. is_among xs k && c) no_more ∙ nothing (is_among xs k) ∙ sym no_more
      where
        nothing : (c : Bool) → (c && false) ≡ false
        nothing true = refl
        nothing false = refl
    by_test false is false other rest = rest

pub times-filter : (t : ℕ → Bool) (xs : List ℕ) (k : ℕ) → times_in k (filter t xs) ≤ times_in k xs
times-filter t [] k = omega arith
times-filter t (x ∷ xs) k = by_test (t x) (times-filter t xs k)
  where
    by_test : (b : Bool) → times_in k (filter t xs) ≤ times_in k xs → times_in k (if b then x ∷ filter t xs else filter t xs) ≤ times_in k (x ∷ xs)
    by_test true rest = omega (arith, rest)
    by_test false rest = omega (arith, rest)

pub among-both : (xs ys : List ℕ) (k : ℕ) → is_among (xs ++ ys) k ≡ (is_among xs k || is_among ys k)
among-both [] ys k = refl
among-both (x ∷ xs) ys k = ap (λ c. (x == k) || c) (among-both xs ys k) ∙ or-assoc (x == k) (is_among xs k) (is_among ys k)
  where
    or-assoc : (a b c : Bool) → (a || (b || c)) ≡ ((a || b) || c)
    or-assoc true b c = refl
    or-assoc false b c = refl

-- what holds of 0 and of each of some ancestors holds of the nearest stacking context among them
nearest-is : (P : ℕ → Type 0) (above : List Label) → P 0 → AllByRecursion (λ (n : Label). P n.id) above → P (nearest_context above)
nearest-is P [] none all = none
nearest-is P (n ∷ above) none all = by_test (is_real_context (parent_of above) n) (nearest-is P above none all.1)
  where
    by_test : (b : Bool) → P (nearest_context above) → P (if b then n.id else nearest_context above)
    by_test true rest = all.0
    by_test false rest = rest

-- no ancestor of a node stands in its tree
ancestors-apart : (f : Forest) (above : List Label) (id : ℕ) (p : Placed) → ((k : ℕ) → occurrences f k ≤ 1) → AllByRecursion (λ (n : Label). occurrences f n.id ≡ 0) above → placed_in above f id ≡ Some p → AllByRecursion (λ (n : Label). occurrences (Grow p.label p.below End) n.id ≡ 0) p.above
ancestors-apart End above id p once apart found = absurd cc
ancestors-apart (Grow n below others) above id p once apart found = elim (found_in n below others above id p found) [
  | Head here is ↦ subst (λ (q : Placed). AllByRecursion (λ (m : Label). occurrences (Grow q.label q.below End) m.id ≡ 0) q.above) (sym is) (each-weaken (λ (m : Label). occurrences (Grow n below others) m.id ≡ 0) (λ (m : Label). occurrences (Grow n below End) m.id ≡ 0) above (λ m none. omega (arith, none)) apart)
  | Deeper other is ↦
      let once' = once n.id in
      let own : occurrences below n.id ≡ 0 = grind (arith, nat_tests, once') in
      ancestors-apart below (n ∷ above) id p (λ k. omega (arith, once k)) (own, each-weaken (λ (m : Label). occurrences (Grow n below others) m.id ≡ 0) (λ (m : Label). occurrences below m.id ≡ 0) above (λ m none. omega (arith, none)) apart) is
  | Beside other is ↦ ancestors-apart others above id p (λ k. omega (arith, once k)) (each-weaken (λ (m : Label). occurrences (Grow n below others) m.id ≡ 0) (λ (m : Label). occurrences others m.id ≡ 0) above (λ m none. omega (arith, none)) apart) is
]

-- all ancestors of a node that stands in trees stand there
ancestors-there : (IsSo : ℕ → Type 0) (f : Forest) (above : List Label) (id : ℕ) (p : Placed) → ((k : ℕ) → 0 < occurrences f k → IsSo k) → AllByRecursion (λ (n : Label). IsSo n.id) above → placed_in above f id ≡ Some p → AllByRecursion (λ (n : Label). IsSo n.id) p.above
ancestors-there IsSo End above id p each known found = absurd cc
ancestors-there IsSo (Grow n below others) above id p each known found = elim (found_in n below others above id p found) [
  | Head here is ↦ subst (λ (q : Placed). AllByRecursion (λ (m : Label). IsSo m.id) q.above) (sym is) known
  | Deeper other is ↦ ancestors-there IsSo below (n ∷ above) id p (λ k some. each k (omega (arith, some))) (each n.id (grind (arith, nat_tests)), known) is
  | Beside other is ↦ ancestors-there IsSo others above id p (λ k some. each k (omega (arith, some))) known is
]

module _ (page : Contents) (valid : IsValid page) where
  -- no node has the id 0
  pub zero-absent : occurrences page.tree 0 ≡ 0
  zero-absent = given-absent page.tree [] page.next 0 valid.given (inl refl)

  zero-apart : (id : ℕ) → occurrences (tree_of page id) 0 ≡ 0
  zero-apart id = omega (arith, zero-absent, occurrences-parted page.tree [] id 0 (valid.distinct id))

  -- the context above a node doesn't stand in its tree
  above-apart : (id : ℕ) → occurrences (tree_of page id) (context_of page id) ≡ 0
  above-apart id = by_place (placed_of page id) refl (zero-apart id)
    where
      by_place : (o : Option Placed) → placed_of page id ≡ o → occurrences (option_map_or (λ p. Grow p.label p.below End) o End) 0 ≡ 0 → occurrences (option_map_or (λ p. Grow p.label p.below End) o End) (nearest_context (option_map_or (λ p. p.above) o [])) ≡ 0
      by_place None is none = refl
      by_place (Some p) is none = nearest-is (λ (k : ℕ). occurrences (Grow p.label p.below End) k ≡ 0) p.above none (ancestors-apart page.tree [] id p valid.distinct tt is)

  -- nor does that around the children of a node that isn't in the tree
  around-apart : (id parent : ℕ) → has_id page parent ≡ true → occurrences (tree_of page id) parent ≡ 0 → occurrences (tree_of page id) (context_around page parent) ≡ 0
  around-apart id parent there apart = by_place (placed_of page parent) refl there
    where
      stays : 0 < occurrences (taken_out id page.tree) parent
      stays = omega (arith, occurrences-parted page.tree [] id parent (valid.distinct id), once_there page parent valid there, apart)

      out : (k : ℕ) → 0 < occurrences (taken_out id page.tree) k → occurrences (tree_of page id) k ≡ 0
      out k some = omega (arith, some, occurrences-parted page.tree [] id k (valid.distinct id), valid.distinct k)

      by_place : (o : Option Placed) → placed_of page parent ≡ o → is_some o ≡ true → occurrences (tree_of page id) (nearest_context (option_map_or (λ p. p.label ∷ p.above) o [])) ≡ 0
      by_place None is there' = absurd (false≢true there')
      by_place (Some p) is there' =
          let found : placed_in [] (taken_out id page.tree) parent ≡ Some (place_without id p) = placed_in-taken_out page.tree [] id parent (valid.distinct parent) stays ∙ ap (option_map (place_without id)) is in
          nearest-is (λ (k : ℕ). occurrences (tree_of page id) k ≡ 0) (p.label ∷ p.above) (zero-apart id)
          (ap (occurrences (tree_of page id)) (id-placed_in page.tree [] parent p is) ∙ apart, ancestors-there (λ k. occurrences (tree_of page id) k ≡ 0) (taken_out id page.tree) [] parent (place_without id p) out tt found)

  -- a child of a node has it as its parent
  child-above : (above : List Label) (f : Forest) (k : ℕ) → AreAtPlaces page above f → is_among (roots_of f) k ≡ true → ancestors_of page k ≡ above
  child-above above End k places is = absurd (false≢true is)
  child-above above (Grow n below others) k places is = by_test (n.id == k) refl is (child-above above others k places.1.1)
    where
      by_test : (e : Bool) → (n.id == k) ≡ e → (e || is_among (roots_of others) k) ≡ true → (is_among (roots_of others) k ≡ true → ancestors_of page k ≡ above) → ancestors_of page k ≡ above
      by_test true same is' rest =
          let one : n.id ≡ k = grind (arith, nat_tests) in
          ap (ancestors_of page) (sym one) ∙ ap (λ (o : Option Placed). option_map_or (λ p. p.above) o []) places.0
      by_test false other is' rest = rest is'

  child-next : (id k : ℕ) → is_among (roots_of (below_of page id)) k ≡ true → (parent_id (ancestors_of page k) == id) ≡ true
  child-next id k is = by_place (placed_of page id) refl is
    where
      by_place : (o : Option Placed) → placed_of page id ≡ o → is_among (roots_of (option_map_or (λ p. p.below) o End)) k ≡ true → (parent_id (ancestors_of page k) == id) ≡ true
      by_place None found is' = absurd (false≢true is')
      by_place (Some p) found is' =
          let parent_is : parent_id (ancestors_of page k) ≡ id = ap parent_id (child-above (p.label ∷ p.above) p.below k (found-at_places page id p valid found) is') ∙ id-placed_in page.tree [] id p found in
          grind (arith, nat_tests, parent_is)

  -- what is near a node is next to it
  pub near-next : (id k : ℕ) → is_among (near page id) k ≡ true → is_next_to page id k ≡ true
  near-next id k is = by_tests (context_of page id == k) (id == k) (is_among (roots_of (below_of page id)) k) (parent_id (ancestors_of page k) == id) (child-next id k) is
    where
      by_tests : (a b c d : Bool) → (c ≡ true → d ≡ true) → (a || (b || c)) ≡ true → (a || (b || d)) ≡ true
      by_tests true b c d more is' = refl
      by_tests false true c d more is' = refl
      by_tests false false c d more is' = more is'

  -- no node is near it twice
  times-roots : (f : Forest) (k : ℕ) → times_in k (roots_of f) ≤ occurrences f k
  times-roots End k = omega arith
  times-roots (Grow n below others) k = omega (arith, times-roots others k)

  tree-once : (id k : ℕ) → occurrences (tree_of page id) k ≤ 1
  tree-once id k = omega (arith, occurrences-parted page.tree [] id k (valid.distinct id), valid.distinct k)

  near-tree : (id k : ℕ) → has_id page id ≡ true → times_in k (id ∷ roots_of (below_of page id)) ≤ occurrences (tree_of page id) k
  near-tree id k there = by_place (placed_of page id) refl there
    where
      by_place : (o : Option Placed) → placed_of page id ≡ o → is_some o ≡ true → times_in k (id ∷ roots_of (option_map_or (λ p. p.below) o End)) ≤ occurrences (option_map_or (λ p. Grow p.label p.below End) o End) k
      by_place None found there' = absurd (false≢true there')
      by_place (Some p) found there' = rw (← id-placed_in page.tree [] id p found) (omega (arith, times-roots p.below k))

  with-apart : (c k n m : ℕ) → (c ≡ k → n ≡ 0) → n ≤ 1 → m ≤ n → (if c == k then 1 else 0) + m ≤ 1
  with-apart c k n m apart once less = elim (cases_eq c k) [
    | inl same ↦ let none = apart same in grind (arith, nat_tests, none)
    | inr other ↦ grind (arith, nat_tests)
  ]

  above-once : (id k m : ℕ) → m ≤ occurrences (tree_of page id) k → (if context_of page id == k then 1 else 0) + m ≤ 1
  above-once id k m less = with-apart (context_of page id) k (occurrences (tree_of page id) k) m (λ same. ap (occurrences (tree_of page id)) (sym same) ∙ above-apart id) (tree-once id k) less

  near-once : (id k : ℕ) → has_id page id ≡ true → times_in k (near page id) ≤ 1
  near-once id k there = above-once id k _ (near-tree id k there)

  removed-once : (id k : ℕ) → times_in k (candidates page (Remove id)) ≤ 1
  removed-once id k = above-once id k _ (omega (arith, times_in-ids_in (tree_of page id) k))

  moved-once : (id parent at k : ℕ) → has_id page id ≡ true → has_id page parent ≡ true → occurrences (tree_of page id) parent ≡ 0 → times_in k (candidates page (Move id parent at)) ≤ 1
  moved-once id parent at k there there' apart = by_test (context_around page parent == context_of page id) refl
    where
      by_test : (b : Bool) → (context_around page parent == context_of page id) ≡ b → times_in k (near page id ++ (if b then [] else context_around page parent ∷ [])) ≤ 1
      by_test true same = omega (arith, times_in-append k (near page id) [], near-once id k there)
      by_test false other = elim (cases_eq (context_around page parent) k) [
        | inl is ↦
            let none : occurrences (tree_of page id) k ≡ 0 = ap (occurrences (tree_of page id)) (sym is) ∙ around-apart id parent there' apart in
            let few = near-tree id k there in
            let not_above : context_of page id ≢ k = grind (arith, nat_tests) in
            let both = times_in-append k (near page id) (context_around page parent ∷ []) in
            grind (arith, nat_tests, none, few, not_above, both)
        | inr differs ↦
            let both = times_in-append k (near page id) (context_around page parent ∷ []) in
            let once = near-once id k there in
            grind (arith, nat_tests, both, once)
      ]

  -- the candidates are all different
  pub candidates-once : (edit : Edit) (k : ℕ) → first_fault page edit ≡ None → times_in k (candidates page edit) ≤ 1
  candidates-once (Add parent at kind boxes style) k none = with-apart (context_around page parent) k 0 0 (λ same. refl) (omega arith) (omega arith)
  candidates-once (Remove id) k none = removed-once id k
  candidates-once (Move id parent at) k none = let may = may_move page id parent at none in moved-once id parent at k (named_there page (Move id parent at) none) may.parent_there may.apart
  candidates-once (Place id anchor boxes max) k none = near-once id k (named_there page (Place id anchor boxes max) none)
  candidates-once (Restyle id style) k none = near-once id k (named_there page (Restyle id style) none)
  candidates-once (Reshape id form) k none = near-once id k (named_there page (Reshape id form) none)
  candidates-once (Scroll id x y) k none = near-once id k (named_there page (Scroll id x y) none)
  candidates-once (Resize w h max) k none = omega arith
  candidates-once (ScrollView x y) k none = omega arith

  -- the context above a node stays where the node gets another label
  context-relabelled : (id : ℕ) (change : Label → Label) (keeps : (n : Label) → (change n).id ≡ n.id) → context_of (record page { tree = relabelled id change page.tree }) id ≡ context_of page id
  context-relabelled id change keeps =
      ap (λ (o : Option Placed). nearest_context (option_map_or (λ p. p.above) o [])) (placed_in-relabelled id change keeps page.tree [] id) ∙ by_place (placed_of page id) refl
    where
      same-above : (above : List Label) → AllByRecursion (λ (n : Label). n.id ≢ id) above → map (λ (m : Label). if m.id == id then change m else m) above ≡ above
      same-above [] others = refl
      same-above (n ∷ above) others =
          let other : (n.id == id) ≡ false = grind (arith, nat_tests, others.0) in
          ap (λ b. (if b then change n else n) ∷ map (λ (m : Label). if m.id == id then change m else m) above) other ∙ ap (λ (ns : List Label). n ∷ ns) (same-above above others.1)

      by_place : (o : Option Placed) → placed_of page id ≡ o → nearest_context (option_map_or (λ p. p.above) (option_map (new_place id change keeps) o) []) ≡ nearest_context (option_map_or (λ p. p.above) o [])
      by_place None found = refl
      by_place (Some p) found =
          let here : p.label.id ≡ id = id-placed_in page.tree [] id p found in
          ap nearest_context (same-above p.above (each-weaken (λ (n : Label). occurrences (Grow p.label p.below End) n.id ≡ 0) (λ (n : Label). n.id ≢ id) p.above
          (λ n none same. not_here n (here ∙ sym same) none) (ancestors-apart page.tree [] id p valid.distinct tt found)))
        where
          not_here : (n : Label) → p.label.id ≡ n.id → occurrences (Grow p.label p.below End) n.id ≡ 0 → ⊥
          not_here n is none = absurd (grind (arith, nat_tests, is, none))

  -- the context above a new node is that around the children of its parent
  context-added : (parent at : ℕ) (kind : Kind) (boxes : List Piece) (style : Style) → MayAdd page parent at kind style boxes → context_of (edited page (Add parent at kind boxes style)) page.next ≡ context_around page parent
  context-added parent at kind boxes style may =
      let label = new_label page.next kind style boxes in
      elim (cases_eq parent 0) [
        | inl none_named ↦
            above-of (planted parent at label End page.tree) (record { label = label; above = []; below = End }) (ap (λ (f : Forest). placed_in [] f page.next) (planted-root parent at label page.tree none_named) ∙ placed_in-head label End End [])
            ∙ sym (ap (context_around page) none_named ∙ ap nearest_context (ancestors_below-none page valid))
        | inr named ↦
            let there : has_id page parent ≡ true = elim may.present [
              | inl none_named ↦ absurd (named none_named)
              | inr is ↦ is
            ] in
            above-of (planted parent at label End page.tree) (record { label = label; above = ancestors_in [] page.tree parent; below = End }) (ap (λ (f : Forest). placed_in [] f page.next) (planted-below parent at label page.tree named)
            ∙ place-put_below page.tree [] parent at label End (given-absent page.tree [] page.next page.next valid.given (inr (omega arith))) (once_there page parent valid there))
      ]
    where
      above-of : (f : Forest) (p : Placed) → placed_in [] f page.next ≡ Some p → nearest_context (option_map_or (λ q. q.above) (placed_in [] f page.next) []) ≡ nearest_context p.above
      above-of f p found = ap (λ (o : Option Placed). nearest_context (option_map_or (λ q. q.above) o [])) found

  -- and that above a node at its new place
  context-moved : (id parent at : ℕ) → has_id page id ≡ true → has_id page parent ≡ true → occurrences (tree_of page id) parent ≡ 0 → context_of (edited page (Move id parent at)) id ≡ context_around page parent
  context-moved id parent at there there' apart = by_place (placed_of page id) refl there
    where
      once-rest : occurrences (taken_out id page.tree) parent ≡ 1
      once-rest = omega (arith, occurrences-parted page.tree [] id parent (valid.distinct id), once_there page parent valid there', apart)

      around-rest : nearest_context (ancestors_in [] (taken_out id page.tree) parent) ≡ context_around page parent
      around-rest = ap (λ (o : Option Placed). nearest_context (option_map_or (λ p. p.label ∷ p.above) o [])) (placed_in-taken_out page.tree [] id parent (valid.distinct parent) (omega (arith, once-rest))) ∙ without (placed_of page parent)
        where
          without : (o : Option Placed) → nearest_context (option_map_or (λ p. p.label ∷ p.above) (option_map (place_without id) o) []) ≡ nearest_context (option_map_or (λ p. p.label ∷ p.above) o [])
          without None = refl
          without (Some p) = refl

      by_place : (o : Option Placed) → placed_of page id ≡ o → is_some o ≡ true → nearest_context (option_map_or (λ p. p.above) (placed_in [] (option_map_or (λ p. put_below parent at p.label p.below (taken_out id page.tree)) o page.tree) id) []) ≡ context_around page parent
      by_place None found there'' = absurd (false≢true there'')
      by_place (Some p) found there'' =
          let here : p.label.id ≡ id = id-placed_in page.tree [] id p found in
          ap (λ (k : ℕ). nearest_context (option_map_or (λ q. q.above) (placed_in [] (put_below parent at p.label p.below (taken_out id page.tree)) k) [])) (sym here)
          ∙ ap (λ (o : Option Placed). nearest_context (option_map_or (λ q. q.above) o []))
          (place-put_below (taken_out id page.tree) [] parent at p.label p.below (ap (occurrences (taken_out id page.tree)) here ∙ gone page.tree id) once-rest)
          ∙ around-rest

  -- a stacking context of the page
  module _ (k : ℕ) (real : makes_context page k ≡ true) where
    once-k : occurrences page.tree k ≡ 1
    once-k = once_there page k valid (context-there page k real)

    not_zero : k ≢ 0
    not_zero is = absurd (grind (arith, once-k, zero-absent, ap (occurrences page.tree) is))

    -- one that is neither the edited node nor the next above it
    kept-list : (edit : Edit) (x : ℕ) → IsFaultless page edit → edited_node page edit ≡ Some x → 0 < occurrences (edited page edit).tree k → x ≢ k → context_of page x ≢ k → context_of (edited page edit) x ≢ k → KeepsList page (edited page edit) k
    kept-list edit x can is stands other before later = keeps-list page (edited page edit) x k (kept-by page edit x can is) real (placed_in-present (edited page edit).tree [] k stands) other before later

    first-false : (a b : Bool) → (a || b) ≡ false → a ≡ false
    first-false true b is = is
    first-false false b is = refl

    then-false : (a b : Bool) → (a || b) ≡ false → b ≡ false
    then-false true b is = absurd (false≢true (sym is))
    then-false false b is = is

    not_above : (x : ℕ) → is_among (near page x) k ≡ false → context_of page x ≢ k
    not_above x is = let differ = first-false (context_of page x == k) _ is in grind (arith, nat_tests, differ)

    not_itself : (x : ℕ) → is_among (near page x) k ≡ false → x ≢ k
    not_itself x is = let differ = first-false (x == k) _ (then-false (context_of page x == k) _ is) in grind (arith, nat_tests, differ)

    relabelled-all : (edit : Edit) (id : ℕ) (change : Label → Label) (keeps : (n : Label) → (change n).id ≡ n.id) → IsFaultless page edit → edited_node page edit ≡ Some id → edited page edit ≡ record page { tree = relabelled id change page.tree } → is_among (near page id) k ≡ false → KeepsList page (edited page edit) k
    relabelled-all edit id change keeps can is after_is apart =
        kept-list edit id can is
        (omega (arith, ap (λ (p : Contents). occurrences p.tree k) after_is, occurrences-relabelled id change keeps page.tree k, once-k))
        (not_itself id apart) (not_above id apart)
        (λ same. not_above id apart (sym (ap (λ (p : Contents). context_of p id) after_is ∙ context-relabelled id change keeps) ∙ same))

    times-own : (x : ℕ) (xs : List ℕ) → 1 ≤ times_in x (x ∷ xs)
    times-own x xs = grind (arith, nat_tests)

    moved-there : (id parent at : ℕ) → has_id page id ≡ true → has_id page parent ≡ true → occurrences (tree_of page id) parent ≡ 0 → 0 < occurrences (edited page (Move id parent at)).tree k
    moved-there id parent at there there' apart = by_place (placed_of page id) refl there
      where
        by_place : (o : Option Placed) → placed_of page id ≡ o → is_some o ≡ true → 0 < occurrences (option_map_or (λ p. put_below parent at p.label p.below (taken_out id page.tree)) o page.tree) k
        by_place None found there'' = absurd (false≢true there'')
        by_place (Some p) found there'' =
            let once : occurrences (taken_out id page.tree) parent ≡ 1 = omega (arith, occurrences-parted page.tree [] id parent (valid.distinct id), once_there page parent valid there', apart) in
            let tree_is : tree_of page id ≡ single p.label p.below = ap (λ o. option_map_or (λ q. Grow q.label q.below End) o End) found in
            omega (arith, occurrences-put_below (taken_out id page.tree) parent at p.label p.below k once, occurrences-parted page.tree [] id k (valid.distinct id), ap (λ f. occurrences f k) tree_is, once-k)

    not_new : (id parent : ℕ) → is_among (near page id) k ≡ false → is_among (new_context page id parent) k ≡ false → context_around page parent ≢ k
    not_new id parent near_apart new_apart is = by_test (context_around page parent == context_of page id) refl new_apart
      where
        by_test : (b : Bool) → (context_around page parent == context_of page id) ≡ b → is_among (if b then [] else context_around page parent ∷ []) k ≡ false → ⊥
        by_test true same apart = let one : context_around page parent ≡ context_of page id = grind (arith, nat_tests, same) in not_above id near_apart (sym one ∙ is)
        by_test false other apart = let differ = first-false (context_around page parent == k) false apart in absurd (grind (arith, nat_tests, differ, is))

    -- each that isn't among the candidates keeps its list
    pub candidates-all : (edit : Edit) → first_fault page edit ≡ None → is_among (candidates page edit) k ≡ false → KeepsList page (edited page edit) k
    candidates-all (Add parent at kind boxes style) none apart =
        let edit = Add parent at kind boxes style in
        let can : IsFaultless page edit = record { valid = valid; none = none } in
        let may = may_add page parent at kind style boxes none in
        let absent : occurrences page.tree page.next ≡ 0 = given-absent page.tree [] page.next page.next valid.given (inr (omega arith)) in
        let new_one : page.next ≢ k = λ same. absurd (grind (arith, once-k, absent, ap (occurrences page.tree) same)) in
        let keeps = kept-by page edit page.next can refl in
        let around = first-false (context_around page parent == k) false apart in
        let no_context : context_of page page.next ≡ 0 = ap (λ (o : Option Placed). nearest_context (option_map_or (λ p. p.above) o [])) (placed_in-absent page.tree [] page.next absent) in
        kept-list edit page.next can refl
        (omega (arith, occurrences-taken_out (edited page edit).tree page.next k, ap (λ (f : Forest). occurrences f k) keeps.rest, ap (λ (f : Forest). occurrences f k) (taken_out-absent page.tree page.next absent), once-k))
        new_one (λ same. not_zero (sym same ∙ no_context))
        (λ same. let is : context_around page parent ≡ k = sym (context-added parent at kind boxes style may) ∙ same in absurd (grind (arith, nat_tests, is, around)))
    candidates-all (Remove id) none apart =
        let edit = Remove id in
        let can : IsFaultless page edit = record { valid = valid; none = none } in
        let above = first-false (context_of page id == k) _ apart in
        let out : nat_lt 0 (occurrences (tree_of page id) k) ≡ false = sym (is_among-ids_in (tree_of page id) k) ∙ then-false (context_of page id == k) _ apart in
        let none_there : occurrences (tree_of page id) k ≡ 0 = grind (arith, nat_tests, out) in
        let no_context : context_of (edited page edit) id ≡ 0 = ap (λ (o : Option Placed). nearest_context (option_map_or (λ p. p.above) o [])) (placed_in-absent (taken_out id page.tree) [] id (gone page.tree id)) in
        kept-list edit id can refl
        (omega (arith, occurrences-parted page.tree [] id k (valid.distinct id), none_there, once-k))
        (λ same. itself id none_there (named_there page edit none) same)
        (grind (arith, nat_tests, above))
        (λ same. not_zero (sym same ∙ no_context))
      where
        itself : (id : ℕ) → occurrences (tree_of page id) k ≡ 0 → has_id page id ≡ true → id ≡ k → ⊥
        itself id out there same = absurd (omega (arith, near-tree id k there, ap (λ (i : ℕ). times_in k (i ∷ roots_of (below_of page id))) same, times-own k (roots_of (below_of page id)), out))
    candidates-all (Move id parent at) none apart =
        let edit = Move id parent at in
        let can : IsFaultless page edit = record { valid = valid; none = none } in
        let may = may_move page id parent at none in
        let there = named_there page edit none in
        let parts : (is_among (near page id) k || is_among (new_context page id parent) k) ≡ false = sym (among-both (near page id) (new_context page id parent) k) ∙ apart in
        let near_apart = first-false (is_among (near page id) k) _ parts in
        kept-list edit id can refl
        (moved-there id parent at there may.parent_there may.apart)
        (not_itself id near_apart) (not_above id near_apart)
        (λ same. not_new id parent near_apart (then-false (is_among (near page id) k) _ parts) (sym (context-moved id parent at there may.parent_there may.apart) ∙ same))
    candidates-all (Place id anchor boxes max) none apart = relabelled-all (Place id anchor boxes max) id (laid_out anchor boxes max) (λ n. refl) (record { valid = valid; none = none }) refl refl apart
    candidates-all (Restyle id style) none apart = relabelled-all (Restyle id style) id (restyled style) (λ n. refl) (record { valid = valid; none = none }) refl refl apart
    candidates-all (Reshape id form) none apart = relabelled-all (Reshape id form) id (reshaped form) (λ n. refl) (record { valid = valid; none = none }) refl refl apart
    candidates-all (Scroll id x y) none apart = relabelled-all (Scroll id x y) id (scrolled_node x y) (λ n. refl) (record { valid = valid; none = none }) refl refl apart
    candidates-all (Resize w h max) none apart = record { context = real; listed = refl }
    candidates-all (ScrollView x y) none apart = record { context = real; listed = refl }

    or-first : (a b : Bool) → a ≡ true → (a || b) ≡ true
    or-first true b is = refl
    or-first false b is = absurd (false≢true is)

    or-later : (a b : Bool) → b ≡ true → (a || b) ≡ true
    or-later true b is = refl
    or-later false b is = is

    either : {P : Type 0} (a b : Bool) → (a || b) ≡ true → (a ≡ true → P) → (b ≡ true → P) → P
    either true b is one other = one refl
    either false b is one other = other is

    -- the context above a node is next to it
    next-above : (p : Contents) (x : ℕ) → context_of p x ≡ k → is_next_to p x k ≡ true
    next-above p x is = or-first (context_of p x == k) _ (grind (arith, nat_tests, is))

    only_one : (x : ℕ) → is_among (x ∷ []) k ≡ true → x ≡ k
    only_one x is = either (x == k) false is (λ same. grind (arith, nat_tests, same)) (λ none. absurd (false≢true none))

    new-one : (id parent : ℕ) → is_among (new_context page id parent) k ≡ true → context_around page parent ≡ k
    new-one id parent is = by_test (context_around page parent == context_of page id) is
      where
        by_test : (b : Bool) → is_among (if b then [] else context_around page parent ∷ []) k ≡ true → context_around page parent ≡ k
        by_test true is' = absurd (false≢true is')
        by_test false is' = only_one (context_around page parent) is'

    -- what was in the tree of a removed node is gone
    gone-inside : (id : ℕ) → is_among (ids_in (tree_of page id)) k ≡ true → has_id (edited page (Remove id)) k ≡ true → ⊥
    gone-inside id inside stands =
        let some : nat_lt 0 (occurrences (tree_of page id) k) ≡ true = sym (is_among-ids_in (tree_of page id) k) ∙ inside in
        let some' : 0 < occurrences (tree_of page id) k = grind (arith, nat_tests, some) in
        false≢true (ap is_some (sym (placed_in-absent (taken_out id page.tree) [] k (omega (arith, some', occurrences-parted page.tree [] id k (valid.distinct id), once-k)))) ∙ stands)

    -- each candidate that still stands can change its list
    pub candidates-only : (edit : Edit) → first_fault page edit ≡ None → is_among (candidates page edit) k ≡ true → has_id (edited page edit) k ≡ true → can_change page edit k ≡ true
    candidates-only (Add parent at kind boxes style) none among stands =
        let edit = Add parent at kind boxes style in
        let is : context_around page parent ≡ k = only_one (context_around page parent) among in
        or-later (is_next_to page page.next k) (is_next_to (edited page edit) page.next k) (next-above (edited page edit) page.next (context-added parent at kind boxes style (may_add page parent at kind style boxes none) ∙ is))
    candidates-only (Remove id) none among stands = either (context_of page id == k) (is_among (ids_in (tree_of page id)) k) among (λ above. or-first (is_next_to page id k) _ (ap (λ c. c || ((id == k) || (parent_id (ancestors_of page k) == id))) above)) (λ inside. absurd (gone-inside id inside stands))
    candidates-only (Move id parent at) none among stands =
        let edit = Move id parent at in
        let may = may_move page id parent at none in
        either (is_among (near page id) k) (is_among (new_context page id parent) k) (sym (among-both (near page id) (new_context page id parent) k) ∙ among)
        (λ close. or-first (is_next_to page id k) _ (near-next id k close))
        (λ fresh. or-later (is_next_to page id k) (is_next_to (edited page edit) id k) (next-above (edited page edit) id (context-moved id parent at (named_there page edit none) may.parent_there may.apart ∙ new-one id parent fresh)))
    candidates-only (Place id anchor boxes max) none among stands = or-first (is_next_to page id k) _ (near-next id k among)
    candidates-only (Restyle id style) none among stands = or-first (is_next_to page id k) _ (near-next id k among)
    candidates-only (Reshape id form) none among stands = or-first (is_next_to page id k) _ (near-next id k among)
    candidates-only (Scroll id x y) none among stands = or-first (is_next_to page id k) _ (near-next id k among)
    candidates-only (Resize w h max) none among stands = absurd (false≢true among)
    candidates-only (ScrollView x y) none among stands = absurd (false≢true among)
