-- The forest of a page has the numbers of the items of the page, each once, from bottom to top.
use Rattle.std.proofs.Common.{◌≡◌, ℕ, zero, suc, ◌+◌, ◌<◌, ◌≤◌, ◌==◌, List, [], ◌∷◌, ◌++◌, map, reverse, length, Option, Some, None, get_or, Bool, true, false, cond, if◌then◌else◌, refl, sym, ap, subst, ◌∙◌, arith, ℤ, append_assoc}
use Rattle.std.specs.Prelude.{◌&&◌, ◌||◌, Contains}
use Rattle.std.specs.Option.{option_map, option_map_or, option_or}
use Rattle.std.specs.List.{filter, list_any, AllByRecursion}
use Rattle.std.specs.List.Sorted.{IsSortedBy}
use Rattle.std.proofs.lemmas.Bool.{false≢true}
use Rattle.std.proofs.lemmas.Bool.Decides.{nat_tests}
use Rattle.std.proofs.lemmas.List.{reverse-append, map-append, get_or_default}
use Rattle.std.proofs.lemmas.List.Elements.{recursion_from_All}
use Rattle.std.proofs.lemmas.Option.{get_or_from_slice_get}
use Rattle.box_tree.specs.declared.item.Item.{Item}
use Rattle.box_tree.specs.Forest.{Label, Forest, End, Grow, Placed, roots_of, placed_in}
use Rattle.box_tree.specs.Contents.{Contents, node_at, placed_of, IsValid}
use Rattle.box_tree.specs.Containing.{makes_context, parent_of}
use Rattle.box_tree.specs.Used.{is_real_context}
use Rattle.box_tree.specs.Edited.{is_root}
use Rattle.box_tree.specs.Items.{items_of, items_at, node_items}
use Rattle.box_tree.specs.Numbers.{ItemsState, Names, IsItem, IsNumber, IsNumberedPage}
use Rattle.box_tree.specs.Planned.{times_in}
use Rattle.box_tree.proofs.ForestLemmas.{placed_in-head}
use Rattle.box_tree.proofs.NumberedPages.{are_placed}
use Rattle.box_tree.proofs.PlacedLemmas.{AreAtPlaces, page-at_places}
use Rattle.paint_order.specs.Order.{is_member, flattened, IsWhole}
use Rattle.paint_order.specs.State.{State}
use Rattle.paint_order.proofs.FlatLemmas.{or_first, or_second}
use Rattle.tree_edits.specs.Faithful.{root_number, is_bare, IsForestOf}
use Rattle.stacking.specs.Painting.{own, drawn, layer}
use Rattle.stacking.specs.OnPage.{of_node}
use Rattle.stacking.specs.Counting.{count, items_in, root_layer, is_item}
use Rattle.stacking.specs.Lists.{number_of, kept_list, AreListsOf}
use Rattle.stacking.proofs.CountLemmas.{count-append, all_items_are_painted}
use Rattle.stacking.proofs.OnceLemmas as once
use Rattle.stacking.proofs.ListLemmas.{each-append}
use Rattle.stacking.proofs.NestLemmas.{lists-nest, lists-flatten}
use Rattle.stacking.proofs.EntryLemmas.{part_itself}
use Rattle.stacking.proofs.WholeLemmas.{lists-whole, item_true}
use Rattle.point_query.specs.Elements.{admits, element_of, elements_of}
use Rattle.point_query.specs.Topmost.{lies_above, StandOnce, painted, IsOrdered, item_named, items_named}
use Rattle.point_query.proofs.OrderLemmas.{passed-topmost_first}

-- ---- items that are counted among others

item_itself : (item : Item) → is_item item item ≡ true
item_itself item = let same : (item.node == item.node) ≡ true = grind (arith, nat_tests) in rw same (part_itself item.part)

-- what holds of each item that is counted among some holds of all
each-counted : (P : Item → Type 0) (items : List Item) → ((item : Item) → 0 < count (is_item item) items → P item) → AllByRecursion P items
each-counted P [] holds = tt
each-counted P (item ∷ items) holds = (
  holds item (omega (arith, (ap {B = ℕ} (λ b. if b then 1 else 0) (item_itself item)))),
  each-counted P items (λ other some. holds other (omega (arith, some))),
)

-- an item that stands among some is counted
counted-at : (items : List Item) (k : ℕ) (item d : Item) → k < length items → get_or items k d ≡ item → 0 < count (is_item item) items
counted-at [] k item d within is = absurd (omega arith)
counted-at (other ∷ items) zero item d within is =
    let here : is_item item other ≡ true = ap (is_item item) is ∙ item_itself item in
    omega (arith, (ap {B = ℕ} (λ b. if b then 1 else 0) here))
counted-at (other ∷ items) (suc k) item d within is = omega (arith, counted-at items k item d (omega arith) is)

-- where one is counted, it is one for which any test that all pass holds
pub counted-each : (P : Item → Type 0) (items : List Item) → AllByRecursion P items → (item : Item) → 0 < count (is_item item) items → P item
counted-each P [] all item some = absurd (omega arith)
counted-each P (other ∷ items) all item some = by_test (counted-each P items all.1 item) (is_item item other) refl
  where
    by_test : (0 < count (is_item item) items → P item) → (b : Bool) → is_item item other ≡ b → P item
    by_test rest true is = subst P (item_true item other is) all.0
    by_test rest false is = rest (omega (arith, some, (ap {B = ℕ} (λ b. if b then 1 else 0) is)))

-- ---- the items of a page are those of its layer

-- each item in the trees is one of the page
module _ (page : Contents) (valid : IsValid page) where
  node-items : (n : Label) (above : List Label) (below : Forest) → placed_of page n.id ≡ Some (record { label = n; above = above; below = below }) → AllByRecursion (IsItem page) (items_of n)
  node-items n above below found =
      let same : node_items page n.id ≡ items_of n = ap (λ (o : Option Placed). items_at (option_map node_at o)) found in
      subst (λ (items : List Item). AllByRecursion (IsItem page) items) same
      (recursion_from_All (IsItem page) (node_items page n.id) (λ k d within.
      let item = get_or (node_items page n.id) k d in
      let node_is : item.node ≡ n.id = (are_placed page valid n.id k d within).0 in
      subst (λ (id : ℕ). Contains (node_items page id) item) (sym node_is) (k, within, get_or_default (node_items page n.id) k item d within)))

  pub trees-items : (above : List Label) (f : Forest) → AreAtPlaces page above f → AllByRecursion (IsItem page) (items_in above f)
  trees-items above End known = tt
  trees-items above (Grow n below others) known =
      let here = node-items n above below known.0 in
      subst (AllByRecursion (IsItem page)) (append_assoc (own (record { label = n; above = above; below = below })) (drawn n) (items_in (n ∷ above) below ++ items_in above others))
      (each-append (IsItem page) (items_of n) (items_in (n ∷ above) below ++ items_in above others) here
      (each-append (IsItem page) (items_in (n ∷ above) below) (items_in above others) (trees-items (n ∷ above) below known.1.0) (trees-items above others known.1.1)))

  -- and so is each of the layer
  layer-items : AllByRecursion (IsItem page) (root_layer page.tree)
  layer-items = each-counted (IsItem page) (root_layer page.tree)
      (λ item some. counted-each (IsItem page) (items_in [] page.tree) (trees-items [] page.tree (page-at_places page valid)) item (omega (arith, some, all_items_are_painted page valid (is_item item))))

-- the items of a node that is found are counted in the trees
placed-counted : (item : Item) (f : Forest) (above : List Label) (id : ℕ) (p : Placed) → placed_in above f id ≡ Some p → count (is_item item) (items_of p.label) ≤ count (is_item item) (items_in above f)
placed-counted item End above id p found = absurd cc
placed-counted item (Grow n below others) above id p found =
    by_test (n.id == id) found (placed-counted item below (n ∷ above) id p) (placed-counted item others above id p)
  where
    test : Item → Bool
    test = is_item item

    all : count test (items_in above (Grow n below others)) ≡ count test (items_of n) + (count test (items_in (n ∷ above) below) + count test (items_in above others))
    all =
        ap (count test) (sym (append_assoc (own (record { label = n; above = above; below = below })) (drawn n) (items_in (n ∷ above) below ++ items_in above others)))
        ∙ count-append test (items_of n) (items_in (n ∷ above) below ++ items_in above others)
        ∙ ap (λ k. count test (items_of n) + k) (count-append test (items_in (n ∷ above) below) (items_in above others))

    by_test : (same : Bool) → (if same then Some (record { label = n; above = above; below = below }) else option_or (placed_in (n ∷ above) below id) (placed_in above others id)) ≡ Some p →
        (placed_in (n ∷ above) below id ≡ Some p → count test (items_of p.label) ≤ count test (items_in (n ∷ above) below)) → (placed_in above others id ≡ Some p → count test (items_of p.label) ≤ count test (items_in above others)) →
        count test (items_of p.label) ≤ count test (items_in above (Grow n below others))
    by_test true is in_below in_others = let label_is : n ≡ p.label = cc in omega (arith, all, ap (λ (l : Label). count test (items_of l)) label_is)
    by_test false is in_below in_others = by_place (placed_in (n ∷ above) below id) is in_below
      where
        by_place : (first : Option Placed) → option_or first (placed_in above others id) ≡ Some p → (first ≡ Some p → count test (items_of p.label) ≤ count test (items_in (n ∷ above) below)) → count test (items_of p.label) ≤ count test (items_in above (Grow n below others))
        by_place None is' in_first = omega (arith, all, in_others is')
        by_place (Some q) is' in_first = omega (arith, all, in_first is')

-- an item of the page is painted
pub painted-item : (page : Contents) (item : Item) → IsValid page → IsItem page item → 0 < count (is_item item) (root_layer page.tree)
painted-item page item valid is = by_place (placed_of page item.node) refl
  where
    by_place : (o : Option Placed) → placed_of page item.node ≡ o → 0 < count (is_item item) (root_layer page.tree)
    by_place None found = absurd (omega (arith, is.1, ap (λ (o : Option Placed). length (items_at (option_map node_at o))) found))
    by_place (Some p) found =
        let same : node_items page item.node ≡ items_of p.label = ap (λ (o : Option Placed). items_at (option_map node_at o)) found in
        let has : Contains (items_of p.label) item = subst (λ (items : List Item). Contains items item) same is in
        omega (arith, counted-at (items_of p.label) has.0 item item has.1 has.2, placed-counted item page.tree [] item.node p found, all_items_are_painted page valid (is_item item))

-- ---- numbers and items

pub member-map : (f : Item → ℕ) (n : ℕ) (items : List Item) → is_member n (map f items) ≡ true → (item : Item) × (0 < count (is_item item) items) × (f item ≡ n)
member-map f n [] there = absurd (false≢true there)
member-map f n (item ∷ items) there = by_test (member-map f n items) (f item == n) refl there
  where
    by_test : (is_member n (map f items) ≡ true → (other : Item) × (0 < count (is_item other) items) × (f other ≡ n)) → (b : Bool) → (f item == n) ≡ b → (b || is_member n (map f items)) ≡ true → (other : Item) × (0 < count (is_item other) (item ∷ items)) × (f other ≡ n)
    by_test rest true is m = let same : f item ≡ n = grind (arith, nat_tests) in (item, omega (arith, (ap {B = ℕ} (λ b. if b then 1 else 0) (item_itself item))), same)
    by_test rest false is m = let found = rest m in (found.0, omega (arith, found.1), found.2)

pub map-member : (f : Item → ℕ) (item : Item) (items : List Item) → 0 < count (is_item item) items → is_member (f item) (map f items) ≡ true
map-member f item [] some = absurd (omega arith)
map-member f item (other ∷ items) some = by_test (map-member f item items) (is_item item other) refl
  where
    by_test : (0 < count (is_item item) items → is_member (f item) (map f items) ≡ true) → (b : Bool) → is_item item other ≡ b → is_member (f item) (map f (other ∷ items)) ≡ true
    by_test rest true is = let same : f other ≡ f item = ap f (item_true item other is) in or_first (f other == f item) (is_member (f item) (map f items)) (grind (arith, nat_tests))
    by_test rest false is = or_second (f other == f item) (is_member (f item) (map f items)) (rest (omega (arith, some, (ap {B = ℕ} (λ b. if b then 1 else 0) is))))

-- a number that stands nowhere stands there no times
pub times-nowhere : (n : ℕ) (xs : List ℕ) → is_member n xs ≡ false → times_in n xs ≡ 0
times-nowhere n [] none = refl
times-nowhere n (x ∷ xs) none = by_test (x == n) none (times-nowhere n xs)
  where
    by_test : (b : Bool) → (b || is_member n xs) ≡ false → (is_member n xs ≡ false → times_in n xs ≡ 0) → (if b then 1 else 0) + times_in n xs ≡ 0
    by_test true is rest = absurd (false≢true (sym is))
    by_test false is rest = omega (arith, rest is)

module _ (page : Contents) (valid : IsValid page) (s : ItemsState) (are : IsNumberedPage page s) where
  -- the number of an item
  pub number-names : (item : Item) → IsItem page item → Names s (number_of s item) item
  number-names item is = let has = are.each item is in subst (λ (n : ℕ). Names s n item) (sym has.1.number_is) has.1

  same-number : (item other : Item) → IsItem page item → IsItem page other → number_of s other ≡ number_of s item → other ≡ item
  same-number item other is is' same = are.one_item (number_of s item) other item (subst (λ (n : ℕ). Names s n other) same (number-names other is')) (number-names item is)

  pub times-number : (item : Item) → IsItem page item → (items : List Item) → AllByRecursion (IsItem page) items → times_in (number_of s item) (map (number_of s) items) ≡ count (is_item item) items
  times-number item is [] all = refl
  times-number item is (other ∷ items) all = ap (λ (b : Bool). (if b then 1 else 0) + times_in (number_of s item) (map (number_of s) items)) (alike (number_of s other == number_of s item) (is_item item other) refl refl) ∙ ap (λ k. (if is_item item other then 1 else 0) + k) (times-number item is items all.1)
    where
      alike : (a b : Bool) → (number_of s other == number_of s item) ≡ a → is_item item other ≡ b → (number_of s other == number_of s item) ≡ is_item item other
      alike true true t t' = t ∙ sym t'
      alike false false t t' = t ∙ sym t'
      alike true false t t' =
          let same : number_of s other ≡ number_of s item = grind (arith, nat_tests) in
          t ∙ sym (ap (λ (i : Item). is_item item i) (same-number item other is all.0 same) ∙ item_itself item)
      alike false true t t' =
          let same : number_of s other ≡ number_of s item = ap (number_of s) (item_true item other t') in
          let t'' : (number_of s other == number_of s item) ≡ true = grind (arith, nat_tests) in
          t'' ∙ sym t'

  layer-item : (item : Item) → 0 < count (is_item item) (root_layer page.tree) → IsItem page item
  layer-item = counted-each (IsItem page) (root_layer page.tree) (layer-items page valid)

  -- each number stands once in the layer
  numbers-once : StandOnce (map (number_of s) (root_layer page.tree))
  numbers-once n = by_test (is_member n (map (number_of s) (root_layer page.tree))) refl
    where
      by_test : (b : Bool) → is_member n (map (number_of s) (root_layer page.tree)) ≡ b → times_in n (map (number_of s) (root_layer page.tree)) ≤ 1
      by_test true is =
          let found = member-map (number_of s) n (root_layer page.tree) is in
          let counted = times-number found.0 (layer-item found.0 found.1) (root_layer page.tree) (layer-items page valid) in
          omega (arith, once.each_item_is_painted_once page valid found.0, counted, ap (λ (k : ℕ). times_in k (map (number_of s) (root_layer page.tree))) found.2)
      by_test false is = omega (arith, times-nowhere n (map (number_of s) (root_layer page.tree)) is)

  -- a number in the layer is that of an item, and each number of an item is there
  layer-number : (n : ℕ) → is_member n (map (number_of s) (root_layer page.tree)) ≡ true → IsNumber s n
  layer-number n there =
      let found = member-map (number_of s) n (root_layer page.tree) there in
      (found.0, subst (λ (k : ℕ). Names s k found.0) found.2 (number-names found.0 (layer-item found.0 found.1)))

  pub number-in_layer : (n : ℕ) → IsNumber s n → is_member n (map (number_of s) (root_layer page.tree)) ≡ true
  number-in_layer n is =
      subst (λ (k : ℕ). is_member k (map (number_of s) (root_layer page.tree)) ≡ true) (is.1.number_is)
      (map-member (number_of s) is.0 (root_layer page.tree) (painted-item page is.0 valid (are.only n is.0 is.1)))

  -- the items that the numbers of items name are these items
  pub named-numbers : (items : List Item) → AllByRecursion (IsItem page) items → items_named s (map (number_of s) items) ≡ items
  named-numbers [] all = refl
  named-numbers (item ∷ items) all =
      let name = number-names item all.0 in
      ap (λ (i : Item). i ∷ items_named s (map (number_of s) items)) (get_or_from_slice_get s.given (number_of s item) item _ name.given_to)
      ∙ ap (λ (is : List Item). item ∷ is) (named-numbers items all.1)

-- ---- the forest of the page

filter-map : {X Y : Type 0} (q : Y → Bool) (f : X → Y) (xs : List X) → filter q (map f xs) ≡ map f (filter (λ x. q (f x)) xs)
filter-map q f [] = refl
filter-map q f (x ∷ xs) = by_test (q (f x)) (filter-map q f xs)
  where
    by_test : (b : Bool) → filter q (map f xs) ≡ map f (filter (λ x. q (f x)) xs) → cond b (f x ∷ filter q (map f xs)) (filter q (map f xs)) ≡ map f (cond b (x ∷ filter (λ x. q (f x)) xs) (filter (λ x. q (f x)) xs))
    by_test true rest = ap (λ ys. f x ∷ ys) rest
    by_test false rest = rest

map-reverse : {X Y : Type 0} (f : X → Y) (xs : List X) → map f (reverse xs) ≡ reverse (map f xs)
map-reverse f [] = refl
map-reverse f (x ∷ xs) =
    ap (map f) (reverse-append (x ∷ []) xs) ∙ map-append f (reverse xs) (x ∷ []) ∙ ap (λ ys. ys ++ f x ∷ []) (map-reverse f xs) ∙ sym (reverse-append (f x ∷ []) (map f xs))

-- where the tree has a root, the node of its id is that, with the whole layer
root-layer : (page : Contents) (root : ℕ) → roots_of page.tree ≡ root ∷ [] → (of_node layer page root ≡ root_layer page.tree) × ((makes_context page root ≡ true) × (is_root page root ≡ true))
root-layer page root is = of_tree page.tree is
  where
    of_tree : (tree : Forest) → roots_of tree ≡ root ∷ [] → (option_map_or layer (placed_in [] tree root) [] ≡ root_layer tree) × ((option_map_or (λ p. is_real_context (parent_of p.above) p.label) (placed_in [] tree root) false ≡ true) × (list_any (λ other. other == root) (roots_of tree) ≡ true))
    of_tree End is' = absurd cc
    of_tree (Grow n below others) is' =
        let same : n.id ≡ root = cc in
        let found : placed_in [] (Grow n below others) root ≡ Some (record { label = n; above = []; below = below }) = ap (λ (id : ℕ). placed_in [] (Grow n below others) id) (sym same) ∙ placed_in-head n below others [] in (
          ap (λ (o : Option Placed). option_map_or layer o []) found,
          (
            ap (λ (o : Option Placed). option_map_or (λ p. is_real_context (parent_of p.above) p.label) o false) found,
            or_first (n.id == root) (list_any (λ other. other == root) (roots_of others)) (grind (arith, nat_tests)),
          ),
        )

module _ (page : Contents) (valid : IsValid page) (s : ItemsState) (are : IsNumberedPage page s) (forest : State) (faithful : IsForestOf forest page s) (root : ℕ) (rooted : roots_of page.tree ≡ root ∷ []) where
  lists-are : AreListsOf forest.lists page s
  lists-are id = faithful.lists id ∙ ap (λ (roots : List ℕ). if makes_context page id then Some (kept_list s page id) else (if is_bare roots && (id == 0) then Some [] else None)) rooted

  root-is : forest.root ≡ root
  root-is = faithful.root ∙ ap root_number rooted

  -- its items, from bottom to top, are those of the layer of the root
  painted-is : painted forest ≡ map (number_of s) (root_layer page.tree)
  painted-is =
      ap (λ (l : ℕ). flattened 256 forest.lists l) root-is
      ∙ lists-flatten page valid s forest.lists lists-are root (root-layer page root rooted).1.0
      ∙ ap (map (number_of s)) (root-layer page root rooted).0

  pub forest-ordered : IsOrdered forest
  forest-ordered = record {
    whole = subst (IsWhole forest.lists) (sym root-is) (lists-whole page valid s forest.lists lists-are root (root-layer page root rooted).1.1);
    shallow = lists-nest page valid s forest.lists lists-are;
    once = subst StandOnce (sym painted-is) (numbers-once page valid s are);
  }

  -- numbers that are ordered by the forest, each once, and among them those of all items that are admitted at a point, give
  -- the elements of the layer of the root from top to bottom
  pub elements-topmost_first : (x y : ℤ) (numbers : List ℕ) → StandOnce numbers → IsSortedBy (lies_above (painted forest)) numbers → ((n : ℕ) → is_member n numbers ≡ true → IsNumber s n) →
      ((n : ℕ) (item : Item) → Names s n item → admits page x y item ≡ true → is_member n numbers ≡ true) →
      elements_of page x y (items_named s numbers) ≡ elements_of page x y (reverse (of_node layer page root))
  elements-topmost_first x y numbers once' sorted within all =
      let xs = map (number_of s) (root_layer page.tree) in
      let passed : filter p numbers ≡ filter p (reverse xs) = passed-topmost_first p xs numbers (numbers-once page valid s are) once' (subst (λ (ns : List ℕ). IsSortedBy (lies_above ns) numbers) painted-is sorted)
      (λ n there. number-in_layer page valid s are n (within n there))
      (λ n there passes. let is = layer-number page valid s are n there in all n is.0 is.1 (ap (admits page x y) (sym (get_or_from_slice_get s.given n is.0 _ is.1.given_to)) ∙ passes)) in
      ap (map (element_of page x y)) (filter-map (admits page x y) (item_named s) numbers ∙ ap (map (item_named s)) passed ∙ sym (filter-map (admits page x y) (item_named s) (reverse xs)))
      ∙ ap (elements_of page x y) (map-reverse (item_named s) xs ∙ ap (λ (is : List Item). reverse is) (named-numbers page valid s are (root_layer page.tree) (layer-items page valid) ∙ sym (root-layer page root rooted).0))
    where
      p : ℕ → Bool
      p n = admits page x y (item_named s n)
