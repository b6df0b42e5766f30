-- What a forest of lists asks of the lists of a page: each but that of the root stands in one, and no number stands twice.
use Rattle.std.proofs.Common.{◌≡◌, ◌≢◌, ◌⊎◌, ℕ, suc, ◌<◌, ◌≤◌, ◌==◌, List, [], ◌∷◌, ◌++◌, length, Option, Some, None, IsSome, is_some, slice_get, Bool, true, false, refl, sym, ap, ◌∙◌, subst, inl, inr, arith, get_or}
use Rattle.std.specs.Prelude.{if◌then◌else◌, ◌&&◌, Contains, All, map}
use Rattle.std.specs.List.{list_any}
use Rattle.std.specs.Option.{option_map}
use Rattle.std.proofs.lemmas.Bool.{cases_lt, false≢true}
use Rattle.std.proofs.lemmas.Bool.Decides.{nat_tests}
use Rattle.std.proofs.lemmas.Option.{none-some, same_Some, slice_get-map, slice_get-get_or}
use Rattle.box_tree.specs.declared.item.Item.{Item}
use Rattle.box_tree.specs.declared.item.Part.{Part}
use Rattle.box_tree.specs.declared.item.Part.TheVariants.{Box, Content, Outline}
use Rattle.box_tree.specs.Forest.{Label, Forest, End, Grow, Placed, roots_of}
use Rattle.box_tree.specs.Contents.{Contents, node_at, placed_of, IsValid, IsGiven}
use Rattle.box_tree.specs.Containing.{makes_context}
use Rattle.box_tree.specs.Edited.{is_root}
use Rattle.box_tree.specs.Items.{items_of, items_at, node_items}
use Rattle.box_tree.specs.Numbers.{ItemsState, Names, IsNumber, IsItem, IsNumberedPage, KeepsNumbers}
use Rattle.box_tree.proofs.NumberedPages.{are_placed}
use Rattle.box_tree.proofs.PlacedLemmas.{AreAtPlaces, page-at_places, id-placed_in}
use Rattle.box_tree.proofs.MoveLemmas.{each-placed}
use Rattle.paint_order.specs.declared.entry.Entry.{Entry}
use Rattle.paint_order.specs.declared.entry.Entry.TheVariants as entry
use Rattle.paint_order.specs.Lists.{Lists, list_under, entries_of, StandsAt, AreDistinct, StandNowhereElse, IsInRoom}
use Rattle.paint_order.specs.Order.{IsWhole}
use Rattle.stacking.specs.Painting.{own, drawn, ContextEntry, OneItem, SubContext, entries}
use Rattle.stacking.specs.OnPage.{of_node}
use Rattle.stacking.specs.Contexts.{context_of}
use Rattle.stacking.specs.Counting.{count, items_in, is_part, is_item}
use Rattle.stacking.specs.Lists.{number_of, numbered, kept_list, AreListsOf, HasOnlyListsOf, IsListedAt}
use Rattle.stacking.specs.Frame.{KeepsList}
use Rattle.stacking.proofs.CountLemmas.{count-append, all_items_are_painted}
use Rattle.stacking.proofs.WeightLemmas.{weighs}
use Rattle.stacking.proofs.EntryLemmas.{item_weight, weight-itself, one-list, root-lists, list_at, at_place, same_context, same_place}
use Rattle.stacking.proofs.MemberLemmas.{context_at}
use Rattle.stacking.proofs.NestLemmas.{list-there}
use Rattle.stacking.proofs.StandLemmas.{stands_above, sub-real}

-- an item that is counted among some stands there
part_true : (part other : Part) → is_part part other ≡ true → other ≡ part
part_true (Box place) (Box other) same = let is : other ≡ place = grind (arith, nat_tests) in ap Box is
part_true (Box place) Content same = absurd (false≢true same)
part_true (Box place) Outline same = absurd (false≢true same)
part_true Content (Box other) same = absurd (false≢true same)
part_true Content Content same = refl
part_true Content Outline same = absurd (false≢true same)
part_true Outline (Box other) same = absurd (false≢true same)
part_true Outline Content same = absurd (false≢true same)
part_true Outline Outline same = refl

pub item_true : (item other : Item) → is_item item other ≡ true → other ≡ item
item_true item other same = by_tests (other.node == item.node) (is_part item.part other.part) refl refl same
  where
    by_tests : (a b : Bool) → (other.node == item.node) ≡ a → is_part item.part other.part ≡ b → (a && b) ≡ true → other ≡ item
    by_tests true true is is' both =
        let node_is : other.node ≡ item.node = grind (arith, nat_tests) in
        let part_is = part_true item.part other.part is' in
        ap (λ (i : ℕ). let it : Item = record { node = i; part = other.part } in it) node_is ∙ ap (λ (p : Part). let it : Item = record { node = item.node; part = p } in it) part_is
    by_tests true false is is' both = absurd (false≢true both)
    by_tests false b is is' both = absurd (false≢true both)

counted : (item : Item) (items : List Item) → 0 < count (is_item item) items → Contains items item
counted item [] some = absurd (omega arith)
counted item (other ∷ items) some = by_test (is_item item other) refl (λ rest. counted item items rest)
  where
    by_test : (b : Bool) → is_item item other ≡ b → (0 < count (is_item item) items → Contains items item) → Contains (other ∷ items) item
    by_test true is rest = (0, omega arith, item_true item other is)
    by_test false is rest =
        let less : (if is_item item other then 1 else 0) ≡ 0 = ap {B = ℕ} (λ b. if b then 1 else 0) is in
        let later = rest (omega (arith, some, less)) in
        (suc later.0, omega (arith, later.1), later.2)

-- an item that is counted in trees of the page is one of the page
module _ (page : Contents) (valid : IsValid page) (item : Item) where
  of_node-item : (n : Label) (above : List Label) (below : Forest) → placed_of page n.id ≡ Some (record { label = n; above = above; below = below }) → Contains (items_of n) item → IsItem page item
  of_node-item n above below found has =
      let same : node_items page n.id ≡ items_of n = ap (λ (o : Option Placed). items_at (option_map node_at o)) found in
      let has' : Contains (node_items page n.id) item = subst (λ (items : List Item). Contains items item) (sym same) has in
      let node_is : item.node ≡ n.id = ap (λ (i : Item). i.node) (sym has'.2) ∙ (are_placed page valid n.id has'.0 item has'.1).0 in
      subst (λ (id : ℕ). Contains (node_items page id) item) (sym node_is) has'

  in_trees-item : (above : List Label) (f : Forest) → AreAtPlaces page above f → 0 < count (is_item item) (items_in above f) → IsItem page item
  in_trees-item above End known some = absurd (omega arith)
  in_trees-item above (Grow n below others) known some =
      let test = is_item item in
      let p : Placed = record { label = n; above = above; below = below } in
      let here = count-append test (own p) (drawn n) in
      let all = count-append test (own p) (drawn n ++ (items_in (n ∷ above) below ++ items_in above others)) in
      let all' = count-append test (drawn n) (items_in (n ∷ above) below ++ items_in above others) in
      let all'' = count-append test (items_in (n ∷ above) below) (items_in above others) in
      elim (cases_lt 0 (count test (items_of n))) [
        | inl some' ↦ of_node-item n above below known.0 (counted item (items_of n) some')
        | inr none ↦ elim (cases_lt 0 (count test (items_in (n ∷ above) below))) [
          | inl some' ↦ in_trees-item (n ∷ above) below known.1.0 some'
          | inr none' ↦ in_trees-item above others known.1.1 (omega (arith, some, here, all, all', all'', none, none'))
        ]
      ]

  -- and so is one that stands in a list
  listed-item : (context k : ℕ) → IsListedAt page (OneItem item) context k → IsItem page item
  listed-item context k is =
      let c = list_at page (OneItem item) context k is in
      let test = is_item item in
      in_trees-item [] page.tree (page-at_places page valid) (omega (
        arith,
        weighs (item_weight test) (entries c.place) k (OneItem item) (at_place page (OneItem item) context k is),
        weight-itself (OneItem item),
        one-list (item_weight test) page.tree [] context c.place c.found c.real,
        root-lists test page.tree valid.one_tree,
        all_items_are_painted page valid test,
      ))

-- entries with the same number are the same
module _ (page : Contents) (valid : IsValid page) (items : ItemsState) (are_numbered : IsNumberedPage page items) where
  numbered-same : (one other : ContextEntry) (c d j k : ℕ) → IsListedAt page one c j → IsListedAt page other d k → numbered items one ≡ numbered items other → one ≡ other
  numbered-same (OneItem item) (OneItem item') c d j k is is' same =
      let number_is : number_of items item ≡ number_of items item' = cc in
      let has = are_numbered.each item (listed-item page valid item c j is) in
      let has' = are_numbered.each item' (listed-item page valid item' d k is') in
      let numbers : has'.0 ≡ has.0 = sym has'.1.number_is ∙ sym number_is ∙ has.1.number_is in
      ap OneItem (are_numbered.one_item has.0 item item' has.1 (subst (λ (n : ℕ). Names items n item') numbers has'.1))
  numbered-same (OneItem item) (SubContext id) c d j k is is' same = absurd cc
  numbered-same (SubContext id) (OneItem item) c d j k is is' same = absurd cc
  numbered-same (SubContext id) (SubContext id') c d j k is is' same = let ids : id ≡ id' = cc in ap SubContext ids

  -- what stands in a list as it is kept stands in the list
  record IsKeptAt (kept : Entry) (context k : ℕ) : Type 0 where
    listed : ContextEntry
    at : IsListedAt page listed context k
    number_is : numbered items listed ≡ kept

  kept_at : (kept : Entry) (context k : ℕ) → makes_context page context ≡ true → slice_get (kept_list items page context) k ≡ Some kept → IsKeptAt kept context k
  kept_at kept context k real stands = by_entry (slice_get (of_node entries page context) k) refl (sym (slice_get-map (numbered items) (of_node entries page context) k) ∙ stands)
    where
      by_entry : (o : Option ContextEntry) → slice_get (of_node entries page context) k ≡ o → option_map (numbered items) o ≡ Some kept → IsKeptAt kept context k
      by_entry None is is' = absurd (none-some kept is')
      by_entry (Some e) is is' = record { listed = e; at = record { is_context = real; stands = is }; number_is = same_Some (numbered items e) kept is' }

  kept-same : (kept : Entry) (c d j k : ℕ) → (is : IsKeptAt kept c j) → (is' : IsKeptAt kept d k) → IsListedAt page is.listed d k
  kept-same kept c d j k is is' = subst (λ (e : ContextEntry). IsListedAt page e d k) (numbered-same is'.listed is.listed d c k j is'.at is.at (is'.number_is ∙ sym is.number_is)) is'.at

  pub lists-distinct : (context : ℕ) → makes_context page context ≡ true → AreDistinct (kept_list items page context)
  lists-distinct context real = λ j k kept at at'.
      let is = kept_at kept context j real at in
      let is' = kept_at kept context k real at' in
      same_place page valid is.listed context context j k is.at (kept-same kept context context j k is is')

  pub nowhere-else : (lists : Lists) → HasOnlyListsOf lists page items → (context : ℕ) → makes_context page context ≡ true → StandNowhereElse lists context (kept_list items page context)
  nowhere-else lists only context real = λ l j k kept at at'. by_list l j k kept at at' (only l)
    where
      by_list : (l j k : ℕ) (kept : Entry) → slice_get (kept_list items page context) j ≡ Some kept → StandsAt lists kept l k →
          (entries_of lists l ≡ []) ⊎ ((makes_context page l ≡ true) × (entries_of lists l ≡ kept_list items page l)) → l ≡ context
      by_list l j k kept at at' (inl none) = absurd (none-some kept (sym (ap (λ (es : List Entry). slice_get es k) none) ∙ at'))
      by_list l j k kept at at' (inr is_list) =
          let is = kept_at kept context j real at in
          let is' = kept_at kept l k is_list.0 (sym (ap (λ (es : List Entry). slice_get es k) is_list.1) ∙ at') in
          sym (same_context page valid is.listed context l j k is.at (kept-same kept context l j k is is'))

  -- the numbers are below a limit that all of the page are below
  in_room : (limit : ℕ) → ((number : ℕ) → IsNumber items number → number < limit) → (listed : ContextEntry) (context k : ℕ) → IsListedAt page listed context k → IsInRoom limit page.next (numbered items listed)
  in_room limit below (OneItem item) context k is =
      let has = are_numbered.each item (listed-item page valid item context k is) in
      subst (λ (n : ℕ). n < limit) (sym has.1.number_is) (below has.0 (item, has.1))
  in_room limit below (SubContext id) context k is =
      let c = context_at page id (sub-real page valid id context k is) in
      let given = (each-placed (IsGiven page.next) page.tree [] id c.place valid.given c.found).0 in
      subst (λ (i : ℕ). i < page.next) (id-placed_in page.tree [] id c.place c.found) given.below_next

  pub all-in_room : (limit context : ℕ) → ((number : ℕ) → IsNumber items number → number < limit) → makes_context page context ≡ true → All (IsInRoom limit page.next) (kept_list items page context)
  all-in_room limit context below real = λ k none within.
      let kept = kept_list items page context in
      let is = kept_at (get_or kept k none) context k real (slice_get-get_or kept k none within) in
      subst (IsInRoom limit page.next) is.number_is (in_room limit below is.listed context k is.at)

-- what is the same for each element of a list is the same for the list
map-same : {A B : Type 0} (f g : A → B) (xs : List A) → ((k : ℕ) (x : A) → slice_get xs k ≡ Some x → f x ≡ g x) → map f xs ≡ map g xs
map-same f g [] same = refl
map-same f g (x ∷ xs) same = ap (λ y. y ∷ map f xs) (same 0 x refl) ∙ ap (λ ys. g x ∷ ys) (map-same f g xs (λ k y is. same (suc k) y is))

-- a list that stays has the numbers that it had
pub lists-keep_numbers : (page after : Contents) (items items' : ItemsState) (id : ℕ) → IsValid page → IsValid after → IsNumberedPage page items → KeepsNumbers items items' after → makes_context page id ≡ true → KeepsList page after id → kept_list items' after id ≡ kept_list items page id
lists-keep_numbers page after items items' id valid valid' are_numbered keeps real stays = ap (map (numbered items')) stays.listed ∙ map-same (numbered items') (numbered items) (of_node entries page id) same
  where
    same : (k : ℕ) (listed : ContextEntry) → slice_get (of_node entries page id) k ≡ Some listed → numbered items' listed ≡ numbered items listed
    same k (OneItem item) stands =
        let has = are_numbered.each item (listed-item page valid item id k (record { is_context = real; stands = stands })) in
        let there = listed-item after valid' item id k (record { is_context = stays.context; stands = ap (λ es. slice_get es k) stays.listed ∙ stands }) in
        ap entry.Item ((keeps has.0 item has.1 there).number_is ∙ sym has.1.number_is)
    same k (SubContext other) stands = refl

-- a table of all lists of a page
module _ (page : Contents) (valid : IsValid page) (items : ItemsState) (lists : Lists) (are : AreListsOf lists page items) where
  stands-in_table : (listed : ContextEntry) (context k : ℕ) → IsListedAt page listed context k → StandsAt lists (numbered items listed) context k
  stands-in_table listed context k is =
      let c = list_at page listed context k is in
      ap (λ (es : List Entry). slice_get es k) (list-there page valid items lists are context c)
      ∙ slice_get-map (numbered items) (entries c.place) k ∙ ap (option_map (numbered items)) (at_place page listed context k is)

  -- what has a list is a stacking context
  has_list-context : (id : ℕ) → IsSome (list_under lists id) → makes_context page id ≡ true
  has_list-context id some = by_test (makes_context page id) (sym (ap is_some (are id)) ∙ some)
    where
      by_test : (b : Bool) → is_some (if b then Some (kept_list items page id) else None) ≡ true → b ≡ true
      by_test true is = refl
      by_test false is = absurd (false≢true is)

  no_other_root : (f : Forest) (id root : ℕ) → length (roots_of f) ≤ 1 → list_any (λ r. r == root) (roots_of f) ≡ true → id ≢ root → list_any (λ r. r == id) (roots_of f) ≡ false
  no_other_root End id root one is other = refl
  no_other_root (Grow n below End) id root one is other = grind (arith, nat_tests)
  no_other_root (Grow n below (Grow m deeper others)) id root one is other = absurd (omega arith)

  pub lists-whole : (root : ℕ) → is_root page root ≡ true → IsWhole lists root
  lists-whole root is = λ id some other.
      let above = stands_above page valid id (has_list-context id some) (no_other_root page.tree id root valid.one_tree is other) in
      (context_of page id, above.0, stands-in_table (SubContext id) (context_of page id) above.0 above.1)
