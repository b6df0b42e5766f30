-- The lists of all stacking contexts of a page: how deep they nest, and what they make flattened.
use Rattle.std.proofs.Common.{◌≡◌, ℕ, zero, suc, ◌<◌, List, [], ◌∷◌, ◌++◌, map, Option, Some, None, slice_get, unwrap_or, Bool, true, false, refl, sym, ap, ◌∙◌, append_assoc, arith}
use Rattle.std.proofs.lemmas.List.{append-nil, map-append}
use Rattle.std.proofs.lemmas.Option.{none-some}
use Rattle.std.specs.Prelude.{if◌then◌else◌, not, ◌&&◌, int_lt, pos}
use Rattle.std.specs.List.{filter, flat_map, AllByRecursion}
use Rattle.box_tree.specs.declared.item.Item.{Item}
use Rattle.box_tree.specs.Forest.{Placed, height_of}
use Rattle.box_tree.specs.Contents.{Contents, IsValid}
use Rattle.box_tree.specs.Containing.{makes_context}
use Rattle.box_tree.specs.Numbers.{ItemsState}
use Rattle.box_tree.specs.Used.{is_real_context}
use Rattle.box_tree.proofs.SubtreeLemmas.{height-placed_in}
use Rattle.paint_order.specs.declared.entry.Entry.{Entry}
use Rattle.paint_order.specs.declared.entry.Entry.TheVariants as entry
use Rattle.paint_order.specs.Lists.{Lists, entries_of}
use Rattle.paint_order.specs.Order.{items_of, flattened, NestsWithin, NestWithin}
use Rattle.stacking.specs.Painting.{at, head, body, flat, level_of, context_members, context_list, ContextEntry, OneItem, SubContext, listed_member, entries, painted_member, layer}
use Rattle.stacking.specs.OnPage.{of_node}
use Rattle.stacking.specs.Lists.{number_of, numbered, kept_list, AreListsOf}
use Rattle.stacking.proofs.LevelLemmas.{layer-is}
use Rattle.stacking.proofs.ListLemmas.{each-filter, each-weaken, flat_map-same, map-flat_map}
use Rattle.stacking.proofs.MemberLemmas.{IsContextAt, context_at, makes-context, of_node-context, IsWithin, are-within, listed-at}

-- the items of a list, given those of each list in it
module _ (s : ItemsState) (inner : ℕ → List ℕ) where
  abbrev items_in : List ContextEntry → List ℕ
  items_in es = flat_map (items_of inner) (map (numbered s) es)

  items_in-append : (es others : List ContextEntry) → items_in (es ++ others) ≡ items_in es ++ items_in others
  items_in-append [] others = refl
  items_in-append (e ∷ es) others =
      ap (λ is. items_of inner (numbered s e) ++ is) (items_in-append es others) ∙ sym (append_assoc (items_of inner (numbered s e)) (items_in es) (items_in others))

  items_in-flat_map : {X : Type 0} (f : X → List ContextEntry) (xs : List X) → items_in (flat_map f xs) ≡ flat_map (λ x. items_in (f x)) xs
  items_in-flat_map f [] = refl
  items_in-flat_map f (x ∷ xs) = items_in-append (f x) (flat_map f xs) ∙ ap (λ is. items_in (f x) ++ is) (items_in-flat_map f xs)

  items_in-items : (items : List Item) → items_in (map OneItem items) ≡ map (number_of s) items
  items_in-items [] = refl
  items_in-items (item ∷ items) = ap (λ is. number_of s item ∷ is) (items_in-items items)

  -- a member gives what is painted of it, if the list of each one that is a stacking context gives its layer
  abbrev GivesLayer : Placed → Type 0
  GivesLayer m = at is_real_context m ≡ true → inner m.label.id ≡ map (number_of s) (layer m)

  items_in-member : (m : Placed) → GivesLayer m → items_in (listed_member m) ≡ map (number_of s) (painted_member layer m)
  items_in-member m gives = by_test (at is_real_context m) gives
    where
      by_test : (b : Bool) → (b ≡ true → inner m.label.id ≡ map (number_of s) (layer m)) → items_in (if b then SubContext m.label.id ∷ [] else map OneItem (flat m)) ≡ map (number_of s) (if b then layer m else flat m)
      by_test true gives' = append-nil (inner m.label.id) ∙ gives' refl
      by_test false gives' = items_in-items (flat m)

  module _ (p : Placed) (all : AllByRecursion GivesLayer (context_members p)) where
    items_in-side : (test : Placed → Bool) → items_in (flat_map listed_member (filter test (context_members p))) ≡ map (number_of s) (flat_map (painted_member layer) (filter test (context_members p)))
    items_in-side test =
        items_in-flat_map listed_member (filter test (context_members p))
        ∙ flat_map-same GivesLayer (λ m. items_in (listed_member m)) (λ m. map (number_of s) (painted_member layer m)) (filter test (context_members p)) items_in-member (each-filter GivesLayer test (context_members p) all)
        ∙ sym (map-flat_map (number_of s) (painted_member layer) (filter test (context_members p)))

    pub items_in-list : items_in (entries p) ≡ map (number_of s) (context_list (λ items. items) (painted_member layer) p)
    items_in-list =
        parts (map OneItem (head p)) _ (map OneItem (body p)) _ _ (head p) _ (body p) _ _ (items_in-items (head p)) (items_in-side (λ m. int_lt (level_of m) (pos 0))) (items_in-items (body p))
        (items_in-side (λ m. not (int_lt (level_of m) (pos 0)) && not (int_lt (pos 0) (level_of m)))) (items_in-side (λ m. int_lt (pos 0) (level_of m)))
      where
        two : (es others : List ContextEntry) (is others' : List Item) → items_in es ≡ map (number_of s) is → items_in others ≡ map (number_of s) others' → items_in (es ++ others) ≡ map (number_of s) (is ++ others')
        two es others is others' first second = items_in-append es others ∙ rw (first, second) (sym (map-append (number_of s) is others'))

        parts : (a b c d e : List ContextEntry) (a' b' c' d' e' : List Item) → items_in a ≡ map (number_of s) a' → items_in b ≡ map (number_of s) b' → items_in c ≡ map (number_of s) c' → items_in d ≡ map (number_of s) d' → items_in e ≡ map (number_of s) e' →
            items_in (a ++ (b ++ (c ++ (d ++ e)))) ≡ map (number_of s) (a' ++ (b' ++ (c' ++ (d' ++ e'))))
        parts a b c d e a' b' c' d' e' of_a of_b of_c of_d of_e =
            two a _ a' _ of_a (two b _ b' _ of_b (two c _ c' _ of_c (two d e d' e' of_d of_e)))

-- a stacking context in the list as it is kept is one in the list
numbered-sub : (s : ItemsState) (es : List ContextEntry) (k sub : ℕ) → slice_get (map (numbered s) es) k ≡ Some (entry.Sub sub) → slice_get es k ≡ Some (SubContext sub)
numbered-sub s [] k sub is = absurd (none-some (entry.Sub sub) is)
numbered-sub s (OneItem item ∷ es) zero sub is = absurd cc
numbered-sub s (SubContext id ∷ es) zero sub is = let same : id ≡ sub = cc in ap (λ i. Some (SubContext i)) same
numbered-sub s (OneItem item ∷ es) (suc k) sub is = numbered-sub s es k sub is
numbered-sub s (SubContext id ∷ es) (suc k) sub is = numbered-sub s es k sub is

module _ (page : Contents) (valid : IsValid page) (items : ItemsState) (lists : Lists) (are : AreListsOf lists page items) where
  pub list-there : (id : ℕ) (c : IsContextAt page id) → entries_of lists id ≡ map (numbered items) (entries c.place)
  list-there id c =
      ap (λ (o : Option (List Entry)). unwrap_or o []) (are id)
      ∙ ap (λ b. unwrap_or (if b then Some (kept_list items page id) else None) []) (makes-context page id c)
      ∙ ap (map (numbered items)) (of_node-context page id c entries)

  -- the list of a stacking context with fewer levels below it, flattened
  flattens : (levels id : ℕ) (c : IsContextAt page id) → height_of c.place.below < levels → flattened levels lists id ≡ map (number_of items) (layer c.place)
  unfolding flattened
  flattens zero id c few = absurd (omega arith)
  flattens (suc levels) id c few =
      ap (λ es. flat_map (items_of (flattened levels lists)) es) (list-there id c)
      ∙ items_in-list items (flattened levels lists) c.place
      (each-weaken (IsWithin page (height_of c.place.below) c.place.label.id) (GivesLayer items (flattened levels lists)) (context_members c.place)
      (λ m within real. flattens levels m.label.id (record { place = m; found = within.stands; real = real }) (omega (arith, within.lower, few))) (are-within page id c valid))
      ∙ sym (ap (map (number_of items)) (layer-is c.place))

  -- the list of a stacking context with fewer levels below it nests within so many
  nests : (levels id : ℕ) (c : IsContextAt page id) → height_of c.place.below < levels → NestsWithin levels lists id
  unfolding NestsWithin
  nests zero id c few = absurd (omega arith)
  nests (suc levels) id c few = λ k sub stands.
      let listed = listed-at page id c valid k sub (numbered-sub items (entries c.place) k sub (sym (ap (λ es. slice_get es k) (list-there id c)) ∙ stands)) in
      nests levels sub listed.at_place (omega (arith, listed.within.lower, few))

  -- so does a number without a list
  nests-nothing : (levels id : ℕ) → makes_context page id ≡ false → NestsWithin (suc levels) lists id
  unfolding NestsWithin
  nests-nothing levels id none = λ k sub stands.
      absurd (none-some (entry.Sub sub) (sym (ap (λ (o : Option (List Entry)). slice_get (unwrap_or o []) k) (are id ∙ ap (λ b. if b then Some (kept_list items page id) else None) none)) ∙ stands))

  few_levels : (id : ℕ) (c : IsContextAt page id) → height_of c.place.below < 256
  few_levels id c = omega (arith, height-placed_in page.tree [] id c.place c.found, valid.depth)

  pub lists-nest : NestWithin 256 lists
  lists-nest id = by_test (makes_context page id) refl
    where
      by_test : (b : Bool) → makes_context page id ≡ b → NestsWithin 256 lists id
      by_test true is = let c = context_at page id is in nests 256 id c (few_levels id c)
      by_test false is = nests-nothing 255 id is

  pub lists-flatten : (id : ℕ) → makes_context page id ≡ true → flattened 256 lists id ≡ map (number_of items) (of_node layer page id)
  lists-flatten id real =
      let c = context_at page id real in
      flattens 256 id c (few_levels id c) ∙ ap (map (number_of items)) (sym (of_node-context page id c layer))
