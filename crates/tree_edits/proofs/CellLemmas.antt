-- The numbers of the items of a node, and the entry of the node.
use Rattle.std.proofs.Common.{◌≡◌, ℕ, zero, suc, ◌+◌, ◌<◌, List, [], ◌∷◌, ◌++◌, length, get_or, append_assoc, map, take, Option, Some, None, IsSome, true, refl, ap, ◌∙◌, arith}
use Rattle.std.proofs.Math.Seq.{take-suc}
use Rattle.std.proofs.lemmas.Bool.{false≢true}
use Rattle.std.proofs.lemmas.Bool.Decides.{nat_tests}
use Rattle.std.proofs.lemmas.List.{map-append}
use Rattle.std.proofs.lemmas.Grind.{flat_map-append}
use Rattle.std.proofs.lemmas.List.{append-nil}
use Rattle.std.specs.List.{flat_map}
use Rattle.std.specs.Option.{option_map, option_and_then}
use Rattle.box_tree.specs.declared.item.Item.{Item}
use Rattle.box_tree.specs.declared.item.Part.TheVariants.{Content}
use Rattle.box_tree.specs.declared.kind.Kind.{Kind}
use Rattle.box_tree.specs.declared.kind.Kind.TheVariants.{Block, Inline, InlineBlock, Image, Svg, Text, Map, Area, Group, Shape, Inner}
use Rattle.box_tree.specs.declared.piece.Piece.{Piece}
use Rattle.box_tree.specs.Contents.{Contents, placed_of, node_at, IsValid, IsSuited}
use Rattle.box_tree.specs.Forest.{Label, Placed}
use Rattle.box_tree.specs.Items.{box_items, drawn_as, items_at, node_items}
use Rattle.box_tree.specs.Numbers.{ItemsState, numbers_of, place_of, Names, IsNumberedPage}
use Rattle.box_tree.specs.Planned.{is_among}
use Rattle.box_tree.specs.Suits.{has_no_parent, kind_suits, box_count_suits}
use Rattle.box_tree.proofs.MoveLemmas.{each-placed}
use Rattle.box_tree.proofs.NumberedPages.{are_placed}
use Rattle.spaces.specs.Spaces.{is_laid_out}
use Rattle.spaces.specs.Table.{entry_of, entry_placed}

-- a node that has items is laid out: a map and its areas have none
laid_out-as : (above : List Label) (id : ℕ) (kind : Kind) (boxes : List Piece) → kind_suits above kind ≡ true → box_count_suits (has_no_parent above) kind (length boxes) ≡ true →
    0 < length (box_items id 0 boxes ++ drawn_as kind id boxes) → is_laid_out kind ≡ true
laid_out-as above id Block boxes suits count some = refl
laid_out-as above id Inline boxes suits count some = refl
laid_out-as above id InlineBlock boxes suits count some = refl
laid_out-as above id Image boxes suits count some = refl
laid_out-as above id Svg boxes suits count some = refl
laid_out-as above id Text boxes suits count some = refl
laid_out-as [] id Map boxes suits count some = absurd (false≢true suits)
laid_out-as (parent ∷ above) id Map [] suits count some = absurd (omega (arith, some))
laid_out-as (parent ∷ above) id Map (box ∷ boxes) suits count some = let none : length (box ∷ boxes) ≡ 0 = grind (arith, nat_tests) in absurd (omega (arith, none))
laid_out-as [] id Area boxes suits count some = absurd (false≢true suits)
laid_out-as (parent ∷ above) id Area [] suits count some = absurd (omega (arith, some))
laid_out-as (parent ∷ above) id Area (box ∷ boxes) suits count some = let none : length (box ∷ boxes) ≡ 0 = grind (arith, nat_tests) in absurd (omega (arith, none))
laid_out-as above id Group boxes suits count some = refl
laid_out-as above id Shape boxes suits count some = refl
laid_out-as above id Inner boxes suits count some = refl

pub no_item : Item
no_item = record { node = 0; part = Content }

-- a number of a node of a valid page
module _ (page : Contents) (items : ItemsState) (valid : IsValid page) (numbered : IsNumberedPage page items) (id place : ℕ) (within : place < length (numbers_of items id)) where
  abbrev number : ℕ
  number = get_or (numbers_of items id) place 0

  within_items : place < length (node_items page id)
  within_items = omega (arith, within, numbered.in_order.count id)

  pub item-at : Item
  item-at = get_or (node_items page id) place no_item

  -- it is that of an item
  pub item-named : Names items number item-at
  unfolding item-at
  item-named = numbered.in_order.named id place no_item within_items

  -- the one that stands at the place
  pub item-read : (item : Item) → Names items number item → item ≡ get_or (node_items page id) place no_item
  unfolding item-at
  item-read item named = numbered.one_item number item item-at named item-named

  -- and of one of the node alone
  pub node-named : (item : Item) → Names items number item → item.node ≡ id
  unfolding item-at
  node-named item named = ap (λ (i : Item). i.node) (numbered.one_item number item item-at named item-named) ∙ (are_placed page valid id place no_item within_items).0

  -- whose part is that of the place
  pub part-named : (item : Item) → Names items number item → place_of item.part ≡ place
  unfolding item-at
  part-named item named = ap (λ (i : Item). place_of i.part) (numbered.one_item number item item-at named item-named) ∙ (are_placed page valid id place no_item within_items).1

  -- the node has an entry
  pub node-entered : IsSome (entry_of page id)
  node-entered = by_place (placed_of page id) refl within_items
    where
      by_place : (o : Option Placed) → placed_of page id ≡ o → place < length (items_at (option_map node_at o)) → IsSome (option_and_then (entry_placed page.viewport) o)
      by_place None found none = absurd (omega (arith, none))
      by_place (Some p) found some =
          let suited = (each-placed IsSuited page.tree [] id p valid.suited found).0 in
          let laid : is_laid_out p.label.kind ≡ true = laid_out-as p.above p.label.id p.label.kind p.label.boxes suited.kind suited.boxes (omega (arith, some)) in
          rw laid refl

-- an id at a place of a list is among those of the list
pub is_among-at : (xs : List ℕ) (k d : ℕ) → k < length xs → is_among xs (get_or xs k d) ≡ true
is_among-at [] k d within = absurd (omega (arith, within))
is_among-at (x ∷ xs) zero d within = grind (arith, nat_tests)
is_among-at (x ∷ xs) (suc k) d within = grind (arith, nat_tests, is_among-at xs k d (omega (arith, within)))

-- ---- a list that is made of the front of another

-- with one element more
pub front-more : {X Y : Type 0} (f : X → Y) (before now : List Y) (xs : List X) (k : ℕ) (none : X) (y : Y) → k < length xs → now ≡ before ++ map f (take k xs) → y ≡ f (get_or xs k none) →
    now ++ y ∷ [] ≡ before ++ map f (take (k + 1) xs)
front-more f before now xs k none y within is same =
    let next : k + 1 ≡ suc k = omega arith in
    rw (is, same, next, take-suc xs k none within, map-append f (take k xs) (get_or xs k none ∷ []), append_assoc) refl

-- with the elements that one more gives
pub front-more_of : {X Y : Type 0} (f : ℕ → Y) (g : X → List ℕ) (before now : List Y) (xs : List X) (k : ℕ) (none : X) → k < length xs → now ≡ before ++ map f (flat_map g (take k xs)) →
    now ++ map f (g (get_or xs k none)) ≡ before ++ map f (flat_map g (take (k + 1) xs))
front-more_of f g before now xs k none within is =
    let next : k + 1 ≡ suc k = omega arith in
    let last : flat_map g (get_or xs k none ∷ []) ≡ g (get_or xs k none) = append-nil (g (get_or xs k none)) in
    rw (is, next, take-suc xs k none within, flat_map-append g (take k xs) (get_or xs k none ∷ []), last, map-append f (flat_map g (take k xs)) (g (get_or xs k none)), append_assoc) refl
