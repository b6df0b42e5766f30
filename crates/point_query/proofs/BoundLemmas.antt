-- How many steps items take: the containing blocks of a node are no more than it is deep, and a list of items takes what each of
-- them takes.
use Rattle.std.proofs.Common.{◌≡◌, ℕ, ◌+◌, ◌≤◌, ◌<◌, List, [], ◌∷◌, ◌++◌, length, take, drop, get_or, Option, Some, None, Bool, true, false, if◌then◌else◌, sym, ap, ◌∙◌, arith}
use Rattle.std.specs.Option.{option_map_or}
use Rattle.std.specs.List.{sum_by}
use Rattle.std.proofs.lemmas.List.{map-append, take_more, take-append-drop, length-append, length-map, length-take-le}
use Rattle.std.proofs.lemmas.List.Sums.{sum_by-cons, sum_by-append}
use Rattle.std.proofs.lemmas.Option.{get_or_from_slice_get}
use Rattle.box_tree.specs.declared.containing.Wanted.{Wanted}
use Rattle.box_tree.specs.declared.item.Item.{Item}
use Rattle.box_tree.specs.declared.node.Node.{Node}
use Rattle.box_tree.specs.Forest.{Label, Placed}
use Rattle.box_tree.specs.Contents.{Contents, node_of, depth_below, placed_of}
use Rattle.box_tree.specs.Containing.{may_hold, parent_of, sought, holders_among, containing_block_chain, standing_at}
use Rattle.box_tree.specs.Numbers.{ItemsState, Names}
use Rattle.box_tree.proofs.PlacedLemmas.{seen_at}
use Rattle.scroll_clip.specs.Clips.{holders_of}
use Rattle.point_query.specs.Bound.{depth_of, areas_named, area_count, member_bound}
use Rattle.point_query.specs.Topmost.{item_named, items_named}

holders-above : (wanted : Wanted) (above : List Label) → length (holders_among wanted above) ≤ length above
holders-above wanted [] = omega arith
holders-above wanted (n ∷ above) = by_test (may_hold wanted (parent_of above) n) (holders-above (sought n) above) (holders-above wanted above)
  where
    by_test : (b : Bool) → length (holders_among (sought n) above) ≤ length above → length (holders_among wanted above) ≤ length above →
        length (if b then record { label = n; above = above } ∷ holders_among (sought n) above else holders_among wanted above) ≤ length (n ∷ above)
    by_test true further nearer = omega (arith, further)
    by_test false further nearer = omega (arith, nearer)

-- the containing blocks of a node are no more than its depth
pub holders-depth : (page : Contents) (id : ℕ) → length (holders_of page id) ≤ depth_of page id
holders-depth page id = by_place (placed_of page id)
  where
    by_place : (o : Option Placed) → length (option_map_or (λ p. containing_block_chain (standing_at p)) o []) ≤ option_map_or (λ p. depth_below p.above) o 0
    by_place None = omega arith
    by_place (Some p) = omega (arith, holders-above (sought p.label) p.above)

-- the areas that a node names, as a reader sees it
pub areas-seen : (page : Contents) (id : ℕ) (node : Node) → node_of page id ≡ Some node → area_count page id ≡ areas_named page node.form
areas-seen page id node seen =
    let is = seen_at page id node seen in
    ap (λ (o : Option Placed). option_map_or (λ p. areas_named page p.label.form) o 0) is.found ∙ ap (λ (n : Node). areas_named page n.form) is.node_is

-- ---- the steps of a list of items

-- each item may take one step at least
pub more-than_length : (page : Contents) (items : List Item) → length items ≤ sum_by (member_bound page) items
more-than_length page [] = omega arith
more-than_length page (item ∷ items) = omega (arith, more-than_length page items, sum_by-cons (member_bound page) item items)

module _ (page : Contents) (s : ItemsState) (numbers : List ℕ) (k : ℕ) (item : Item) (within : k < length numbers) (names : Names s (get_or numbers k 0) item) where
  abbrev steps_of : List ℕ → ℕ
  steps_of ns = sum_by (member_bound page) (items_named s ns)

  steps-append : (ns others : List ℕ) → steps_of (ns ++ others) ≡ steps_of ns + steps_of others
  steps-append ns others = ap (sum_by (member_bound page)) (map-append (item_named s) ns others) ∙ sum_by-append (member_bound page) (items_named s ns) (items_named s others)

  -- the steps of one item more
  pub steps-more : steps_of (take (k + 1) numbers) ≡ steps_of (take k numbers) + member_bound page item
  steps-more =
      let last : steps_of (get_or numbers k 0 ∷ []) ≡ member_bound page item =
      sum_by-cons (member_bound page) (item_named s (get_or numbers k 0)) []
      ∙ ap (λ (i : Item). member_bound page i + sum_by (member_bound page) []) (get_or_from_slice_get s.given (get_or numbers k 0) item _ names.given_to)
      ∙ omega arith in
      ap steps_of (take_more numbers k 0 within) ∙ steps-append (take k numbers) (get_or numbers k 0 ∷ []) ∙ ap (λ n. steps_of (take k numbers) + n) last

  -- with one for each item behind it they are no more than those of all
  pub steps-rest : steps_of (take (k + 1) numbers) + length numbers ≤ steps_of numbers + (k + 1)
  steps-rest =
      let rest = drop (k + 1) numbers in
      let all : steps_of numbers ≡ steps_of (take (k + 1) numbers) + steps_of rest = ap steps_of (sym (take-append-drop (k + 1) numbers)) ∙ steps-append (take (k + 1) numbers) rest in
      let parts : length numbers ≡ length (take (k + 1) numbers) + length rest = ap (λ (ns : List ℕ). length ns) (sym (take-append-drop (k + 1) numbers)) ∙ length-append (take (k + 1) numbers) rest in
      omega (arith, all, parts, more-than_length page (items_named s rest), length-map rest (item_named s), length-take-le (k + 1) numbers (omega (arith, within)))
