-- No item stands twice among the items of trees in which no id stands twice: a node has each of its items once.
use Rattle.std.proofs.Common.{◌≡◌, ℕ, ◌+◌, ◌<◌, ◌≤◌, ◌==◌, List, [], ◌∷◌, ◌++◌, Bool, true, false, if◌then◌else◌, refl, arith}
use Rattle.std.specs.Prelude.{◌&&◌}
use Rattle.std.proofs.lemmas.Bool.Decides.{nat_tests}
use Rattle.box_tree.specs.declared.kind.Kind.{Kind}
use Rattle.box_tree.specs.declared.kind.Kind.TheVariants.{Block, Inline, InlineBlock, Image, Svg, Text, Map, Area, Group, Shape, Inner}
use Rattle.box_tree.specs.declared.piece.Piece.{Piece}
use Rattle.box_tree.specs.declared.item.Item.{Item}
use Rattle.box_tree.specs.declared.item.Part.{Part}
use Rattle.box_tree.specs.declared.item.Part.TheVariants.{Box, Content, Outline}
use Rattle.box_tree.specs.Forest.{Label, Forest, End, Grow, Placed, occurrences}
use Rattle.stacking.specs.Painting.{own, drawn, drawn_as, content_item, box_items}
use Rattle.stacking.specs.Counting.{count, items_in, is_part, is_item, EachItemIsPaintedOnce}
use Rattle.stacking.proofs.CountLemmas as counted

-- how often an item stands in a list
abbrev times : ℕ → Part → List Item → ℕ
times node part items = count (is_item (record { node = node; part = part })) items

-- the boxes from a place on have no box before that place
boxes-before : (node j id k : ℕ) (boxes : List Piece) → j < k → times node (Box j) (box_items id k boxes) ≡ 0
boxes-before node j id k [] before = refl
boxes-before node j id k (box ∷ boxes) before = by_test (id == node) (j == k) (grind (arith, nat_tests)) (boxes-before node j id (k + 1) boxes (omega arith))
  where
    by_test : (a b : Bool) → b ≡ false → times node (Box j) (box_items id (k + 1) boxes) ≡ 0 → (if a && b then 1 else 0) + times node (Box j) (box_items id (k + 1) boxes) ≡ 0
    by_test true true is rest = absurd cc
    by_test true false is rest = omega (arith, rest)
    by_test false b is rest = omega (arith, rest)

-- a box stands once among the boxes of its node, and not among those of another
boxes-once : (node j id k : ℕ) (boxes : List Piece) → times node (Box j) (box_items id k boxes) ≤ (if id == node then 1 else 0)
boxes-once node j id k [] = omega arith
boxes-once node j id k (box ∷ boxes) = by_test (id == node) (j == k) (λ same. boxes-before node j id (k + 1) boxes (grind (arith, nat_tests))) (boxes-once node j id (k + 1) boxes)
  where
    by_test : (a b : Bool) → (b ≡ true → times node (Box j) (box_items id (k + 1) boxes) ≡ 0) → times node (Box j) (box_items id (k + 1) boxes) ≤ (if a then 1 else 0) → (if a && b then 1 else 0) + times node (Box j) (box_items id (k + 1) boxes) ≤ (if a then 1 else 0)
    by_test true true none rest = omega (arith, none refl)
    by_test true false none rest = omega (arith, rest)
    by_test false b none rest = omega (arith, rest)

-- no content and no outline stands among boxes
boxes-no_content : (node id k : ℕ) (boxes : List Piece) → times node Content (box_items id k boxes) ≡ 0
boxes-no_content node id k [] = refl
boxes-no_content node id k (box ∷ boxes) = by_test (id == node) (boxes-no_content node id (k + 1) boxes)
  where
    by_test : (a : Bool) → times node Content (box_items id (k + 1) boxes) ≡ 0 → (if a && false then 1 else 0) + times node Content (box_items id (k + 1) boxes) ≡ 0
    by_test true rest = omega (arith, rest)
    by_test false rest = omega (arith, rest)

boxes-no_outline : (node id k : ℕ) (boxes : List Piece) → times node Outline (box_items id k boxes) ≡ 0
boxes-no_outline node id k [] = refl
boxes-no_outline node id k (box ∷ boxes) = by_test (id == node) (boxes-no_outline node id (k + 1) boxes)
  where
    by_test : (a : Bool) → times node Outline (box_items id (k + 1) boxes) ≡ 0 → (if a && false then 1 else 0) + times node Outline (box_items id (k + 1) boxes) ≡ 0
    by_test true rest = omega (arith, rest)
    by_test false rest = omega (arith, rest)

-- an item is the content of a node where it is a content, and of this node
content-is : (node : ℕ) (part : Part) (id : ℕ) (boxes : List Piece) → times node part (content_item id boxes) ≤ (if (id == node) && is_part part Content then 1 else 0)
content-is node part id [] = omega arith
content-is node part id (box ∷ boxes) = omega arith

-- whether a part is drawn beside the boxes
abbrev is_drawn : Part → Bool
is_drawn (Box place) = false
is_drawn Content = true
is_drawn Outline = true

few : (a b c : Bool) (k : ℕ) → (b ≡ true → c ≡ true) → k ≤ (if a && b then 1 else 0) → k ≤ (if a && c then 1 else 0)
few true true true k implies least = least
few true true false k implies least = absurd (let e : false ≡ true = implies refl in cc)
few true false c k implies least = omega (arith, least)
few false b c k implies least = least

content_drawn : (part : Part) → is_part part Content ≡ true → is_drawn part ≡ true
content_drawn (Box place) is = is
content_drawn Content is = refl
content_drawn Outline is = refl

outline_drawn : (part : Part) → is_part part Outline ≡ true → is_drawn part ≡ true
outline_drawn (Box place) is = is
outline_drawn Content is = refl
outline_drawn Outline is = refl

-- what a node is drawn as beside its boxes stands once, and is of this node
drawn-once : (node : ℕ) (part : Part) (n : Label) → times node part (drawn n) ≤ (if (n.id == node) && is_drawn part then 1 else 0)
drawn-once node part n = by_kind n.kind
  where
    by_kind : (kind : Kind) → times node part (drawn_as kind n.id n.boxes) ≤ (if (n.id == node) && is_drawn part then 1 else 0)
    by_kind Image = few (n.id == node) (is_part part Content) (is_drawn part) _ (content_drawn part) (content-is node part n.id n.boxes)
    by_kind Shape = few (n.id == node) (is_part part Outline) (is_drawn part) _ (outline_drawn part) (omega arith)
    by_kind Block = omega arith
    by_kind Inline = omega arith
    by_kind InlineBlock = omega arith
    by_kind Svg = omega arith
    by_kind Text = omega arith
    by_kind Map = omega arith
    by_kind Area = omega arith
    by_kind Group = omega arith
    by_kind Inner = omega arith

-- a node has each of its items once, and none of another node
node-once : (node : ℕ) (part : Part) (p : Placed) → times node part (own p) + times node part (drawn p.label) ≤ (if p.label.id == node then 1 else 0)
node-once node (Box j) p = by_test (p.label.id == node) (boxes-once node j p.label.id 0 p.label.boxes) (drawn-once node (Box j) p.label)
  where
    by_test : (a : Bool) → times node (Box j) (own p) ≤ (if a then 1 else 0) → times node (Box j) (drawn p.label) ≤ (if a && false then 1 else 0) → times node (Box j) (own p) + times node (Box j) (drawn p.label) ≤ (if a then 1 else 0)
    by_test true once none = omega (arith, once, none)
    by_test false once none = omega (arith, once, none)
node-once node Content p = by_test (p.label.id == node) (boxes-no_content node p.label.id 0 p.label.boxes) (drawn-once node Content p.label)
  where
    by_test : (a : Bool) → times node Content (own p) ≡ 0 → times node Content (drawn p.label) ≤ (if a && true then 1 else 0) → times node Content (own p) + times node Content (drawn p.label) ≤ (if a then 1 else 0)
    by_test true none once = omega (arith, once, none)
    by_test false none once = omega (arith, once, none)
node-once node Outline p = by_test (p.label.id == node) (boxes-no_outline node p.label.id 0 p.label.boxes) (drawn-once node Outline p.label)
  where
    by_test : (a : Bool) → times node Outline (own p) ≡ 0 → times node Outline (drawn p.label) ≤ (if a && true then 1 else 0) → times node Outline (own p) + times node Outline (drawn p.label) ≤ (if a then 1 else 0)
    by_test true none once = omega (arith, once, none)
    by_test false none once = omega (arith, once, none)

-- trees have an item no more often than the id of its node
items-once : (node : ℕ) (part : Part) (above : List Label) (f : Forest) → times node part (items_in above f) ≤ occurrences f node
items-once node part above End = omega arith
items-once node part above (Grow n below others) =
    let p : Placed = record { label = n; above = above; below = below } in
    let test = is_item (record { node = node; part = part }) in
    omega (
      arith,
      counted.count-append test (own p) (drawn n ++ (items_in (n ∷ above) below ++ items_in above others)),
      counted.count-append test (drawn n) (items_in (n ∷ above) below ++ items_in above others),
      counted.count-append test (items_in (n ∷ above) below) (items_in above others),
      node-once node part p,
      items-once node part (n ∷ above) below,
      items-once node part above others,
    )

pub each_item_is_painted_once : EachItemIsPaintedOnce
each_item_is_painted_once page valid item =
    omega (arith, counted.all_items_are_painted page valid (is_item item), items-once item.node item.part [] page.tree, valid.distinct item.node)
