-- The items of a node that suits its place, one by one.
use Rattle.std.proofs.Common.{◌≡◌, ℕ, zero, suc, ◌+◌, ◌<◌, ◌≤◌, List, [], ◌∷◌, ◌++◌, length, get_or, Option, Some, None, false, refl, sym, ap, ◌∙◌, subst, arith}
use Rattle.std.specs.Prelude.{IsTrue}
use Rattle.std.specs.Option.{option_map}
use Rattle.std.proofs.lemmas.Bool.Decides.{nat_tests}
use Rattle.std.proofs.lemmas.List.{append-nil}
use Rattle.std.proofs.lemmas.Option.{same_Some}
use Rattle.box_tree.specs.declared.item.Item.{Item}
use Rattle.box_tree.specs.declared.item.Part.TheVariants.{Box}
use Rattle.box_tree.specs.declared.kind.Kind.{Kind}
use Rattle.box_tree.specs.declared.kind.Kind.TheVariants.{Block, Inline, InlineBlock, Image, Svg, Text, Map, Area, Group, Shape, Inner}
use Rattle.box_tree.specs.declared.node.Node.{Node}
use Rattle.box_tree.specs.declared.piece.Piece.{Piece}
use Rattle.box_tree.specs.Contents.{Contents, node_of, node_at, placed_of, IsSuited, IsValid}
use Rattle.box_tree.specs.Forest.{Label, Placed}
use Rattle.box_tree.specs.Items.{box_items, drawn_as, items_of, items_at, node_items}
use Rattle.box_tree.specs.Numbers.{place_of}
use Rattle.box_tree.specs.Renumbered.{part_at, item_at}
use Rattle.box_tree.specs.Suits.{box_count_suits, kind_suits}
use Rattle.box_tree.specs.Touched.{item_count_of}
use Rattle.box_tree.proofs.MoveLemmas.{each-placed}
use Rattle.box_tree.proofs.PlacedLemmas.{id-placed_in}

pub length-box_items : (id place : ℕ) (boxes : List Piece) → length (box_items id place boxes) ≡ length boxes
length-box_items id place [] = refl
length-box_items id place (box ∷ boxes) = omega (arith, length-box_items id (place + 1) boxes)

pub box_items-at : (id from : ℕ) (boxes : List Piece) (place : ℕ) (none : Item) → place < length boxes → get_or (box_items id from boxes) place none ≡ record { node = id; part = Box (from + place) }
box_items-at id from [] place none lt = absurd (omega arith)
box_items-at id from (box ∷ boxes) zero none lt = ap (λ (k : ℕ). let item : Item = record { node = id; part = Box k } in item) (omega arith)
box_items-at id from (box ∷ boxes) (suc place) none lt =
    box_items-at id (from + 1) boxes place none (omega arith) ∙ ap (λ (k : ℕ). let item : Item = record { node = id; part = Box k } in item) (omega arith)

-- a node of a kind has so many items, each at its place
pub record AreItems (id : ℕ) (kind : Kind) (count : ℕ) (items : List Item) : Type 0 where
  pub count_is : length items ≡ count
  pub at : (place : ℕ) (none : Item) → place < count → get_or items place none ≡ item_at id kind place
  pub placed : (place : ℕ) → place < count → place_of (part_at kind place) ≡ place

-- boxes alone
boxes_alone : (id : ℕ) (boxes : List Piece) → AreItems id Block (length boxes) (box_items id 0 boxes ++ [])
boxes_alone id boxes = record {
  count_is = ap (λ (items : List Item). length items) (append-nil (box_items id 0 boxes)) ∙ length-box_items id 0 boxes;
  at = λ place none lt. ap (λ (items : List Item). get_or items place none) (append-nil (box_items id 0 boxes)) ∙ box_items-at id 0 boxes place none lt ∙ ap (λ (k : ℕ). let item : Item = record { node = id; part = Box k } in item) (omega arith);
  placed = λ place lt. refl;
}

same_kind : (id : ℕ) (kind : Kind) (count : ℕ) (items : List Item) → ((place : ℕ) → part_at kind place ≡ Box place) → AreItems id Block count items → AreItems id kind count items
same_kind id kind count items parts are = record {
  count_is = are.count_is;
  at = λ place none lt. are.at place none lt ∙ ap (λ part. let item : Item = record { node = id; part = part } in item) (sym (parts place));
  placed = λ place lt. ap place_of (parts place);
}

image_items : (id : ℕ) (boxes : List Piece) → length boxes ≤ 1 → AreItems id Image (item_count_of Image (length boxes)) (box_items id 0 boxes ++ drawn_as Image id boxes)
image_items id [] few = record { count_is = refl; at = λ place none lt. absurd (omega arith); placed = λ place lt. absurd (omega arith) }
image_items id (box ∷ []) few = record { count_is = refl; at = at; placed = placed }
  where
    at : (place : ℕ) (none : Item) → place < 2 → get_or (box_items id 0 (box ∷ []) ++ drawn_as Image id (box ∷ [])) place none ≡ item_at id Image place
    at zero none lt = refl
    at (suc zero) none lt = refl
    at (suc (suc place)) none lt = absurd (omega arith)

    placed : (place : ℕ) → place < 2 → place_of (part_at Image place) ≡ place
    placed zero lt = refl
    placed (suc zero) lt = refl
    placed (suc (suc place)) lt = absurd (omega arith)
image_items id (box ∷ other ∷ boxes) few = absurd (omega arith)

shape_items : (id : ℕ) (boxes : List Piece) → length boxes ≡ 0 → AreItems id Shape 1 (box_items id 0 boxes ++ drawn_as Shape id boxes)
shape_items id [] none = record { count_is = refl; at = at; placed = placed }
  where
    at : (place : ℕ) (none : Item) → place < 1 → get_or (box_items id 0 [] ++ drawn_as Shape id []) place none ≡ item_at id Shape place
    at zero none lt = refl
    at (suc place) none lt = absurd (omega arith)

    placed : (place : ℕ) → place < 1 → place_of (part_at Shape place) ≡ place
    placed zero lt = refl
    placed (suc place) lt = absurd (omega arith)
shape_items id (box ∷ boxes) none = absurd (omega arith)

few_boxes : (count : ℕ) → IsTrue (box_count_suits false Image count) → count ≤ 1
few_boxes count suits = grind (arith, nat_tests, suits)

no_boxes : (count : ℕ) → IsTrue (box_count_suits false Shape count) → count ≡ 0
no_boxes count suits = grind (arith, nat_tests, suits)

-- the items of a node with a suitable number of boxes; an image or a shape is never the root
pub items_suited : (id : ℕ) (kind : Kind) (boxes : List Piece) → IsTrue (box_count_suits false kind (length boxes)) → AreItems id kind (item_count_of kind (length boxes)) (box_items id 0 boxes ++ drawn_as kind id boxes)
items_suited id Block boxes suits = boxes_alone id boxes
items_suited id Inline boxes suits = same_kind id Inline _ _ (λ place. refl) (boxes_alone id boxes)
items_suited id InlineBlock boxes suits = same_kind id InlineBlock _ _ (λ place. refl) (boxes_alone id boxes)
items_suited id Image boxes suits = image_items id boxes (few_boxes (length boxes) suits)
items_suited id Svg boxes suits = same_kind id Svg _ _ (λ place. refl) (boxes_alone id boxes)
items_suited id Text boxes suits = same_kind id Text _ _ (λ place. refl) (boxes_alone id boxes)
items_suited id Map boxes suits = same_kind id Map _ _ (λ place. refl) (boxes_alone id boxes)
items_suited id Area boxes suits = same_kind id Area _ _ (λ place. refl) (boxes_alone id boxes)
items_suited id Group boxes suits = same_kind id Group _ _ (λ place. refl) (boxes_alone id boxes)
items_suited id Shape boxes suits = shape_items id boxes (no_boxes (length boxes) suits)
items_suited id Inner boxes suits = same_kind id Inner _ _ (λ place. refl) (boxes_alone id boxes)

-- only a block is a root
root_kind : (kind : Kind) → IsTrue (kind_suits [] kind) → kind ≡ Block
root_kind Block suits = refl
root_kind kind suits = absurd cc

-- so have those of a node in its place: the root is a block
pub items_placed : (above : List Label) (n : Label) → IsSuited above n → AreItems n.id n.kind (item_count_of n.kind (length n.boxes)) (items_of n)
items_placed [] n suited =
    let is : n.kind ≡ Block = root_kind n.kind suited.kind in
    subst (λ k. AreItems n.id k (item_count_of k (length n.boxes)) (box_items n.id 0 n.boxes ++ drawn_as k n.id n.boxes)) (sym is) (boxes_alone n.id n.boxes)
items_placed (parent ∷ above) n suited = items_suited n.id n.kind n.boxes suited.boxes

-- the items of a node of a valid page
pub items_valid : (page : Contents) → IsValid page → (id : ℕ) (n : Node) → node_of page id ≡ Some n → AreItems id n.kind (item_count_of n.kind (length n.boxes)) (node_items page id)
items_valid page valid id n is = at_place (placed_of page id) refl is
  where
    at_place : (o : Option Placed) → placed_of page id ≡ o → option_map node_at o ≡ Some n → AreItems id n.kind (item_count_of n.kind (length n.boxes)) (node_items page id)
    at_place None found is' = absurd cc
    at_place (Some p) found is' =
        let here : node_at p ≡ n = same_Some (node_at p) n is' in
        let are = items_placed p.above p.label (each-placed IsSuited page.tree [] id p valid.suited found).0 in
        let id_is : p.label.id ≡ id = id-placed_in page.tree [] id p found in
        subst (λ (m : Node). AreItems id m.kind (item_count_of m.kind (length m.boxes)) (node_items page id)) here
        (subst (λ (o : Option Node). AreItems id p.label.kind (item_count_of p.label.kind (length p.label.boxes)) (items_at o)) (sym (ap (option_map node_at) found))
        (subst (λ (i : ℕ). AreItems i p.label.kind (item_count_of p.label.kind (length p.label.boxes)) (items_of p.label)) id_is are))
