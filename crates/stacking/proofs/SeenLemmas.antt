-- The parts of a walk as they are read on the page.
use Rattle.std.proofs.Common.{◌≡◌, ℕ, List, [], ◌++◌, map, Option, Some, None, Bool, true, false, Result, Ok, Err, refl, sym, ap, ◌∙◌, append_assoc}
use Rattle.std.specs.Prelude.{if◌then◌else◌, IfOk}
use Rattle.std.specs.List.{filter, flat_map}
use Rattle.std.specs.Option.{option_map_or}
use Rattle.std.proofs.lemmas.List.{map-append}
use Rattle.box_tree.specs.declared.kind.Kind.{Kind}
use Rattle.box_tree.specs.declared.kind.Kind.TheVariants.{Image, Svg}
use Rattle.box_tree.specs.declared.node.Node.{Node}
use Rattle.box_tree.specs.declared.item.Item.{Item}
use Rattle.box_tree.specs.Forest.{Label, Placed}
use Rattle.box_tree.specs.Contents.{Contents, node_of, placed_of, ancestors_of, IsValid}
use Rattle.box_tree.specs.Kept.{label_of}
use Rattle.box_tree.specs.Containing.{parent_of}
use Rattle.stacking.specs.Painting.{at, has_head, is_inline, is_replaced_kind, box_items, own, content_item, content, head, own_pieces, shares_in, reach, blocks, floats, pieces, context_members, is_on_lower_level, is_on_lower_line, painted_piece, lines, flat, body, ContextEntry, OneItem, listed_member, entries}
use Rattle.stacking.specs.Sorting.{sorted_by}
use Rattle.stacking.specs.OnPage.{of_node, ids_of, gathered_in, gathered, part_of, line_parts, line_pieces, member_of, members_of, on_side}
use Rattle.stacking.specs.declared.members.Side.{Side}
use Rattle.stacking.specs.declared.members.Side.TheVariants as side
use Rattle.stacking.proofs.ListLemmas.{map-flat_map}
use Rattle.stacking.proofs.LevelLemmas.{flat-is}
use Rattle.stacking.proofs.PageLemmas.{here, of_node-seen, label-seen, ancestors-seen}
use Rattle.stacking.proofs.GatherLemmas.{met_ids, ids-met, pieces-gathered, members-gathered}

-- lists appended one after another
pub appended_four : {A : Type 0} (x a b c d x1 x2 x3 x4 all : List A) → x1 ≡ x ++ a → x2 ≡ x1 ++ b → x3 ≡ x2 ++ c → x4 ≡ x3 ++ d → all ≡ a ++ (b ++ (c ++ d)) → x4 ≡ x ++ all
appended_four x a b c d x1 x2 x3 x4 all e1 e2 e3 e4 is =
    e4 ∙ ap (λ xs. xs ++ d) (e3 ∙ ap (λ xs. xs ++ c) (e2 ∙ ap (λ xs. xs ++ b) e1))
    ∙ append_assoc ((x ++ a) ++ b) c d ∙ append_assoc (x ++ a) b (c ++ d) ∙ append_assoc x a (b ++ (c ++ d)) ∙ ap (λ xs. x ++ xs) (sym is)

pub appended_five : {A : Type 0} (x a b c d e x1 x2 x3 x4 x5 all : List A) → x1 ≡ x ++ a → x2 ≡ x1 ++ b → x3 ≡ x2 ++ c → x4 ≡ x3 ++ d → x5 ≡ x4 ++ e → all ≡ a ++ (b ++ (c ++ (d ++ e))) → x5 ≡ x ++ all
appended_five x a b c d e x1 x2 x3 x4 x5 all e1 e2 e3 e4 e5 is =
    e5 ∙ ap (λ xs. xs ++ e) (appended_four x a b c d x1 x2 x3 x4 _ e1 e2 e3 e4 refl)
    ∙ append_assoc x (a ++ (b ++ (c ++ d))) e
    ∙ ap (λ xs. x ++ xs) (append_assoc a (b ++ (c ++ d)) e ∙ ap (λ xs. a ++ xs) (append_assoc b (c ++ d) e ∙ ap (λ xs. b ++ xs) (append_assoc c d e)) ∙ sym is)

-- what holds of an Ok holds where more does
pub ok-weaker : {A E : Type 0} (r : Result A E) (P Q : A → Type 0) → ((x : A) → P x → Q x) → IfOk r P → IfOk r Q
ok-weaker (Ok x) P Q weaker known = weaker x known
ok-weaker (Err e) P Q weaker known = known

-- the content of a node of a kind, with the outlines of the shapes in it
abbrev pub content_by : Kind → Label → List Item → List Item
content_by Image n inner = content_item n.id n.boxes
content_by Svg n inner = inner
content_by kind n inner = []

module _ (page : Contents) (valid : IsValid page) (id : ℕ) (node : Node) (seen : node_of page id ≡ Some node) where
  -- a word asked of the node and its parent as they are read
  pub word-seen : {A : Type 0} (word : Option Label → Label → A) (parent : Option Label) → parent ≡ parent_of (ancestors_of page id) → word parent (label_of node) ≡ at word (here page valid id node seen)
  word-seen word parent is =
      ap (λ (o : Option Label). word o (label_of node)) (is ∙ ap parent_of (ancestors-seen page valid id node seen))
      ∙ ap (word (parent_of (here page valid id node seen).above)) (label-seen page valid id node seen)

  pub own-seen : box_items node.id 0 node.boxes ≡ of_node own page id
  own-seen = ap (λ (n : Label). box_items n.id 0 n.boxes) (label-seen page valid id node seen) ∙ sym (of_node-seen page valid id node seen own)

  pub head-seen : (b : Bool) (parent : Option Label) → parent ≡ parent_of (ancestors_of page id) → b ≡ has_head parent (label_of node) → (if b then box_items node.id 0 node.boxes else []) ≡ of_node head page id
  head-seen b parent parent_is is =
      ap (λ c. if c then box_items node.id 0 node.boxes else []) (is ∙ word-seen has_head parent parent_is)
      ∙ ap (λ (n : Label). if at has_head (here page valid id node seen) then box_items n.id 0 n.boxes else []) (label-seen page valid id node seen)
      ∙ sym (of_node-seen page valid id node seen head)

  kind-seen : (b : Bool) → b ≡ is_replaced_kind node.kind → b ≡ is_replaced_kind (here page valid id node seen).label.kind
  kind-seen b is = is ∙ ap (λ (n : Label). is_replaced_kind n.kind) (label-seen page valid id node seen)

  -- what the walk of a node meets, unless it is replaced
  pub met-seen : (test : Option Label → Label → Bool) (b : Bool) → b ≡ is_replaced_kind node.kind → (if b then [] else gathered (met_ids test) page id) ≡ ids_of (of_node (λ p. filter (at test) (reach p)) page id)
  met-seen test b is =
      ap (λ xs. if b then [] else xs) (of_node-seen page valid id node seen (gathered_in (met_ids test)))
      ∙ by_test b (kind-seen b is)
      ∙ ap ids_of (sym (of_node-seen page valid id node seen (λ p. filter (at test) (reach p))))
    where
      by_test : (b : Bool) → b ≡ is_replaced_kind (here page valid id node seen).label.kind → (if b then [] else gathered_in (met_ids test) (here page valid id node seen)) ≡ ids_of (filter (at test) (reach (here page valid id node seen)))
      by_test true is' = ap (λ c. ids_of (filter (at test) (if c then [] else flat_map (λ s. s.reach) (shares_in (here page valid id node seen))))) is'
      by_test false is' = sym (ids-met test (shares_in (here page valid id node seen))) ∙ ap (λ c. ids_of (filter (at test) (if c then [] else flat_map (λ s. s.reach) (shares_in (here page valid id node seen))))) is'

  -- the pieces of its lines in tree order
  pub pieces-seen : (b : Bool) (parent : Option Label) → parent ≡ parent_of (ancestors_of page id) → b ≡ is_inline parent (label_of node) → (if b then map part_of (own_pieces (label_of node)) else []) ++ gathered line_parts page id ≡ map part_of (of_node pieces page id)
  pieces-seen b parent parent_is is =
      ap (λ xs. (if b then map part_of (own_pieces (label_of node)) else []) ++ xs) (of_node-seen page valid id node seen (gathered_in line_parts))
      ∙ ap (λ c. (if c then map part_of (own_pieces (label_of node)) else []) ++ gathered_in line_parts (here page valid id node seen)) (is ∙ word-seen is_inline parent parent_is)
      ∙ ap (λ (n : Label). (if at is_inline (here page valid id node seen) then map part_of (own_pieces n) else []) ++ gathered_in line_parts (here page valid id node seen)) (label-seen page valid id node seen)
      ∙ ap (λ xs. (if at is_inline (here page valid id node seen) then map part_of (own_pieces (here page valid id node seen).label) else []) ++ xs) (sym (pieces-gathered (here page valid id node seen)))
      ∙ by_test (at is_inline (here page valid id node seen))
      ∙ ap (map part_of) (sym (of_node-seen page valid id node seen pieces))
    where
      by_test : (c : Bool) → (if c then map part_of (own_pieces (here page valid id node seen).label) else []) ++ map part_of (flat_map (λ s. s.pieces) (shares_in (here page valid id node seen)))
          ≡ map part_of ((if c then own_pieces (here page valid id node seen).label else []) ++ flat_map (λ s. s.pieces) (shares_in (here page valid id node seen)))
      by_test true = sym (map-append part_of (own_pieces (here page valid id node seen).label) (flat_map (λ s. s.pieces) (shares_in (here page valid id node seen))))
      by_test false = refl

  -- what lies on its lines
  pub lines-seen : (b : Bool) → b ≡ is_replaced_kind node.kind → (if b then of_node content page id else flat_map (painted_piece flat) (of_node line_pieces page id)) ≡ of_node lines page id
  lines-seen b is =
      ap (λ xs. if b then xs else flat_map (painted_piece flat) (of_node line_pieces page id)) (of_node-seen page valid id node seen content)
      ∙ ap (λ xs. if b then content (here page valid id node seen) else flat_map (painted_piece flat) xs) (of_node-seen page valid id node seen line_pieces)
      ∙ ap (λ c. if c then content (here page valid id node seen) else flat_map (painted_piece flat) (line_pieces (here page valid id node seen))) (kind-seen b is)
      ∙ sym (of_node-seen page valid id node seen lines)

-- the members of a node in tree order
abbrev pub tree_members : Placed → List Placed
tree_members p = flat_map (λ s. s.members) (shares_in p)

-- by the place of an id
module _ (page : Contents) (id : ℕ) where
  pub line_pieces-sorted : sorted_by is_on_lower_line (of_node pieces page id) ≡ of_node line_pieces page id
  line_pieces-sorted = by_place (placed_of page id)
    where
      by_place : (o : Option Placed) → sorted_by is_on_lower_line (option_map_or pieces o []) ≡ option_map_or line_pieces o []
      by_place None = refl
      by_place (Some p) = refl

  pub members-gathered_on : gathered members_of page id ≡ map member_of (of_node tree_members page id)
  members-gathered_on = by_place (placed_of page id)
    where
      by_place : (o : Option Placed) → option_map_or (gathered_in members_of) o [] ≡ map member_of (option_map_or tree_members o [])
      by_place None = refl
      by_place (Some p) = sym (members-gathered p)

  pub members-sorted : sorted_by is_on_lower_level (of_node tree_members page id) ≡ of_node context_members page id
  members-sorted = by_place (placed_of page id)
    where
      by_place : (o : Option Placed) → sorted_by is_on_lower_level (option_map_or tree_members o []) ≡ option_map_or context_members o []
      by_place None = refl
      by_place (Some p) = refl

  pub flat-on : of_node flat page id ≡ of_node head page id ++ of_node body page id
  flat-on = by_place (placed_of page id)
    where
      by_place : (o : Option Placed) → option_map_or flat o [] ≡ option_map_or head o [] ++ option_map_or body o []
      by_place None = refl
      by_place (Some p) = flat-is p

  pub body-on : of_node body page id ≡ flat_map own (of_node blocks page id) ++ (flat_map flat (of_node floats page id) ++ (of_node lines page id ++ flat_map lines (of_node blocks page id)))
  body-on = by_place (placed_of page id)
    where
      by_place : (o : Option Placed) → option_map_or body o [] ≡ flat_map own (option_map_or blocks o []) ++ (flat_map flat (option_map_or floats o []) ++ (option_map_or lines o [] ++ flat_map lines (option_map_or blocks o [])))
      by_place None = refl
      by_place (Some p) = refl

  -- what is made of each entry of its list
  pub list-on : {E : Type 0} (h : ContextEntry → E) → map h (of_node entries page id) ≡ map h (map OneItem (of_node head page id)) ++ (flat_map (λ m. map h (listed_member m)) (filter (on_side side.Below) (of_node context_members page id)) ++ (map h (map OneItem (of_node body page id))
      ++ (flat_map (λ m. map h (listed_member m)) (filter (on_side side.Zero) (of_node context_members page id)) ++ flat_map (λ m. map h (listed_member m)) (filter (on_side side.Above) (of_node context_members page id)))))
  list-on {E} h = by_place (placed_of page id)
    where
      on : Side → List Placed → List E
      on s ms = flat_map (λ m. map h (listed_member m)) (filter (on_side s) ms)

      listed : Side → List Placed → List ContextEntry
      listed s ms = flat_map listed_member (filter (on_side s) ms)

      each : (s : Side) (ms : List Placed) → map h (listed s ms) ≡ on s ms
      each s ms = map-flat_map h listed_member (filter (on_side s) ms)

      by_place : (o : Option Placed) → map h (option_map_or entries o []) ≡ map h (map OneItem (option_map_or head o [])) ++ (on side.Below (option_map_or context_members o []) ++ (map h (map OneItem (option_map_or body o []))
          ++ (on side.Zero (option_map_or context_members o []) ++ on side.Above (option_map_or context_members o []))))
      by_place None = refl
      by_place (Some p) =
          let ms = context_members p in
          map-append h (map OneItem (head p)) (listed side.Below ms ++ (map OneItem (body p) ++ (listed side.Zero ms ++ listed side.Above ms)))
          ∙ ap (λ xs. map h (map OneItem (head p)) ++ xs) (
          map-append h (listed side.Below ms) (map OneItem (body p) ++ (listed side.Zero ms ++ listed side.Above ms))
          ∙ ap (λ xs. xs ++ map h (map OneItem (body p) ++ (listed side.Zero ms ++ listed side.Above ms))) (each side.Below ms)
          ∙ ap (λ xs. on side.Below ms ++ xs) (
          map-append h (map OneItem (body p)) (listed side.Zero ms ++ listed side.Above ms)
          ∙ ap (λ xs. map h (map OneItem (body p)) ++ xs) (
          map-append h (listed side.Zero ms) (listed side.Above ms)
          ∙ ap (λ xs. xs ++ map h (listed side.Above ms)) (each side.Zero ms)
          ∙ ap (λ xs. on side.Zero ms ++ xs) (each side.Above ms))))
