-- The painting order (CSS 2.2, Appendix E): what of a page is painted above what. All lists are from bottom to top.
use Rattle.std.specs.Prelude.{ℕ, zero, suc, ◌+◌, List, [], ◌∷◌, ◌++◌, map, Option, Bool, true, false, not, ◌&&◌, ◌||◌, if◌then◌else◌, ℤ, pos, int_lt, nat_lt}
use Rattle.std.specs.List.{filter, flat_map}
use Rattle.box_tree.specs.declared.kind.Kind.{Kind}
use Rattle.box_tree.specs.declared.kind.Kind.TheVariants.{Inline, Image, Svg}
use Rattle.box_tree.specs.declared.piece.Piece.{Piece}
use Rattle.box_tree.specs.declared.item.Item.{Item}
use Rattle.box_tree.specs.declared.item.Part.TheVariants.{Box}
use Rattle.box_tree.specs.Forest.{Label, Forest, End, Grow, height_of, Placed}
pub use Rattle.box_tree.specs.Items.{box_items, content_item, drawn_as, drawn}
use Rattle.box_tree.specs.Suits.{is_text, is_svg_content}
use Rattle.box_tree.specs.Containing.{parent_of}
use Rattle.box_tree.specs.Used.{is_floating, is_block_level, is_block_container, is_atomic, is_positioned, is_real_context, stack_level, is_in_flow}
use Rattle.stacking.specs.Sorting.{sorted_by}

-- What a node is to the walk. Each word is a function of the node's parent (none for the root) and of the node.

abbrev pub is_inline_kind : Kind → Bool
is_inline_kind Inline = true
is_inline_kind kind = false

-- an image or the outermost element of SVG content, whose content is painted as one (CSS 2.2, 3.1)
abbrev pub is_replaced_kind : Kind → Bool
is_replaced_kind Image = true
is_replaced_kind Svg = true
is_replaced_kind kind = false

-- the walk of a node goes on below one that is in flow and is a block level block container or an inline
unfoldable pub is_entered : Option Label → Label → Bool
is_entered parent n = is_in_flow parent n && ((is_block_level parent n && is_block_container parent n) || is_inline_kind n.kind)

-- a block in flow
unfoldable pub is_block : Option Label → Label → Bool
is_block parent n = is_in_flow parent n && is_block_level parent n

-- a member of the stacking context around it: positioned, or a stacking context itself
unfoldable pub is_member : Option Label → Label → Bool
is_member parent n = is_positioned parent n || is_real_context parent n

-- a float that is no member
unfoldable pub is_float : Option Label → Label → Bool
is_float parent n = is_floating parent n && not (is_member parent n)

-- an inline whose boxes lie on the lines around it
unfoldable pub is_inline : Option Label → Label → Bool
is_inline parent n = is_inline_kind n.kind && not (is_block_level parent n)

-- an atomic node in flow
unfoldable pub is_atom : Option Label → Label → Bool
is_atom parent n = is_in_flow parent n && is_atomic parent n

-- a node whose own boxes are painted below all that is in it
unfoldable pub has_head : Option Label → Label → Bool
has_head parent n = is_block_level parent n || is_atomic parent n

-- such a word of a node in its place
abbrev pub at : {A : Type 0} → (Option Label → Label → A) → Placed → A
at word p = word (parent_of p.above) p.label

-- The items of a node.

-- the boxes of a node in order
abbrev pub own : Placed → List Item
own p = box_items p.label.id 0 p.label.boxes

-- the boxes of a node that is block level or atomic; those of another lie on lines
abbrev pub head : Placed → List Item
head p = if at has_head p then own p else []

-- What a node contributes to the walks of the nodes above it.

-- what a line paints: a box, or an atomic node as a whole
pub data Paint : Type 0 where
  OneBox : Item → Paint
  Whole : Placed → Paint

-- a piece of a line, with the number of the line
pub record LinePiece : Type 0 where
  pub line : ℕ
  pub paint : Paint

-- what one child contributes
pub record Share : Type 0 where
  -- the nodes that a walk meets in it: the child itself, and those that are reached through it
  pub reach : List Placed
  -- the pieces of lines that it gives
  pub pieces : List LinePiece
  -- the members of the stacking context around it
  pub members : List Placed
  -- the outlines that it gives to the SVG content around it
  pub outlines : List Item

-- a piece for each of these boxes, of which the first has this number
abbrev pub box_pieces : ℕ → ℕ → List Piece → List LinePiece
box_pieces id place [] = []
box_pieces id place (box ∷ boxes) = record { line = box.line; paint = OneBox (record { node = id; part = Box place }) } ∷ box_pieces id (place + 1) boxes

abbrev pub own_pieces : Label → List LinePiece
own_pieces n = box_pieces n.id 0 n.boxes

-- the line of the first box, 0 without one
abbrev pub first_line : List Piece → ℕ
first_line [] = 0
first_line (box ∷ boxes) = box.line

-- a text gives a piece for each box; an inline in flow gives a piece for each box, and then those in it; an atomic node
-- in flow gives one piece; others give none
abbrev pub pieces_with : List LinePiece → Placed → List LinePiece
pieces_with inner p =
    if is_text p.label.kind then own_pieces p.label
    else if at is_in_flow p && at is_inline p then own_pieces p.label ++ inner
    else if at is_atom p then record { line = first_line p.label.boxes; paint = Whole p } ∷ []
    else []

-- the share of a node, from the shares of its children in painting order
abbrev pub share_of : Placed → List Share → Share
share_of p inner = record {
  reach = p ∷ (if at is_entered p then flat_map (λ s. s.reach) inner else []);
  pieces = pieces_with (flat_map (λ s. s.pieces) inner) p;
  members = (if at is_member p then p ∷ [] else []) ++ (if at is_real_context p then [] else flat_map (λ s. s.members) inner);
  outlines = if is_svg_content p.label.kind then drawn p.label ++ flat_map (λ s. s.outlines) inner else [];
}

-- the shares of trees that stand below these ancestors, in painting order, which is the tree's
abbrev pub shares_of : List Label → Forest → List Share
shares_of above End = []
shares_of above (Grow n below others) =
    share_of (record { label = n; above = above; below = below }) (shares_of (n ∷ above) below) ∷ shares_of above others

-- the shares of the children of a node
abbrev pub shares_in : Placed → List Share
shares_in p = shares_of (p.label ∷ p.above) p.below

-- the outlines of the shapes of SVG content below a node, in tree order (SVG 2, 3.4)
abbrev pub outlines : Placed → List Item
outlines p = flat_map (λ s. s.outlines) (shares_in p)

-- the content of a node of a kind: of an image with a box its picture; of an svg the outlines of the shapes in it
abbrev pub content_as : Kind → Placed → List Item
content_as Image p = content_item p.label.id p.label.boxes
content_as Svg p = outlines p
content_as kind p = []

abbrev pub content : Placed → List Item
content p = content_as p.label.kind p

-- What a walk of a node meets.

-- the nodes reached from it: the children in tree order, depth first, and no others below those that aren't entered;
-- none for a replaced node
abbrev pub reach : Placed → List Placed
reach p = if is_replaced_kind p.label.kind then [] else flat_map (λ s. s.reach) (shares_in p)

abbrev pub blocks : Placed → List Placed
blocks p = filter (at is_block) (reach p)

abbrev pub floats : Placed → List Placed
floats p = filter (at is_float) (reach p)

-- the pieces of its lines in tree order, its own boxes first where they lie on lines
abbrev pub pieces : Placed → List LinePiece
pieces p = (if at is_inline p then own_pieces p.label else []) ++ flat_map (λ s. s.pieces) (shares_in p)

-- a piece on a line above that of another
abbrev pub is_on_lower_line : LinePiece → LinePiece → Bool
is_on_lower_line a b = nat_lt a.line b.line

-- the level of a member: 0 where it is no stacking context itself
abbrev pub level_of : Placed → ℤ
level_of m = if at is_real_context m then at stack_level m else pos 0

abbrev pub is_on_lower_level : Placed → Placed → Bool
is_on_lower_level a b = int_lt (level_of a) (level_of b)

-- the members of a stacking context: the positioned nodes and stacking contexts below it for which it is the nearest
-- stacking context above, level by level, and within a level in tree order
abbrev pub context_members : Placed → List Placed
context_members p = sorted_by is_on_lower_level (flat_map (λ s. s.members) (shares_in p))

-- The walks. Where one goes into other nodes, what those give is an argument.

abbrev pub painted_piece : (Placed → List Item) → LinePiece → List Item
painted_piece whole piece = painted piece.paint
  where
    painted : Paint → List Item
    painted (OneBox item) = item ∷ []
    painted (Whole p) = whole p

-- what lies on the lines of a node: the content of a replaced one, else its pieces line by line
abbrev pub lines_with : (Placed → List Item) → Placed → List Item
lines_with whole p =
    if is_replaced_kind p.label.kind then content p
    else flat_map (painted_piece whole) (sorted_by is_on_lower_line (pieces p))

-- the boxes of the blocks in it; the floats; its lines, and those of the blocks
abbrev pub body_with : (Placed → List Item) → Placed → List Item
body_with whole p =
    flat_map own (blocks p)
    ++ (flat_map whole (floats p)
    ++ (lines_with whole p
    ++ flat_map (lines_with whole) (blocks p)))

-- a node painted as one, without its members, through so many levels of nodes
abbrev pub flat_to : ℕ → Placed → List Item
flat_to zero p = []
flat_to (suc levels) p = head p ++ body_with (flat_to levels) p

abbrev pub flat : Placed → List Item
flat p = flat_to (suc (height_of p.below)) p

abbrev pub lines : Placed → List Item
lines p = lines_with flat p

abbrev pub body : Placed → List Item
body p = body_with flat p

-- the list of a stacking context, from what becomes of items and what a member gives: the head; the members of negative
-- levels; the body; the members of level 0; those of positive levels
abbrev pub context_list : {E : Type 0} → (List Item → List E) → (Placed → List E) → Placed → List E
context_list given member p =
    given (head p)
    ++ (flat_map member (filter (λ m. int_lt (level_of m) (pos 0)) (context_members p))
    ++ (given (body p)
    ++ (flat_map member (filter (λ m. not (int_lt (level_of m) (pos 0)) && not (int_lt (pos 0) (level_of m))) (context_members p))
    ++ flat_map member (filter (λ m. int_lt (pos 0) (level_of m)) (context_members p)))))

-- a member that is a stacking context gives its layer, another is painted flat
abbrev pub painted_member : (Placed → List Item) → Placed → List Item
painted_member layer m = if at is_real_context m then layer m else flat m

abbrev pub layer_to : ℕ → Placed → List Item
layer_to zero p = []
layer_to (suc levels) p = context_list (λ items. items) (painted_member (layer_to levels)) p

-- the layer of a stacking context: all items below it, through all levels of nodes
abbrev pub layer : Placed → List Item
layer p = layer_to (suc (height_of p.below)) p

-- what stands in the list of one stacking context: an item, or another stacking context as a whole
pub data ContextEntry : Type 0 where
  OneItem : Item → ContextEntry
  SubContext : ℕ → ContextEntry

-- a member that is a stacking context is one entry, another is painted flat
abbrev pub listed_member : Placed → List ContextEntry
listed_member m = if at is_real_context m then SubContext m.label.id ∷ [] else map OneItem (flat m)

-- the layer of a stacking context with each member that is one left as an entry
abbrev pub entries : Placed → List ContextEntry
entries p = context_list (map OneItem) listed_member p
