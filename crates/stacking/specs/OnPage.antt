-- The walks of the nodes of a page, by their ids.
use Rattle.std.specs.Prelude.{ℕ, List, [], map, Bool, not, ◌&&◌, ℤ, pos, int_lt}
use Rattle.std.specs.List.{filter, flat_map}
use Rattle.std.specs.Option.{option_map_or}
use Rattle.box_tree.specs.declared.item.Item.{Item}
use Rattle.box_tree.specs.Forest.{Placed}
use Rattle.box_tree.specs.Contents.{Contents, placed_of}
use Rattle.box_tree.specs.Used.{is_real_context}
use Rattle.stacking.specs.declared.pieces.LinePart.{LinePart}
use Rattle.stacking.specs.declared.pieces.Painted.{Painted}
use Rattle.stacking.specs.declared.pieces.Painted.TheVariants as painted
use Rattle.stacking.specs.declared.members.Member.{Member}
use Rattle.stacking.specs.declared.members.Side.{Side}
use Rattle.stacking.specs.declared.members.Side.TheVariants as side
use Rattle.stacking.specs.Sorting.{sorted_by}
use Rattle.stacking.specs.Painting.{Paint, OneBox, Whole, LinePiece, Share, at, is_block, is_float, level_of, shares_in, pieces, is_on_lower_line}

-- what a walk gives for the node of an id
abbrev pub of_node : {A : Type 0} → (Placed → List A) → Contents → ℕ → List A
of_node walk page id = option_map_or walk (placed_of page id) []

abbrev pub ids_of : List Placed → List ℕ
ids_of ps = map (λ p. p.label.id) ps

-- what is gathered from the shares of the children of a node
abbrev pub gathered_in : {A : Type 0} → (Share → List A) → Placed → List A
gathered_in of_share p = flat_map of_share (shares_in p)

abbrev pub gathered : {A : Type 0} → (Share → List A) → Contents → ℕ → List A
gathered of_share page id = of_node (gathered_in of_share) page id

-- the blocks and the floats that are met, by their ids
abbrev pub block_ids : Share → List ℕ
block_ids s = ids_of (filter (at is_block) s.reach)

abbrev pub float_ids : Share → List ℕ
float_ids s = ids_of (filter (at is_float) s.reach)

-- a piece of a line with an id for a node
abbrev pub painted_as : Paint → Painted
painted_as (OneBox item) = painted.OneBox item
painted_as (Whole p) = painted.Whole p.label.id

abbrev pub part_of : LinePiece → LinePart
part_of piece = record { line = piece.line; what = painted_as piece.paint }

abbrev pub line_parts : Share → List LinePart
line_parts s = map part_of s.pieces

-- a member by its id, with its level
abbrev pub member_of : Placed → Member
member_of m = record { level = level_of m; node = m.label.id; is_context = at is_real_context m }

abbrev pub members_of : Share → List Member
members_of s = map member_of s.members

abbrev pub outlines_of : Share → List Item
outlines_of s = s.outlines

-- the pieces of the lines of a node, line by line
abbrev pub line_pieces : Placed → List LinePiece
line_pieces p = sorted_by is_on_lower_line (pieces p)

-- whether a level is on one side of level 0
abbrev pub is_on_side : Side → ℤ → Bool
is_on_side side.Below level = int_lt level (pos 0)
is_on_side side.Zero level = not (int_lt level (pos 0)) && not (int_lt (pos 0) level)
is_on_side side.Above level = int_lt (pos 0) level

abbrev pub on_side : Side → Placed → Bool
on_side side m = is_on_side side (level_of m)
