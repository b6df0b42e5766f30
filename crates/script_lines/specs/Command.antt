-- What a line of a script asks for, as a function of its JSON reading (RFC 8259, as `serde_json` reads it). Lengths are in
-- units of 1/64 px.
use Rattle.std.specs.Prelude.{ℕ, ◌^◌, ◌&&◌, nat_lt, if◌then◌else◌, ℤ, pos, negsuc, ◌+ℤ◌, int_le, unsigned_abs, Bool, List, [], ◌∷◌, length, codes, Option, Some, None, option_map, Result, Err}
use Rattle.std.specs.Option.{ok_or}
use Rattle.std.specs.Str.{bytes_eq, is_utf8}
use Rattle.serde_json.specs.Data.{Data, Items, no_items, item}
use Rattle.serde_json.specs.Find.{get, at, as_str, as_array}
use Rattle.serde_json.specs.Read.{read}
use Rattle.fractions.specs.declared.rect.Spot.{Spot}
use Rattle.computed_style.specs.declared.style.Style.{Style}
use Rattle.box_tree.specs.declared.kind.Kind.{Kind}
use Rattle.box_tree.specs.declared.kind.Kind.TheVariants as kind
use Rattle.box_tree.specs.declared.piece.Piece.{Piece}
use Rattle.box_tree.specs.declared.edit.Edit.TheVariants.{Add, Remove, Move, Place, Restyle, Reshape, Scroll, ScrollView, Resize}
use Rattle.box_tree.specs.Edited.{IsInRange}
use Rattle.box_tree.specs.Contents.{IsWithin}
use Rattle.script_lines.specs.Numbers.{◌>>=◌, number_within, coordinate, side, number_to, is_array_of, is_object_of}
use Rattle.script_lines.specs.Style.{style_of}
use Rattle.script_lines.specs.Forms.{form_of}
use Rattle.script_lines.specs.declared.command.Command.{Command}
use Rattle.script_lines.specs.declared.command.Command.TheVariants.{Edit, Hit, Top, Point, Refresh}
use Rattle.script_lines.specs.declared.command.LineFault.{LineFault}
use Rattle.script_lines.specs.declared.command.LineFault.TheVariants as fault
use Rattle.script_lines.specs.declared.rows.Op.{Op}
use Rattle.script_lines.specs.declared.rows.Op.TheVariants as op

-- an id, which is a whole number from 1 to 4,294,967,295
abbrev pub id_of : Data → Option ℕ
id_of d = option_map unsigned_abs (number_within (pos 1) (pos 4294967295) d)

-- a whole number from 1 to 2^20
abbrev pub viewport_side : Data → Option ℤ
viewport_side = number_within (pos 1) (pos 1048576)

abbrev pub spot_numbers : ℤ → ℤ → Data → Option Spot
spot_numbers low high d = do
  x ← at 0 d >>= number_within low high
  y ← at 1 d >>= number_within low high
  Some (record { x = x; y = y })

-- two numbers within two bounds, which are written `[x,y]`
unfoldable pub spot_within : ℤ → ℤ → Data → Option Spot
spot_within low high d = if is_array_of 2 d then spot_numbers low high d else None

-- two coordinates
abbrev pub anchor_of : Data → Option Spot
anchor_of = spot_within (negsuc 67108863) (pos 67108864)

-- a greatest scroll, 0 to 2^26 across and down
abbrev pub max_of : Data → Option Spot
max_of = spot_within (pos 0) (pos 67108864)

-- a box whose right and bottom edges are at most 2^26
abbrev pub box_at : ℕ → ℤ → ℤ → ℤ → ℤ → Option Piece
box_at line l t w h =
    if int_le (l +ℤ w) (pos 67108864) && int_le (t +ℤ h) (pos 67108864)
    then Some (record { line = line; l = l; t = t; w = w; h = h })
    else None

-- the five numbers of a box
abbrev pub box_numbers : Data → Option Piece
box_numbers d = do
  line ← at 0 d >>= number_to 65535
  left ← at 1 d >>= coordinate
  top ← at 2 d >>= coordinate
  width ← at 3 d >>= side
  height ← at 4 d >>= side
  box_at line left top width height

-- a box, which is written `[line,l,t,w,h]`
unfoldable pub box_of : Data → Option Piece
box_of d = if is_array_of 5 d then box_numbers d else None

-- each item as a box
abbrev pub each_box : Items → Option (List Piece)
each_box no_items = Some []
each_box (item d ds) = do
  box ← box_of d
  boxes ← each_box ds
  Some (box ∷ boxes)

abbrev pub boxes_of : Data → Option (List Piece)
boxes_of d = as_array d >>= each_box

abbrev pub kind_named : List ℕ → Option Kind
kind_named name =
    if bytes_eq name (codes "block") then Some kind.Block
    else if bytes_eq name (codes "inline") then Some kind.Inline
    else if bytes_eq name (codes "inline-block") then Some kind.InlineBlock
    else if bytes_eq name (codes "image") then Some kind.Image
    else if bytes_eq name (codes "text") then Some kind.Text
    else if bytes_eq name (codes "map") then Some kind.Map
    else if bytes_eq name (codes "area") then Some kind.Area
    else if bytes_eq name (codes "svg") then Some kind.Svg
    else if bytes_eq name (codes "group") then Some kind.Group
    else if bytes_eq name (codes "shape") then Some kind.Shape
    else if bytes_eq name (codes "inner") then Some kind.Inner
    else None

-- the parent, the place and the kind of a new node
unfoldable pub new_place : Data → Option (ℕ × ℕ × Kind)
new_place d = do
  parent ← get (codes "parent") d >>= number_to 4294967295
  place ← get (codes "at") d >>= number_to 4294967295
  kind ← get (codes "kind") d >>= as_str >>= kind_named
  Some (parent, place, kind)

-- the parent, the place, the kind and the style of a new node
unfoldable pub new_node : Data → Option (ℕ × ℕ × Kind × Style)
new_node d = do
  node ← new_place d
  style ← get (codes "style") d >>= style_of
  Some (node.0, node.1, node.2, style)

abbrev pub add_fields : Data → Option Command
add_fields d = do
  node ← new_node d
  boxes ← get (codes "boxes") d >>= boxes_of
  Some (Edit (Add node.0 node.1 node.2 boxes node.3))

-- the row of `add`, its keys in any order and no other key
unfoldable pub add_of : Data → Option Command
add_of d = if is_object_of 6 d then add_fields d else None

abbrev pub remove_fields : Data → Option Command
remove_fields d = do
  id ← get (codes "id") d >>= id_of
  Some (Edit (Remove id))

-- the row of `remove`, its keys in any order and no other key
unfoldable pub remove_of : Data → Option Command
remove_of d = if is_object_of 2 d then remove_fields d else None

abbrev pub move_fields : Data → Option Command
move_fields d = do
  id ← get (codes "id") d >>= id_of
  parent ← get (codes "parent") d >>= number_to 4294967295
  place ← get (codes "at") d >>= number_to 4294967295
  Some (Edit (Move id parent place))

-- the row of `move`, its keys in any order and no other key
unfoldable pub move_of : Data → Option Command
move_of d = if is_object_of 4 d then move_fields d else None

-- the id, the anchor and the greatest scroll of a node that is placed
unfoldable pub layout : Data → Option (ℕ × Spot × Spot)
layout d = do
  id ← get (codes "id") d >>= id_of
  anchor ← get (codes "anchor") d >>= anchor_of
  max ← get (codes "max") d >>= max_of
  Some (id, anchor, max)

abbrev pub place_fields : Data → Option Command
place_fields d = do
  node ← layout d
  boxes ← get (codes "boxes") d >>= boxes_of
  Some (Edit (Place node.0 node.1 boxes node.2))

-- the row of `place`, its keys in any order and no other key
unfoldable pub place_of : Data → Option Command
place_of d = if is_object_of 5 d then place_fields d else None

abbrev pub restyle_fields : Data → Option Command
restyle_fields d = do
  id ← get (codes "id") d >>= id_of
  style ← get (codes "style") d >>= style_of
  Some (Edit (Restyle id style))

-- the row of `style`, its keys in any order and no other key
unfoldable pub restyle_of : Data → Option Command
restyle_of d = if is_object_of 3 d then restyle_fields d else None

abbrev pub reshape_fields : Data → Option Command
reshape_fields d = do
  id ← get (codes "id") d >>= id_of
  form ← get (codes "shape") d >>= form_of
  Some (Edit (Reshape id form))

-- the row of `shape`, its keys in any order and no other key
unfoldable pub reshape_of : Data → Option Command
reshape_of d = if is_object_of 3 d then reshape_fields d else None

abbrev pub resize_fields : Data → Option Command
resize_fields d = do
  w ← get (codes "w") d >>= viewport_side
  h ← get (codes "h") d >>= viewport_side
  max ← get (codes "max") d >>= max_of
  Some (Edit (Resize w h max))

-- the row of `resize`, its keys in any order and no other key
unfoldable pub resize_of : Data → Option Command
resize_of d = if is_object_of 4 d then resize_fields d else None

-- a point
unfoldable pub point_fields : Data → Option (ℤ × ℤ)
point_fields d = do
  x ← get (codes "x") d >>= coordinate
  y ← get (codes "y") d >>= coordinate
  Some (x, y)

abbrev pub scroll_fields : Data → Option Command
scroll_fields d = do
  id ← get (codes "id") d >>= id_of
  point ← point_fields d
  Some (Edit (Scroll id point.0 point.1))

-- the row of `scroll`, its keys in any order and no other key
unfoldable pub scroll_of : Data → Option Command
scroll_of d = if is_object_of 4 d then scroll_fields d else None

-- the row of an op that names a point alone, its keys in any order and no other key
unfoldable pub point_of : Data → Option (ℤ × ℤ)
point_of d = if is_object_of 3 d then point_fields d else None

abbrev pub scroll_view_of : Data → Option Command
scroll_view_of d = option_map (λ point. Edit (ScrollView point.0 point.1)) (point_of d)

abbrev pub hit_of : Data → Option Command
hit_of d = option_map (λ point. Hit point.0 point.1) (point_of d)

abbrev pub top_of : Data → Option Command
top_of d = option_map (λ point. Top point.0 point.1) (point_of d)

abbrev pub pointer_of : Data → Option Command
pointer_of d = option_map (λ point. Point point.0 point.1) (point_of d)

-- the row of `refresh`, which has no other key
abbrev pub refresh_of : Data → Option Command
refresh_of d = if is_object_of 1 d then Some Refresh else None

abbrev pub op_named : List ℕ → Option Op
op_named name =
    if bytes_eq name (codes "add") then Some op.Add
    else if bytes_eq name (codes "remove") then Some op.Remove
    else if bytes_eq name (codes "move") then Some op.Move
    else if bytes_eq name (codes "place") then Some op.Place
    else if bytes_eq name (codes "style") then Some op.Style
    else if bytes_eq name (codes "shape") then Some op.Shape
    else if bytes_eq name (codes "scroll") then Some op.Scroll
    else if bytes_eq name (codes "scrollview") then Some op.ScrollView
    else if bytes_eq name (codes "resize") then Some op.Resize
    else if bytes_eq name (codes "hit") then Some op.Hit
    else if bytes_eq name (codes "top") then Some op.Top
    else if bytes_eq name (codes "point") then Some op.Point
    else if bytes_eq name (codes "refresh") then Some op.Refresh
    else None

-- the command by the row of an op
abbrev pub row_of : Op → Data → Option Command
row_of op.Add d = add_of d
row_of op.Remove d = remove_of d
row_of op.Move d = move_of d
row_of op.Place d = place_of d
row_of op.Style d = restyle_of d
row_of op.Shape d = reshape_of d
row_of op.Scroll d = scroll_of d
row_of op.ScrollView d = scroll_view_of d
row_of op.Resize d = resize_of d
row_of op.Hit d = hit_of d
row_of op.Top d = top_of d
row_of op.Point d = pointer_of d
row_of op.Refresh d = refresh_of d

-- the command that an object spells, by its key `op`
unfoldable pub command_reading : Data → Option Command
command_reading d = do
  row ← get (codes "op") d >>= as_str >>= op_named
  row_of row d

-- the JSON reading of a line: there is none for bytes that aren't UTF-8, and none for a nesting above 127
unfoldable pub json_reading : List ℕ → Option Data
json_reading line = if is_utf8 line then read line else None

-- a line of more than 1,048,576 bytes
abbrev pub is_long : List ℕ → Bool
is_long line = nat_lt (2 ^ 20) (length line)

-- the command of a reading, where there is one
abbrev pub command_or_fault : Option Data → Result Command LineFault
command_or_fault None = Err fault.Syntax
command_or_fault (Some d) = ok_or (command_reading d) fault.Command

-- what a line means: a command, or the first fault that it has
unfoldable pub meaning : List ℕ → Result Command LineFault
meaning line = if is_long line then Err fault.Long else command_or_fault (json_reading line)

-- the numbers of a command are within their limits
abbrev pub IsAskable : Command → Type 0
IsAskable (Edit edit) = IsInRange edit
IsAskable (Hit x y) = IsWithin 26 x × IsWithin 26 y
IsAskable (Top x y) = IsWithin 26 x × IsWithin 26 y
IsAskable (Point x y) = IsWithin 26 x × IsWithin 26 y
IsAskable Refresh = Unit {0}
