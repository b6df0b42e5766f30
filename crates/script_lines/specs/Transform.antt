-- The functions of a transform that a JSON array spells, and their origin (own format; the functions are those of CSS
-- Transforms 1, "The Transform Functions", with fractions in the place of decimals). Lengths are in units of 1/64 px.
use Rattle.std.specs.Prelude.{ℕ, ℤ, pos, negsuc, if◌then◌else◌, nat_le, List, [], ◌∷◌, codes, Option, Some, None, option_map}
use Rattle.std.specs.Str.{bytes_eq}
use Rattle.serde_json.specs.Data.{Data, Items, no_items, item}
use Rattle.serde_json.specs.Events.{items_len}
use Rattle.serde_json.specs.Find.{at, as_str, as_array}
use Rattle.computed_style.specs.declared.function.Function.{Function}
use Rattle.computed_style.specs.declared.function.Function.TheVariants.{Matrix, Translate, Scale, Quarter}
use Rattle.script_lines.specs.Numbers.{◌>>=◌, number_within, number_to, coordinate, is_array_of}

-- a number from -2^30 to 2^30
abbrev pub factor_of : Data → Option ℤ
factor_of = number_within (negsuc 1073741823) (pos 1073741824)

-- a number from -2^40 to 2^40
abbrev pub shift_of : Data → Option ℤ
shift_of = number_within (negsuc 1099511627775) (pos 1099511627776)

-- a number from 1 to 2^30
abbrev pub denominator_of : Data → Option ℤ
denominator_of = number_within (pos 1) (pos 1073741824)

unfoldable pub linear_part : Data → Option (ℤ × ℤ × ℤ × ℤ)
linear_part v = do
  a ← at 1 v >>= factor_of
  b ← at 2 v >>= factor_of
  c ← at 3 v >>= factor_of
  d ← at 4 v >>= factor_of
  Some (a, b, c, d)

unfoldable pub translation : Data → Option (ℤ × ℤ × ℤ)
translation v = do
  e ← at 5 v >>= shift_of
  f ← at 6 v >>= shift_of
  q ← at 7 v >>= denominator_of
  Some (e, f, q)

abbrev pub matrix_numbers : Data → Option Function
matrix_numbers v = do
  linear ← linear_part v
  moved ← translation v
  Some (Matrix linear.0 linear.1 linear.2 linear.3 moved.0 moved.1 moved.2)

-- a matrix, which is written `["matrix",a,b,c,d,e,f,q]`
unfoldable pub matrix_of : Data → Option Function
matrix_of v = if is_array_of 8 v then matrix_numbers v else None

abbrev pub translate_numbers : Data → Option Function
translate_numbers v = do
  x ← at 1 v >>= coordinate
  y ← at 2 v >>= coordinate
  Some (Translate x y)

-- a shift, which is written `["translate",x,y]`
unfoldable pub translate_of : Data → Option Function
translate_of v = if is_array_of 3 v then translate_numbers v else None

abbrev pub scale_numbers : Data → Option Function
scale_numbers v = do
  x ← at 1 v >>= factor_of
  y ← at 2 v >>= factor_of
  q ← at 3 v >>= denominator_of
  Some (Scale x y q)

-- a scale, which is written `["scale",x,y,q]`
unfoldable pub scale_of : Data → Option Function
scale_of v = if is_array_of 4 v then scale_numbers v else None

abbrev pub quarter_turns : Data → Option Function
quarter_turns v = option_map Quarter (at 1 v >>= number_to 3)

-- quarter turns, 0 to 3 of them, which are written `["quarter",k]`
unfoldable pub quarter_of : Data → Option Function
quarter_of v = if is_array_of 2 v then quarter_turns v else None

-- the function by the row of its name
abbrev pub function_named : List ℕ → Data → Option Function
function_named name v =
    if bytes_eq name (codes "matrix") then matrix_of v
    else if bytes_eq name (codes "translate") then translate_of v
    else if bytes_eq name (codes "scale") then scale_of v
    else if bytes_eq name (codes "quarter") then quarter_of v
    else None

-- a function, whose name stands first
unfoldable pub function_of : Data → Option Function
function_of v = do
  name ← at 0 v >>= as_str
  function_named name v

-- each item as a function
abbrev pub each_function : Items → Option (List Function)
each_function no_items = Some []
each_function (item v more) = do
  function ← function_of v
  functions ← each_function more
  Some (function ∷ functions)

-- at most 16 functions
abbrev pub functions_of : Items → Option (List Function)
functions_of items = if nat_le (items_len items) 16 then each_function items else None

abbrev pub transform_of : Data → Option (List Function)
transform_of v = as_array v >>= functions_of

abbrev pub origin_numbers : Data → Option (ℤ × ℤ)
origin_numbers v = do
  x ← at 0 v >>= coordinate
  y ← at 1 v >>= coordinate
  Some (x, y)

-- the origin of a transform, which is written `[x,y]`
unfoldable pub origin_of : Data → Option (ℤ × ℤ)
origin_of v = if is_array_of 2 v then origin_numbers v else None
