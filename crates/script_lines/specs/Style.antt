-- The declared style that a JSON object spells: each of its keys by the row of its name, over the style in which nothing is
-- declared (own format; the names are those of CSS). Lengths are in units of 1/64 px.
use Rattle.std.specs.Prelude.{ℕ, ◌+◌, ℤ, pos, negsuc, if◌then◌else◌, Bool, true, false, List, [], ◌∷◌, codes, Option, Some, None, option_map}
use Rattle.std.specs.Str.{bytes_eq}
use Rattle.serde_json.specs.Data.{Data, Members, no_members, member}
use Rattle.serde_json.specs.Find.{at, as_str, as_object}
use Rattle.computed_style.specs.Defaults.{empty_style}
use Rattle.computed_style.specs.declared.style.Overflow.{Overflow}
use Rattle.computed_style.specs.declared.style.Overflow.TheVariants.{Visible, Auto, Clip}
use Rattle.computed_style.specs.declared.style.Position.{Position}
use Rattle.computed_style.specs.declared.style.Position.TheVariants.{Static, Relative, Absolute, Fixed}
use Rattle.computed_style.specs.declared.style.Style.{Style}
use Rattle.script_lines.specs.Numbers.{◌>>=◌, number_within, number_to, is_array_of}
use Rattle.script_lines.specs.Inherited.{with_inherited_key}
use Rattle.script_lines.specs.Transform.{transform_of, origin_of}

abbrev pub position_named : List ℕ → Option Position
position_named name =
    if bytes_eq name (codes "static") then Some Static
    else if bytes_eq name (codes "relative") then Some Relative
    else if bytes_eq name (codes "absolute") then Some Absolute
    else if bytes_eq name (codes "fixed") then Some Fixed
    else None

-- whether a value of `float` floats; to the left and to the right are alike
abbrev pub floats_named : List ℕ → Option Bool
floats_named name =
    if bytes_eq name (codes "none") then Some false
    else if bytes_eq name (codes "left") then Some true
    else if bytes_eq name (codes "right") then Some true
    else None

-- whether a value of `display` is `block`
abbrev pub block_named : List ℕ → Option Bool
block_named name =
    if bytes_eq name (codes "inline") then Some false
    else if bytes_eq name (codes "block") then Some true
    else None

-- what an overflow does; `hidden` and `scroll` clip alike
abbrev pub overflow_named : List ℕ → Option Overflow
overflow_named name =
    if bytes_eq name (codes "visible") then Some Visible
    else if bytes_eq name (codes "hidden") then Some Clip
    else if bytes_eq name (codes "scroll") then Some Clip
    else if bytes_eq name (codes "auto") then Some Auto
    else None

-- a whole number of 32 bits
abbrev pub z_of : Data → Option ℤ
z_of = number_within (negsuc 2147483647) (pos 2147483647)

-- thousandths, 0 to 1,000
abbrev pub opacity_of : Data → Option ℕ
opacity_of = number_to 1000

-- the width of a border, or the radius of a corner, 0 to 2^20
abbrev pub width_or_radius : Data → Option ℤ
width_or_radius = number_within (pos 0) (pos 1048576)

abbrev pub border_widths : Data → Option (List ℤ)
border_widths d = do
  top ← at 0 d >>= width_or_radius
  right ← at 1 d >>= width_or_radius
  bottom ← at 2 d >>= width_or_radius
  left ← at 3 d >>= width_or_radius
  Some (top ∷ right ∷ bottom ∷ left ∷ [])

-- the widths of the borders, which are written `[top,right,bottom,left]`
unfoldable pub border_of : Data → Option (List ℤ)
border_of d = if is_array_of 4 d then border_widths d else None

-- the radii of a corner across and down, from a place on
unfoldable pub corner_at : ℕ → Data → Option (ℤ × ℤ)
corner_at place d = do
  across ← at place d >>= width_or_radius
  down ← at (place + 1) d >>= width_or_radius
  Some (across, down)

abbrev pub corner_radii : Data → Option (List ℤ)
corner_radii d = do
  top_left ← corner_at 0 d
  top_right ← corner_at 2 d
  bottom_right ← corner_at 4 d
  bottom_left ← corner_at 6 d
  Some (top_left.0 ∷ top_left.1 ∷ top_right.0 ∷ top_right.1 ∷ bottom_right.0 ∷ bottom_right.1 ∷ bottom_left.0 ∷ bottom_left.1 ∷ [])

-- the radii of the corners, which are written as eight numbers: across and down of the top left, the top right, the bottom
-- right and the bottom left one
unfoldable pub radii_of : Data → Option (List ℤ)
radii_of d = if is_array_of 8 d then corner_radii d else None

-- a style with the value of one key more that speaks of the box, by the row of the key, here or among the inherited ones; a
-- name that has no row is none
unfoldable pub with_box_key : List ℕ → Data → Style → Option Style
with_box_key key d s =
    if bytes_eq key (codes "origin") then option_map (λ origin. record s { origin = Some origin }) (origin_of d)
    else if bytes_eq key (codes "overflow") then option_map (λ overflow. record s { overflow = Some overflow }) (as_str d >>= overflow_named)
    else if bytes_eq key (codes "border") then option_map (λ border. record s { border = border }) (border_of d)
    else if bytes_eq key (codes "radii") then option_map (λ radii. record s { radii = radii }) (radii_of d)
    else with_inherited_key key d s

-- a style with the value of one key more that takes no list of functions, by the row of the key, here or further on
unfoldable pub with_plain_key : List ℕ → Data → Style → Option Style
with_plain_key key d s =
    if bytes_eq key (codes "position") then option_map (λ position. record s { position = position }) (as_str d >>= position_named)
    else if bytes_eq key (codes "float") then option_map (λ floats. record s { floats = floats }) (as_str d >>= floats_named)
    else if bytes_eq key (codes "z") then option_map (λ z. record s { z = Some z }) (z_of d)
    else if bytes_eq key (codes "opacity") then option_map (λ opacity. record s { opacity = opacity }) (opacity_of d)
    else if bytes_eq key (codes "display") then option_map (λ block. record s { display_block = block }) (as_str d >>= block_named)
    else with_box_key key d s

-- a style with the value of one key more, by the row of the key
unfoldable pub with_key : List ℕ → Data → Style → Option Style
with_key key d s =
    if bytes_eq key (codes "transform") then option_map (λ functions. record s { transform = functions }) (transform_of d)
    else with_plain_key key d s

-- each key, one after another; none stands in an object twice
abbrev pub each_key : Members → Style → Option Style
each_key no_members s = Some s
each_key (member key d more) s = with_key key d s >>= each_key more

-- the style that an object spells
abbrev pub style_of : Data → Option Style
style_of d = as_object d >>= (λ members. each_key members empty_style)
