-- What an area of an image map covers, as a JSON array spells it (own format; the names are those of HTML, "The area
-- element"). Its numbers are in units of 1/64 px.
use Rattle.std.specs.Prelude.{◌^◌, ℤ, pos, negsuc, nat_le, if◌then◌else◌, List, [], ◌∷◌, Option, Some, None, option_map}
use Rattle.serde_json.specs.Data.{Data, Items, no_items, item}
use Rattle.serde_json.specs.Events.{items_len}
use Rattle.serde_json.specs.Find.{at, as_array}
use Rattle.image_maps.specs.declared.area.AreaKind.{AreaKind}
use Rattle.image_maps.specs.declared.area.AreaKind.TheVariants.{Default}
use Rattle.image_maps.specs.Area.{Area}
use Rattle.script_lines.specs.Numbers.{◌>>=◌, number_within, is_array_of}

-- a number from -2^20 to 2^20
abbrev pub area_number : Data → Option ℤ
area_number = number_within (negsuc 1048575) (pos 1048576)

abbrev pub each_number : Items → Option (List ℤ)
each_number no_items = Some []
each_number (item d more) = do
  number ← area_number d
  numbers ← each_number more
  Some (number ∷ numbers)

-- any number of numbers; more than 1,048,576 are none, and no line is long enough for them
abbrev pub numbers_of : Items → Option (List ℤ)
numbers_of items = if nat_le (items_len items) (2 ^ 20) then each_number items else None

-- an area of a kind, which is written `["rect",[..]]`, `["circle",[..]]` or `["poly",[..]]`
unfoldable pub area_of : AreaKind → Data → Option Area
area_of kind d =
    if is_array_of 2 d then option_map (λ numbers. record { kind = kind; numbers = numbers }) (at 1 d >>= as_array >>= numbers_of)
    else None

-- the area that covers everything, which is written `["default"]`
unfoldable pub default_of : Data → Option Area
default_of d = if is_array_of 1 d then Some (record { kind = Default; numbers = [] }) else None
