-- The viewBox and the viewport that a JSON array spells (own format; the names are those of SVG 2, 8.6 and 8.7). Places and
-- sides are in fine units of 1/4096 px.
use Rattle.std.specs.Prelude.{ℕ, ◌+◌, if◌then◌else◌, List, codes, Option, Some, None, option_map}
use Rattle.std.specs.Str.{bytes_eq}
use Rattle.serde_json.specs.Data.{Data}
use Rattle.serde_json.specs.Find.{at, as_str}
use Rattle.view_boxes.specs.declared.port.Align.{Align}
use Rattle.view_boxes.specs.declared.port.Align.TheVariants.{Stretch, Keep}
use Rattle.view_boxes.specs.declared.port.Side.TheVariants.{Min, Mid, Max}
use Rattle.view_boxes.specs.declared.port.Fit.{Fit}
use Rattle.view_boxes.specs.declared.port.Fit.TheVariants.{Meet, Slice}
use Rattle.view_boxes.specs.declared.port.ViewBox.{ViewBox}
use Rattle.view_boxes.specs.declared.port.Port.{Port}
use Rattle.script_lines.specs.Numbers.{◌>>=◌, is_array_of}
use Rattle.script_lines.specs.Shapes.{place_at, sizes_at}

abbrev pub align_named : List ℕ → Option Align
align_named name =
    if bytes_eq name (codes "none") then Some Stretch
    else if bytes_eq name (codes "xMinYMin") then Some (Keep Min Min)
    else if bytes_eq name (codes "xMidYMin") then Some (Keep Mid Min)
    else if bytes_eq name (codes "xMaxYMin") then Some (Keep Max Min)
    else if bytes_eq name (codes "xMinYMid") then Some (Keep Min Mid)
    else if bytes_eq name (codes "xMidYMid") then Some (Keep Mid Mid)
    else if bytes_eq name (codes "xMaxYMid") then Some (Keep Max Mid)
    else if bytes_eq name (codes "xMinYMax") then Some (Keep Min Max)
    else if bytes_eq name (codes "xMidYMax") then Some (Keep Mid Max)
    else if bytes_eq name (codes "xMaxYMax") then Some (Keep Max Max)
    else None

abbrev pub fit_named : List ℕ → Option Fit
fit_named name =
    if bytes_eq name (codes "meet") then Some Meet
    else if bytes_eq name (codes "slice") then Some Slice
    else None

-- a viewBox, from a member of an array on: its place, its sides, its align and its fit
unfoldable pub view_at : ℕ → Data → Option ViewBox
view_at k d = do
  place ← place_at k d
  sides ← sizes_at (k + 2) d
  align ← at (k + 4) d >>= as_str >>= align_named
  fit ← at (k + 5) d >>= as_str >>= fit_named
  Some (record { x = place.0; y = place.1; w = sides.0; h = sides.1; align = align; fit = fit })

-- the viewBox of an svg, which is written `["view"]` where there is none, and else `["view",vx,vy,vw,vh,align,fit]`
unfoldable pub view_of : Data → Option (Option ViewBox)
view_of d =
    if is_array_of 1 d then Some None
    else if is_array_of 7 d then option_map (λ view. Some view) (view_at 1 d)
    else None

abbrev pub port_with : Option ViewBox → Data → Option Port
port_with view d = do
  place ← place_at 1 d
  sides ← sizes_at 3 d
  Some (record { x = place.0; y = place.1; w = sides.0; h = sides.1; view = view })

-- the viewport of an inner svg, which is written `["port",x,y,w,h]` without a viewBox, and else
-- `["port",x,y,w,h,vx,vy,vw,vh,align,fit]`
unfoldable pub port_of : Data → Option Port
port_of d =
    if is_array_of 5 d then port_with None d
    else if is_array_of 11 d then view_at 5 d >>= (λ view. port_with (Some view) d)
    else None
