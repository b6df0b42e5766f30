-- What a node has beside its boxes, as the JSON array of the key `shape` spells it: by the name that stands first (own
-- format).
use Rattle.std.specs.Prelude.{ℕ, if◌then◌else◌, Bool, is_some, List, codes, Option, Some, None, option_map}
use Rattle.std.specs.Str.{bytes_eq}
use Rattle.serde_json.specs.Data.{Data}
use Rattle.serde_json.specs.Find.{at, as_str, as_array}
use Rattle.image_maps.specs.declared.area.AreaKind.TheVariants as area
use Rattle.svg_shapes.specs.declared.shape.Shape.{Shape}
use Rattle.box_tree.specs.declared.form.Form.{Form}
use Rattle.box_tree.specs.declared.form.Form.TheVariants.{Outline, Cover, View, Port, MapName}
use Rattle.script_lines.specs.declared.forms.FormName.{FormName}
use Rattle.script_lines.specs.declared.forms.FormName.TheVariants as name
use Rattle.script_lines.specs.declared.forms.OutlineName.{OutlineName}
use Rattle.script_lines.specs.declared.forms.OutlineName.TheVariants as outline
use Rattle.script_lines.specs.Numbers.{◌>>=◌, number_to, is_array_of}
use Rattle.script_lines.specs.Shapes.{path_of, polygon_of, polyline_of, line_of, rect_of, circle_of, ellipse_of, fine_boxes_of}
use Rattle.script_lines.specs.Areas.{area_of, default_of}
use Rattle.script_lines.specs.Views.{view_of, port_of}

-- the map of an image, which is written `["map",m]`; 0 is none
unfoldable pub map_of : Data → Option ℕ
map_of d = if is_array_of 2 d then at 1 d >>= number_to 4294967295 else None

-- a list in the second place tells the rect and the circle of an area from those of a shape
abbrev pub has_list : Data → Bool
has_list d = is_some (at 1 d >>= as_array)

unfoldable pub rect_form : Data → Option Form
rect_form d = if has_list d then option_map Cover (area_of area.Rect d) else option_map Outline (rect_of d)

unfoldable pub circle_form : Data → Option Form
circle_form d = if has_list d then option_map Cover (area_of area.Circle d) else option_map Outline (circle_of d)

-- the name that a form has
abbrev pub form_named : List ℕ → Option FormName
form_named word =
    if bytes_eq word (codes "rect") then Some name.Rect
    else if bytes_eq word (codes "circle") then Some name.Circle
    else if bytes_eq word (codes "poly") then Some name.Poly
    else if bytes_eq word (codes "default") then Some name.Default
    else if bytes_eq word (codes "view") then Some name.View
    else if bytes_eq word (codes "port") then Some name.Port
    else if bytes_eq word (codes "map") then Some name.Map
    else if bytes_eq word (codes "path") then Some (name.Outline outline.Path)
    else if bytes_eq word (codes "polygon") then Some (name.Outline outline.Polygon)
    else if bytes_eq word (codes "polyline") then Some (name.Outline outline.Polyline)
    else if bytes_eq word (codes "line") then Some (name.Outline outline.Line)
    else if bytes_eq word (codes "ellipse") then Some (name.Outline outline.Ellipse)
    else if bytes_eq word (codes "boxes") then Some (name.Outline outline.Boxes)
    else None

-- the outline by the row of its name, but for a rect and a circle
abbrev pub outline_as : OutlineName → Data → Option Shape
outline_as outline.Path d = path_of d
outline_as outline.Polygon d = polygon_of d
outline_as outline.Polyline d = polyline_of d
outline_as outline.Line d = line_of d
outline_as outline.Ellipse d = ellipse_of d
outline_as outline.Boxes d = fine_boxes_of d

-- the form by the row of its name
abbrev pub form_as : FormName → Data → Option Form
form_as name.Rect d = rect_form d
form_as name.Circle d = circle_form d
form_as name.Poly d = option_map Cover (area_of area.Poly d)
form_as name.Default d = option_map Cover (default_of d)
form_as name.View d = option_map View (view_of d)
form_as name.Port d = option_map Port (port_of d)
form_as name.Map d = option_map MapName (map_of d)
form_as (name.Outline which) d = option_map Outline (outline_as which d)

-- a form, whose name stands first
unfoldable pub form_of : Data → Option Form
form_of d = do
  row ← at 0 d >>= as_str >>= form_named
  form_as row d
