-- The form of a node beside its boxes: the outline of a shape and the viewport of an inner svg (SVG 2), the viewBox of an svg
-- (SVG 2, 8.6), what an area of an image map covers, and the map that an image names (HTML, "Image maps").
use Rattle.std.specs.Prelude.{ℕ, Option, None, Some, IfSome}
use Rattle.svg_shapes.specs.Shapes.{IsMeasured, vertices as vertices_of_shape}
use Rattle.image_maps.specs.Area.{vertices as vertices_of_area}
use Rattle.view_boxes.specs.Ranges.{IsViewBoxInRange, IsPortInRange}
use Rattle.box_tree.specs.declared.form.Form.{Form}
use Rattle.box_tree.specs.declared.form.Form.TheVariants.{Outline, Cover, View, Port, MapName}

-- the numbers of a form are within their limits; those of an area always are
abbrev pub IsFormInRange : Form → Type 0
IsFormInRange (Outline shape) = IsMeasured shape
IsFormInRange (Cover area) = Unit {0}
IsFormInRange (View view) = IfSome view IsViewBoxInRange
IsFormInRange (Port port) = IsPortInRange port
IsFormInRange (MapName map) = Unit {0}

-- how many vertices a form counts for: those of a shape or of an area
abbrev pub vertices_of_form : Form → ℕ
vertices_of_form (Outline shape) = vertices_of_shape shape
vertices_of_form (Cover area) = vertices_of_area area
vertices_of_form (View view) = 0
vertices_of_form (Port port) = 0
vertices_of_form (MapName map) = 0

abbrev pub form_vertices : Option Form → ℕ
form_vertices None = 0
form_vertices (Some form) = vertices_of_form form
