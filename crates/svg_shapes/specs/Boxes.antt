-- The boxes of a text, each a rectangle that holds its left and top edges and not its right and bottom ones.
use Rattle.std.specs.Prelude.{ℤ, ◌+ℤ◌, List}
use Rattle.std.specs.List.{Any}
use Rattle.poly_shapes.specs.Rectangle.{IsInRectangle}
use Rattle.svg_shapes.specs.declared.boxes.FineBox.{FineBox}

abbrev pub InBox : (x y : ℤ) → FineBox → Type 0
InBox x y box = IsInRectangle box.x box.y (box.x +ℤ box.w) (box.y +ℤ box.h) x y

-- some box holds the point
abbrev pub InBoxes : List FineBox → (x y : ℤ) → Type 0
InBoxes boxes x y = Any (InBox x y) boxes
