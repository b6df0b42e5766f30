-- A point inside the viewport has small coordinates.
use Rattle.std.proofs.Common.{◌≡◌, ℤ, true, arith}
use Rattle.std.proofs.lemmas.Int.{ints}
use Rattle.box_tree.specs.declared.viewport.Viewport.{Viewport}
use Rattle.box_tree.specs.Contents.{IsWithin, IsViewport}
use Rattle.point_query.specs.Elements.{is_inside}

pub x-within : (v : Viewport) (x y : ℤ) → IsViewport v → is_inside v x y ≡ true → IsWithin 20 x
x-within v x y is inside = (grind (arith, ints, is.width.0, is.width.1), grind (arith, ints, is.width.0, is.width.1))

pub y-within : (v : Viewport) (x y : ℤ) → IsViewport v → is_inside v x y ≡ true → IsWithin 20 y
y-within v x y is inside = (grind (arith, ints, is.height.0, is.height.1), grind (arith, ints, is.height.0, is.height.1))
