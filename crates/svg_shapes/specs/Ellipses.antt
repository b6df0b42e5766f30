-- SVG 2, "The 'circle' element" and "The 'ellipse' element": the points whose distances dx and dy from the centre meet
-- (dx / rx)^2 + (dy / ry)^2 <= 1. A radius of 0 disables the shape. A circle has two like radii.
use Rattle.std.specs.Prelude.{ℕ, ◌+◌, ◌<◌, ◌≤◌, unsigned_abs, ℤ, pos, ◌+ℤ◌, ◌-ℤ◌, ◌<ℤ◌}
use Rattle.corner_shapes.specs.Curve.{square, distance, EllipseHolds}
use Rattle.svg_shapes.specs.declared.ellipse.Ellipse.{Ellipse}
use Rattle.svg_shapes.specs.Measures.{twice}

-- an ellipse in half fine units whose centre and radii lie within a distance of 0
pub record IsEllipseWithin (limit : ℕ) (e : Ellipse) : Type 0 where
  pub cx : unsigned_abs e.cx ≤ limit
  pub cy : unsigned_abs e.cy ≤ limit
  pub rx : unsigned_abs e.rx ≤ limit
  pub ry : unsigned_abs e.ry ≤ limit

-- an ellipse by its centre and its radii, in half fine units
abbrev pub ellipse_of : (cx cy rx ry : ℤ) → Ellipse
ellipse_of cx cy rx ry = record { cx = twice cx; cy = twice cy; rx = twice rx; ry = twice ry }

-- the ellipse grown and shrunk by half a stroke's width, which is the width in half fine units
abbrev pub grown_ellipse : (width : ℕ) → Ellipse → Ellipse
grown_ellipse width e = record { cx = e.cx; cy = e.cy; rx = e.rx +ℤ pos width; ry = e.ry +ℤ pos width }

abbrev pub shrunk_ellipse : (width : ℕ) → Ellipse → Ellipse
shrunk_ellipse width e = record { cx = e.cx; cy = e.cy; rx = e.rx -ℤ pos width; ry = e.ry -ℤ pos width }

-- an ellipse in half fine units holds a point in fine units; it holds nothing where a radius isn't positive
pub record InEllipse (e : Ellipse) (x y : ℤ) : Type 0 where
  pub wide : pos 0 <ℤ e.rx
  pub high : pos 0 <ℤ e.ry
  pub inside : EllipseHolds e.cx e.cy (record { x = e.rx; y = e.ry }) (twice x) (twice y)

-- the perimeter of an ellipse, which is the band of its stroke: what the grown ellipse holds and the shrunk one
-- doesn't; with width 0 there is none
pub record OnEllipse (e : Ellipse) (width : ℕ) (x y : ℤ) : Type 0 where
  pub wide : pos 0 <ℤ e.rx
  pub high : pos 0 <ℤ e.ry
  pub stroked : 0 < width
  pub within : InEllipse (grown_ellipse width e) x y
  pub beyond : InEllipse (shrunk_ellipse width e) x y → ⊥

-- a disc in fine units: the points no further from the centre than the radius, which is positive
pub record InDisc (cx cy r : ℤ) (x y : ℤ) : Type 0 where
  pub positive : pos 0 <ℤ r
  pub within : square (distance x cx) + square (distance y cy) ≤ square (unsigned_abs r)
