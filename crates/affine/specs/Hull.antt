use Rattle.std.specs.Prelude.{ℤ, pos, ◌+ℤ◌, ◌*ℤ◌, ◌<ℤ◌, ◌≤ℤ◌, int_lt, ◌&&◌, if◌then◌else◌}
use Rattle.std.specs.Int.{int_max, int_min}
use Rattle.fractions.specs.declared.rect.Rect.{Rect}
use Rattle.affine.specs.declared.map.Parts.{Parts}
use Rattle.affine.specs.Point.{Point, image, whole_point, floor_of}

-- the exact point lies in the rectangle with all four of its edges
pub record IsInClosed (r : Rect) (p : Point) : Type 0 where
  pub positive : pos 0 <ℤ p.w
  pub from_left : (r.l *ℤ p.w) ≤ℤ p.x
  pub to_right : p.x ≤ℤ (r.r *ℤ p.w)
  pub from_top : (r.t *ℤ p.w) ≤ℤ p.y
  pub to_bottom : p.y ≤ℤ (r.b *ℤ p.w)

-- the exact point lies in the rectangle with its left and top edges
pub record HoldsPoint (r : Rect) (p : Point) : Type 0 where
  pub from_left : (r.l *ℤ p.w) ≤ℤ p.x
  pub before_right : p.x <ℤ (r.r *ℤ p.w)
  pub from_top : (r.t *ℤ p.w) ≤ℤ p.y
  pub before_bottom : p.y <ℤ (r.b *ℤ p.w)

-- the rectangle h holds the image of each point of the closed rectangle r
abbrev pub HoldsImages : Parts → Rect → Rect → Type 0
HoldsImages m r h = (p : Point) → IsInClosed r p → HoldsPoint h (image m p)

-- the rectangle h lies within k
pub record IsPartOf (h k : Rect) : Type 0 where
  pub left : k.l ≤ℤ h.l
  pub top : k.t ≤ℤ h.t
  pub right : h.r ≤ℤ k.r
  pub bottom : h.b ≤ℤ k.b

-- h is the least rectangle of whole units that holds every image
pub record IsHull (m : Parts) (r h : Rect) : Type 0 where
  pub holds : HoldsImages m r h
  pub least : (k : Rect) → HoldsImages m r k → IsPartOf h k

-- the least and the greatest of four numbers
abbrev pub least_of : ℤ → ℤ → ℤ → ℤ → ℤ
least_of a b c d = int_min (int_min a b) (int_min c d)

abbrev pub greatest_of : ℤ → ℤ → ℤ → ℤ → ℤ
greatest_of a b c d = int_max (int_max a b) (int_max c d)

-- one coordinate of the image of the corner (u, v), times the denominator, by a row of the matrix
abbrev pub corner_image : ℤ → ℤ → ℤ → ℤ → ℤ → ℤ
corner_image a c e u v = a *ℤ u +ℤ c *ℤ v +ℤ e *ℤ pos 1

-- from the least coordinate of the four corners' images, rounded down, to the greatest, rounded down, plus 1
abbrev pub hull_of : Parts → Rect → Rect
hull_of m r =
    let left_top = image m (whole_point r.l r.t) in
    let right_top = image m (whole_point r.r r.t) in
    let left_bottom = image m (whole_point r.l r.b) in
    let right_bottom = image m (whole_point r.r r.b) in
    record {
      l = floor_of (least_of left_top.x right_top.x left_bottom.x right_bottom.x) m.q;
      t = floor_of (least_of left_top.y right_top.y left_bottom.y right_bottom.y) m.q;
      r = floor_of (greatest_of left_top.x right_top.x left_bottom.x right_bottom.x) m.q +ℤ pos 1;
      b = floor_of (greatest_of left_top.y right_top.y left_bottom.y right_bottom.y) m.q +ℤ pos 1;
    }

-- four zeros
abbrev pub no_rect : Rect
no_rect = record { l = pos 0; t = pos 0; r = pos 0; b = pos 0 }

-- a rectangle, or four zeros where it holds no point
abbrev pub zeros_if_empty : Rect → Rect
zeros_if_empty r = if int_lt r.l r.r && int_lt r.t r.b then r else no_rect

-- what both rectangles share, or four zeros where they share no point
abbrev pub shared_part : Rect → Rect → Rect
shared_part h k = zeros_if_empty (record {
  l = int_max h.l k.l;
  t = int_max h.t k.t;
  r = int_min h.r k.r;
  b = int_min h.b k.b;
})
