-- The numbers of a shape, in fine units (1/4096 px). Where half the width of a stroke counts, lengths and points are
-- taken twice: in half fine units half the width of a stroke is a whole number.
use Rattle.std.specs.Prelude.{◌^◌, ◌≤◌, ℤ, pos, ◌*ℤ◌, unsigned_abs}
use Rattle.corner_shapes.specs.Radii.{IsLengthWithin}
use Rattle.svg_shapes.specs.declared.boxes.FineBox.{FineBox}

-- a coordinate: within 2^26 either way
pub record IsPlace (z : ℤ) : Type 0 where
  pub within : unsigned_abs z ≤ 2 ^ 26

-- a length: from 0 to 2^26
abbrev pub IsLength : ℤ → Type 0
IsLength z = IsLengthWithin (2 ^ 26) z

-- a place and two sides
pub record IsBoxMeasured (box : FineBox) : Type 0 where
  pub x : IsPlace box.x
  pub y : IsPlace box.y
  pub w : IsLength box.w
  pub h : IsLength box.h

-- fine units as half fine units
abbrev pub twice : ℤ → ℤ
twice z = pos 2 *ℤ z
