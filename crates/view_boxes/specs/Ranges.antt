-- The limits of the numbers of a viewport and of a viewBox (own), in fine units of 1/4096 px.
use Rattle.std.specs.Prelude.{ℤ, IfSome}
use Rattle.computed_style.specs.Ranges.{AreWithin, IsSide}
use Rattle.view_boxes.specs.declared.port.Port.{Port}
use Rattle.view_boxes.specs.declared.port.ViewBox.{ViewBox}

-- sides from 0 to 2^26
pub record AreSides (w h : ℤ) : Type 0 where
  pub width : IsSide 26 w
  pub height : IsSide 26 h

-- a place within 2^26, and such sides
pub record IsBoxInRange (x y w h : ℤ) : Type 0 where
  pub place : AreWithin 26 x y
  pub sides : AreSides w h

-- a viewBox within its limits
abbrev pub IsViewBoxInRange : ViewBox → Type 0
IsViewBoxInRange view = IsBoxInRange view.x view.y view.w view.h

-- a viewport within its limits, with its viewBox
pub record IsPortInRange (port : Port) : Type 0 where
  pub box : IsBoxInRange port.x port.y port.w port.h
  pub view : IfSome port.view IsViewBoxInRange
