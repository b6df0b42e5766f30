-- What the numbers of a node and of a viewport are, as the code needs it.
use Rattle.std.specs.Prelude.{All, IfSome}
use Rattle.fractions.specs.declared.rect.Spot.{Spot}
use Rattle.computed_style.specs.Ranges.{IsFunctionInRange, IsSide}
use Rattle.box_tree.specs.Forest.{Label}
use Rattle.box_tree.specs.Forms.{IsFormInRange}
use Rattle.box_tree.specs.Contents.{IsBoxInRange, IsSpotInRange, IsWithin}

-- the numbers of a node that make its space are within their limits
pub record HasNumbersInRange (n : Label) : Type 0 where
  pub functions : All IsFunctionInRange n.style.transform
  pub origin : IfSome n.style.origin (λ given. IsWithin 26 given.0 × IsWithin 26 given.1)
  pub border : All (IsSide 20) n.style.border
  pub boxes : All IsBoxInRange n.boxes
  pub anchor : IsSpotInRange n.anchor
  pub scroll : IsSpotInRange n.scroll
  pub form : IfSome n.form IsFormInRange

-- a doubled origin is at most 2^28 in size
pub record IsOriginInRange (origin : Spot) : Type 0 where
  pub x : IsWithin 28 origin.x
  pub y : IsWithin 28 origin.y
