-- Products that are none once one of them passes the bound.
use Rattle.std.specs.Prelude.{◌≡◌, false, List, true, fold, Option, Some, None, if◌then◌else◌}
use Rattle.std.specs.Option.{option_and_then}
use Rattle.affine.specs.declared.map.Parts.{Parts}
use Rattle.affine.specs.Map.{product}
use Rattle.view_boxes.specs.declared.view_map.ViewMap.{ViewMap}
use Rattle.view_boxes.specs.declared.view_map.ViewMap.TheVariants.{Given, Disabled, Beyond}
use Rattle.view_boxes.specs.Views.{IsViewMap}
use Rattle.box_tree.specs.Forest.{Label}
use Rattle.box_tree.specs.Used.{makes_viewport}
use Rattle.spaces.specs.Spaces.{viewport_width, viewport_height, port_of}
use Rattle.spaces.specs.Bound.{is_within_bound}

-- a map, where it is within the bound
abbrev pub if_within : Parts → Option Parts
if_within m = if is_within_bound m then Some m else None

-- a product that is there and then one factor more, where the factor and their product are within the bound
abbrev pub then_product : Option Parts → Parts → Option Parts
then_product outer factor = if is_within_bound factor then option_and_then (λ m. if_within (product m factor)) outer else None

-- the same with each of these factors in order
abbrev pub checked_products : Option Parts → List Parts → Option Parts
checked_products start factors = fold then_product start factors

-- what the viewport that a node makes answers, where it makes one
abbrev pub IsViewOf : Label → Option ViewMap → Type 0
IsViewOf n None = makes_viewport n.kind ≡ false
IsViewOf n (Some view) = (makes_viewport n.kind ≡ true) × IsViewMap (viewport_width n) (viewport_height n) (port_of n) view

-- what a viewport answers, after a map: its map, nothing where rendering is disabled, and none beyond the bound
abbrev pub after_view : Option Parts → ViewMap → Option Parts
after_view space (Given map) = then_product space map
after_view space Disabled = space
after_view space Beyond = None
