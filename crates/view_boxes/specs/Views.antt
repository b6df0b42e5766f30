-- What a viewport makes of its viewBox: SVG 2, "Computing the equivalent transform of an SVG viewport", in exact numbers.
-- The viewport is (ex, ey, ew, eh) there, and the viewBox (vx, vy, vw, vh). Numbers over vw vh are given by their
-- numerators: ew / vw is ew vh of them.
use Rattle.std.specs.Prelude.{◌≡◌, Bool, true, false, ◌||◌, IsTrue, Option, Some, None, ℤ, pos, ◌+ℤ◌, ◌-ℤ◌, ◌*ℤ◌}
use Rattle.std.specs.Int.{int_max, int_min}
use Rattle.std.specs.Ordering.{int_eq}
use Rattle.affine.specs.declared.map.Parts.{Parts}
use Rattle.affine.specs.Map.{IsWithinBound, lowest_terms}
use Rattle.view_boxes.specs.declared.port.Side.{Side}
use Rattle.view_boxes.specs.declared.port.Side.TheVariants.{Min, Mid, Max}
use Rattle.view_boxes.specs.declared.port.Align.{Align}
use Rattle.view_boxes.specs.declared.port.Align.TheVariants.{Stretch, Keep}
use Rattle.view_boxes.specs.declared.port.Fit.{Fit}
use Rattle.view_boxes.specs.declared.port.Fit.TheVariants.{Meet, Slice}
use Rattle.view_boxes.specs.declared.port.ViewBox.{ViewBox}
use Rattle.view_boxes.specs.declared.port.Port.{Port}
use Rattle.view_boxes.specs.declared.view_map.ViewMap.{ViewMap}
use Rattle.view_boxes.specs.declared.view_map.ViewMap.TheVariants.{Given, Disabled, Beyond}

-- whether a side is 0
abbrev pub has_no_area : ℤ → ℤ → Bool
has_no_area w h = int_eq w (pos 0) || int_eq h (pos 0)

-- a side of 0, of the viewport or of the viewBox, disables rendering (SVG 2, "The 'viewBox' attribute" and "Sizing
-- properties")
abbrev pub is_disabled : ℤ → ℤ → Option ViewBox → Bool
is_disabled w h None = has_no_area w h
is_disabled w h (Some view) = has_no_area w h || has_no_area view.w view.h

-- A scale begins as ew / vw or eh / vh. If align isn't 'none', the larger of both becomes the smaller with 'meet', and
-- the smaller becomes the larger with 'slice'. First stands the scale of the axis itself.
abbrev pub scale : Align → Fit → ℤ → ℤ → ℤ
scale Stretch fit own other = own
scale (Keep x y) Meet own other = int_min own other
scale (Keep x y) Slice own other = int_max own other

abbrev pub scale_x : ℤ → ℤ → ViewBox → ℤ
scale_x w h view = scale view.align view.fit (w *ℤ view.h) (h *ℤ view.w)

abbrev pub scale_y : ℤ → ℤ → ViewBox → ℤ
scale_y w h view = scale view.align view.fit (h *ℤ view.w) (w *ℤ view.h)

-- where the viewBox stands across and down; 'none' adds nothing, as 'xMin' and 'YMin' do
abbrev pub side_x : Align → Side
side_x Stretch = Min
side_x (Keep x y) = x

abbrev pub side_y : Align → Side
side_y Stretch = Min
side_y (Keep x y) = y

-- twice what is added of what the viewport has left: nothing, half of it, or all of it
abbrev pub doubled_share : Side → ℤ → ℤ
doubled_share Min left = pos 0
doubled_share Mid left = left
doubled_share Max left = pos 2 *ℤ left

-- Twice a translation, over vw vh: first e - v * scale, and then the share of what is left, ew - vw * scale. `place` and
-- `side` are e and ew, `from` and `length` are v and vw, and `one` is vw vh.
abbrev pub doubled_translation : Side → ℤ → ℤ → ℤ → ℤ → ℤ → ℤ → ℤ
doubled_translation at place side from length scale one =
    pos 2 *ℤ (place *ℤ one -ℤ from *ℤ scale) +ℤ doubled_share at (side *ℤ one -ℤ length *ℤ scale)

-- the scales and the translation over 128 vw vh: a translation is doubled, and in fine units, of which 64 are a unit
abbrev pub parts_of_view : ℤ → ℤ → ℤ → ℤ → ViewBox → Parts
parts_of_view x y w h view =
    let one = view.w *ℤ view.h in
    record {
      a = pos 128 *ℤ scale_x w h view;
      b = pos 0;
      c = pos 0;
      d = pos 128 *ℤ scale_y w h view;
      e = doubled_translation (side_x view.align) x w view.x view.w (scale_x w h view) one;
      f = doubled_translation (side_y view.align) y h view.y view.h (scale_y w h view) one;
      q = pos 128 *ℤ one;
    }

-- without a viewBox the translation to the viewport's corner alone
abbrev pub parts_of : ℤ → ℤ → ℤ → ℤ → Option ViewBox → Parts
parts_of x y w h None = record { a = pos 64; b = pos 0; c = pos 0; d = pos 64; e = x; f = y; q = pos 64 }
parts_of x y w h (Some view) = parts_of_view x y w h view

-- the map from the user space in a viewport of these sides, in fine units, to the space around it
abbrev pub equivalent_transform : ℤ → ℤ → Port → Parts
equivalent_transform w h port = lowest_terms (parts_of port.x port.y w h port.view)

-- what a viewport of these sides answers: Disabled exactly where rendering is, else its map, or Beyond where that passes
-- the bound on maps
abbrev pub IsViewMap : ℤ → ℤ → Port → ViewMap → Type 0
IsViewMap w h port Disabled = IsTrue (is_disabled w h port.view)
IsViewMap w h port (Given map) =
    (is_disabled w h port.view ≡ false) × ((map ≡ equivalent_transform w h port) × IsWithinBound (equivalent_transform w h port))
IsViewMap w h port Beyond = (is_disabled w h port.view ≡ false) × (IsWithinBound (equivalent_transform w h port) → ⊥)

-- whether an answer says that rendering is disabled, and the map that it gives
abbrev pub says_disabled : ViewMap → Bool
says_disabled Disabled = true
says_disabled (Given map) = false
says_disabled Beyond = false

abbrev pub given_map : ViewMap → Option Parts
given_map Disabled = None
given_map (Given map) = Some map
given_map Beyond = None
