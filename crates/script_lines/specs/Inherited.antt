-- The keys of a style that are inherited, each with its values (own format; the names are those of CSS and of SVG 2).
use Rattle.std.specs.Prelude.{ℕ, if◌then◌else◌, Bool, true, false, List, codes, Option, Some, None, option_map}
use Rattle.std.specs.Str.{bytes_eq}
use Rattle.serde_json.specs.Data.{Data}
use Rattle.serde_json.specs.Find.{as_str}
use Rattle.computed_style.specs.declared.pointer_events.PointerEvents.{PointerEvents}
use Rattle.computed_style.specs.declared.pointer_events.PointerEvents.TheVariants as events
use Rattle.computed_style.specs.declared.style.Rule.{Rule}
use Rattle.computed_style.specs.declared.style.Rule.TheVariants.{NonZero, EvenOdd}
use Rattle.computed_style.specs.declared.style.Ends.{Ends}
use Rattle.computed_style.specs.declared.style.Ends.TheVariants.{Butt, Round, Square}
use Rattle.computed_style.specs.declared.style.Style.{Style}
use Rattle.script_lines.specs.Numbers.{◌>>=◌, side}

-- whether a value of `visibility` is visible; `collapse` is as hidden
abbrev pub visibility_named : List ℕ → Option Bool
visibility_named name =
    if bytes_eq name (codes "visible") then Some true
    else if bytes_eq name (codes "hidden") then Some false
    else if bytes_eq name (codes "collapse") then Some false
    else None

abbrev pub pointer_named : List ℕ → Option PointerEvents
pointer_named name =
    if bytes_eq name (codes "auto") then Some events.Auto
    else if bytes_eq name (codes "none") then Some events.None
    else if bytes_eq name (codes "visiblePainted") then Some events.VisiblePainted
    else if bytes_eq name (codes "visibleFill") then Some events.VisibleFill
    else if bytes_eq name (codes "visibleStroke") then Some events.VisibleStroke
    else if bytes_eq name (codes "visible") then Some events.Visible
    else if bytes_eq name (codes "painted") then Some events.Painted
    else if bytes_eq name (codes "fill") then Some events.Fill
    else if bytes_eq name (codes "stroke") then Some events.Stroke
    else if bytes_eq name (codes "all") then Some events.All
    else None

-- whether a value of `fill` or `stroke` paints
abbrev pub paint_named : List ℕ → Option Bool
paint_named name =
    if bytes_eq name (codes "none") then Some false
    else if bytes_eq name (codes "paint") then Some true
    else None

abbrev pub rule_named : List ℕ → Option Rule
rule_named name =
    if bytes_eq name (codes "nonzero") then Some NonZero
    else if bytes_eq name (codes "evenodd") then Some EvenOdd
    else None

abbrev pub ends_named : List ℕ → Option Ends
ends_named name =
    if bytes_eq name (codes "butt") then Some Butt
    else if bytes_eq name (codes "round") then Some Round
    else if bytes_eq name (codes "square") then Some Square
    else None

-- a style with the value of one inherited key more, by the row of the key; the width of a stroke is in fine units of 1/4096 px
unfoldable pub with_inherited_key : List ℕ → Data → Style → Option Style
with_inherited_key key d s =
    if bytes_eq key (codes "visibility") then option_map (λ visible. record s { visible = Some visible }) (as_str d >>= visibility_named)
    else if bytes_eq key (codes "pointer-events") then option_map (λ pointer. record s { pointer = Some pointer }) (as_str d >>= pointer_named)
    else if bytes_eq key (codes "fill") then option_map (λ fill. record s { fill = Some fill }) (as_str d >>= paint_named)
    else if bytes_eq key (codes "stroke") then option_map (λ stroke. record s { stroke = Some stroke }) (as_str d >>= paint_named)
    else if bytes_eq key (codes "stroke-width") then option_map (λ width. record s { stroke_width = Some width }) (side d)
    else if bytes_eq key (codes "fill-rule") then option_map (λ rule. record s { rule = Some rule }) (as_str d >>= rule_named)
    else if bytes_eq key (codes "stroke-linecap") then option_map (λ ends. record s { ends = Some ends }) (as_str d >>= ends_named)
    else None
