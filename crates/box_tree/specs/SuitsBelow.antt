-- The tables of `Suits.antt` by the parent as a reader sees it, none for the root. This is what the code asks.
use Rattle.std.specs.Prelude.{◌==◌, Bool, false, not, ◌&&◌, List, length, Option, is_none}
use Rattle.std.specs.Option.{option_map, option_map_or}
use Rattle.computed_style.specs.declared.style.Style.{Style}
use Rattle.box_tree.specs.declared.kind.Kind.{Kind}
use Rattle.box_tree.specs.declared.node.Node.{Node}
use Rattle.box_tree.specs.declared.piece.Piece.{Piece}
use Rattle.box_tree.specs.Suits.{is_text, may_hold, box_count_suits, style_suits}

-- whether a kind suits this parent
abbrev pub kind_suits_below : Option Node → Kind → Bool
kind_suits_below parent kind =
    may_hold (option_map (λ n. n.kind) parent) kind && not (option_map_or (λ n. n.depth == 1) parent false && is_text kind)

-- whether a new node suits this parent
abbrev pub node_suits_below : Option Node → Kind → Style → List Piece → Bool
node_suits_below parent kind style boxes =
    kind_suits_below parent kind && (style_suits kind style && box_count_suits (is_none parent) kind (length boxes))
