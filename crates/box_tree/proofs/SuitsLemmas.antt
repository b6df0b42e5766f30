-- What suits a place, by the parent or the node as a reader sees it, and where a tree is put below another node.
use Rattle.std.proofs.Common.{◌≡◌, ℕ, ◌+◌, ◌==◌, List, [], ◌∷◌, length, Option, Some, None, is_none, true, false, not, ◌&&◌, refl, sym, ap, ◌∙◌, arith}
use Rattle.std.specs.Option.{option_map, option_map_or}
use Rattle.std.proofs.lemmas.Bool.Decides.{nat_tests}
use Rattle.computed_style.specs.declared.style.Style.{Style}
use Rattle.box_tree.specs.declared.kind.Kind.{Kind}
use Rattle.box_tree.specs.declared.kind.Kind.TheVariants.{Block, Inline, InlineBlock, Image, Svg, Text, Map, Area, Group, Shape, Inner}
use Rattle.box_tree.specs.declared.node.Node.{Node}
use Rattle.box_tree.specs.declared.piece.Piece.{Piece}
use Rattle.box_tree.specs.Forest.{Label, Placed}
use Rattle.box_tree.specs.Contents.{Contents, node_at, node_of, placed_of}
use Rattle.box_tree.specs.Edited.{ancestors_below, kind_may_move}
use Rattle.box_tree.specs.Suits.{is_text, may_hold, has_no_parent, kind_suits, box_count_suits, takes_style, style_suits, node_suits}
use Rattle.box_tree.specs.SuitsBelow.{kind_suits_below, node_suits_below}
use Rattle.box_tree.proofs.PlacedLemmas.{seen_at}

-- a depth of 1 is that of the root
depth_one : (above : List Label) → (1 + length above == 1) ≡ has_no_parent above
depth_one [] = refl
depth_one (parent ∷ above) = grind (arith, nat_tests)

-- the ancestors below a node, and that node as a reader sees it
pub kind_suits-seen : (page : Contents) (parent : ℕ) (kind : Kind) → kind_suits (ancestors_below page parent) kind ≡ kind_suits_below (node_of page parent) kind
kind_suits-seen page parent kind = by_place (placed_of page parent)
  where
    by_place : (o : Option Placed) → kind_suits (option_map_or (λ p. p.label ∷ p.above) o []) kind ≡ kind_suits_below (option_map node_at o) kind
    by_place None = refl
    by_place (Some p) = ap (λ b. may_hold (Some p.label.kind) kind && not (b && is_text kind)) (sym (depth_one p.above))

-- the kind of a node that is seen may stand below a parent as a reader sees it
pub kind_may_move-seen : (page : Contents) (id parent : ℕ) (n : Node) → node_of page id ≡ Some n → kind_may_move page id parent ≡ kind_suits_below (node_of page parent) n.kind
kind_may_move-seen page id parent n seen =
    let at = seen_at page id n seen in
    ap (λ o. option_map_or (λ p. kind_suits (ancestors_below page parent) p.label.kind) o false) at.found
    ∙ kind_suits-seen page parent at.place.label.kind
    ∙ ap (λ (m : Node). kind_suits_below (node_of page parent) m.kind) at.node_is

pub node_suits-seen : (page : Contents) (parent : ℕ) (kind : Kind) (style : Style) (boxes : List Piece) → node_suits (ancestors_below page parent) kind style boxes ≡ node_suits_below (node_of page parent) kind style boxes
node_suits-seen page parent kind style boxes =
    ap (λ b. b && (style_suits kind style && box_count_suits (has_no_parent (ancestors_below page parent)) kind (length boxes))) (kind_suits-seen page parent kind)
    ∙ ap (λ b. kind_suits_below (node_of page parent) kind && (style_suits kind style && box_count_suits b kind (length boxes))) (by_place (placed_of page parent))
  where
    by_place : (o : Option Placed) → has_no_parent (option_map_or (λ p. p.label ∷ p.above) o []) ≡ is_none (option_map node_at o)
    by_place None = refl
    by_place (Some p) = refl

-- a node that takes any style suits every style
pub style_suits-any : (kind : Kind) (style : Style) → takes_style kind ≡ true → style_suits kind style ≡ true
style_suits-any Block style takes = refl
style_suits-any Inline style takes = refl
style_suits-any InlineBlock style takes = refl
style_suits-any Image style takes = refl
style_suits-any Svg style takes = refl
style_suits-any Text style takes = absurd cc
style_suits-any Map style takes = absurd cc
style_suits-any Area style takes = absurd cc
style_suits-any Group style takes = refl
style_suits-any Shape style takes = refl
style_suits-any Inner style takes = refl
