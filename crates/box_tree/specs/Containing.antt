-- Containing blocks (CSS 2.2, 10.1; CSS Transforms 1, 3). The space of SVG content is that of its parent, moved by its own
-- transform (SVG 2, 8.3), so what holds it is its parent.
use Rattle.std.specs.Prelude.{ℕ, List, [], ◌∷◌, Option, None, Some, Bool, true, false, ◌||◌, if◌then◌else◌}
use Rattle.std.specs.Option.{option_map_or}
use Rattle.computed_style.specs.declared.style.Position.{Position}
use Rattle.computed_style.specs.declared.style.Position.TheVariants.{Static, Relative, Absolute, Fixed}
use Rattle.box_tree.specs.declared.containing.Holder.{Holder}
use Rattle.box_tree.specs.declared.containing.Holder.TheVariants.{Node as HolderNode, Initial, Viewport}
use Rattle.box_tree.specs.declared.containing.Wanted.{Wanted}
use Rattle.box_tree.specs.declared.containing.Wanted.TheVariants.{Container, Positioned, Transformed, Parent}
use Rattle.box_tree.specs.declared.kind.Kind.{Kind}
use Rattle.box_tree.specs.declared.kind.Kind.TheVariants.{Block, Inline, InlineBlock, Image, Svg, Text, Map, Area, Group, Shape, Inner}
use Rattle.box_tree.specs.Forest.{Label, Placed}
use Rattle.box_tree.specs.Contents.{Contents, placed_of}
use Rattle.box_tree.specs.Used.{is_block_container, is_positioned, is_transformed, is_clipping, is_real_context}

-- the parent of a node with these ancestors, nearest first
abbrev pub parent_of : List Label → Option Label
parent_of [] = None
parent_of (parent ∷ above) = Some parent

-- what a CSS node of this position seeks among its ancestors: a block container where it is static or relative, a positioned
-- or transformed node where it is absolute, a transformed one where it is fixed
abbrev pub sought_at : Position → Wanted
sought_at Static = Container
sought_at Relative = Container
sought_at Absolute = Positioned
sought_at Fixed = Transformed

-- what a node of this kind and position seeks as its containing block: a text counts as static; SVG content seeks its
-- parent, and so do a map and an area, which nothing asks for theirs
abbrev pub sought_as : Kind → Position → Wanted
sought_as Block position = sought_at position
sought_as Inline position = sought_at position
sought_as InlineBlock position = sought_at position
sought_as Image position = sought_at position
sought_as Svg position = sought_at position
sought_as Text position = Container
sought_as Map position = Parent
sought_as Area position = Parent
sought_as Group position = Parent
sought_as Shape position = Parent
sought_as Inner position = Parent

abbrev pub sought : Label → Wanted
sought n = sought_as n.kind n.style.position

-- whether a node, with its parent before it, is what is sought: the first that is asked is the parent
abbrev pub may_hold : Wanted → Option Label → Label → Bool
may_hold Container parent n = is_block_container parent n
may_hold Positioned parent n = is_positioned parent n || is_transformed parent n
may_hold Transformed parent n = is_transformed parent n
may_hold Parent parent n = true

-- what holds a node that no ancestor may hold: the viewport where it is fixed, and else the initial containing block
abbrev pub outermost : Wanted → Holder
outermost Container = Initial
outermost Positioned = Initial
outermost Transformed = Viewport
outermost Parent = Initial

-- the containing block of what seeks this among these ancestors, nearest first: the nearest that may hold it
abbrev pub holder_among : Wanted → List Label → Holder
holder_among wanted [] = outermost wanted
holder_among wanted (n ∷ above) =
    if may_hold wanted (parent_of above) n then HolderNode n.id else holder_among wanted above

-- a node with its ancestors, nearest first
pub record Standing : Type 0 where
  pub label : Label
  pub above : List Label

-- a node with its ancestors, by its place
abbrev pub standing_at : Placed → Standing
standing_at p = record { label = p.label; above = p.above }

-- the containing block of what seeks this among these ancestors, the containing block of that one, and so on
abbrev pub holders_among : Wanted → List Label → List Standing
holders_among wanted [] = []
holders_among wanted (n ∷ above) =
    if may_hold wanted (parent_of above) n
    then record { label = n; above = above } ∷ holders_among (sought n) above
    else holders_among wanted above

-- the nodes among the containing blocks of a node: its own, that one's, and so on
abbrev pub containing_block_chain : Standing → List Standing
containing_block_chain n = holders_among (sought n.label) n.above

-- the containing block of the node of an id
abbrev pub containing_block : Contents → ℕ → Holder
containing_block page id = option_map_or (λ p. holder_among (sought p.label) p.above) (placed_of page id) Initial

-- whether the node of an id is a real stacking context
abbrev pub makes_context : Contents → ℕ → Bool
makes_context page id = option_map_or (λ p. is_real_context (parent_of p.above) p.label) (placed_of page id) false

-- whether the node of an id clips what it holds
abbrev pub clips : Contents → ℕ → Bool
clips page id = option_map_or (λ p. is_clipping (parent_of p.above) p.label) (placed_of page id) false
