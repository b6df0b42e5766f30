-- The values that a node inherits (CSS Cascading and Inheritance 4, "Inheritance").
use Rattle.std.specs.Prelude.{ℕ, List, ◌∷◌, map, reverse, Option, if◌then◌else◌}
use Rattle.std.specs.Option.{option_map}
use Rattle.computed_style.specs.declared.inherited.Inherited.{Inherited}
use Rattle.computed_style.specs.Inheritance.{inherited_values}
use Rattle.box_tree.specs.Forest.{Label}
use Rattle.box_tree.specs.Contents.{Contents, placed_of}
use Rattle.box_tree.specs.Suits.{is_text}

-- the values of the first of these nodes, of which each is the parent of the one before it and the last is the root: the
-- declared values from the root on down; without a node the initial ones
abbrev pub values_along : List Label → Inherited
values_along nodes = inherited_values (reverse (map (λ n. n.style) nodes))

-- the values of a node with these ancestors, its parent first: a text is no element, and takes its parent's
abbrev pub values_below : List Label → Label → Inherited
values_below above n = if is_text n.kind then values_along above else values_along (n ∷ above)

-- the values of the node of an id
abbrev pub values : Contents → ℕ → Option Inherited
values page id = option_map (λ p. values_below p.above p.label) (placed_of page id)
