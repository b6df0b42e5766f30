-- Which stacking context a node is painted in (CSS 2.2, 9.9.1).
use Rattle.std.specs.Prelude.{ℕ, List, [], ◌∷◌, if◌then◌else◌}
use Rattle.box_tree.specs.Forest.{Label}
use Rattle.box_tree.specs.Contents.{Contents, ancestors_of}
use Rattle.box_tree.specs.Containing.{parent_of}
use Rattle.box_tree.specs.Used.{is_real_context}

-- the id of the nearest of these ancestors that is a real stacking context, and 0 where none is
abbrev pub nearest_context : List Label → ℕ
nearest_context [] = 0
nearest_context (n ∷ above) = if is_real_context (parent_of above) n then n.id else nearest_context above

-- the nearest real stacking context above a node
abbrev pub context_of : Contents → ℕ → ℕ
context_of page id = nearest_context (ancestors_of page id)
