-- What the nodes of trees have together.
use Rattle.std.specs.Prelude.{ℕ, ◌+◌, ◌-◌, List, Option, length}
use Rattle.std.specs.Option.{option_map_or}
use Rattle.std.specs.List.{sum_by}
use Rattle.box_tree.specs.declared.node.Node.{Node}
use Rattle.box_tree.specs.declared.sums.Sums.{Sums}
use Rattle.box_tree.specs.Forms.{form_vertices}
use Rattle.box_tree.specs.Forest.{Label, Forest, End, Grow}

-- the sum of a number of each node over all nodes
abbrev pub total_over : (Label → ℕ) → Forest → ℕ
total_over weight End = 0
total_over weight (Grow n below others) = weight n + (total_over weight below + total_over weight others)

-- how many boxes there are
abbrev pub box_count : Forest → ℕ
box_count = total_over (λ n. length n.boxes)

-- how many vertices the shapes and areas have
abbrev pub vertex_count : Forest → ℕ
vertex_count = total_over (λ n. form_vertices n.form)

-- both
abbrev pub sums_in : Forest → Sums
sums_in f = record { boxes = box_count f; vertices = vertex_count f }

-- those of one node, and 0 where there is none
abbrev pub sums_at : Option Node → Sums
sums_at o = record { boxes = option_map_or (λ n. length n.boxes) o 0; vertices = option_map_or (λ n. form_vertices n.form) o 0 }

-- those of nodes
abbrev pub sums_over : List Node → Sums
sums_over nodes = record { boxes = sum_by (λ n. length n.boxes) nodes; vertices = sum_by (λ n. form_vertices n.form) nodes }

-- sums with others, and without others
abbrev pub sums_more : Sums → Sums → Sums
sums_more sums others = record { boxes = sums.boxes + others.boxes; vertices = sums.vertices + others.vertices }

abbrev pub sums_less : Sums → Sums → Sums
sums_less sums others = record { boxes = sums.boxes - others.boxes; vertices = sums.vertices - others.vertices }
