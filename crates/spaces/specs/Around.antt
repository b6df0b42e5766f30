-- What the ancestors of a node give it, and what a walk over a subtree writes.
use Rattle.std.specs.Prelude.{◌≡◌, ℕ, List, [], ◌∷◌, Bool, true, ◌&&◌, if◌then◌else◌, ◌==◌, Option, Some, IsSome}
use Rattle.std.specs.List.{list_all, AllByRecursion}
use Rattle.std.specs.Option.{option_map_or}
use Rattle.affine.specs.declared.map.Parts.{Parts}
use Rattle.box_tree.specs.declared.viewport.Viewport.{Viewport}
use Rattle.box_tree.specs.Forest.{Label, Forest, End, Grow}
use Rattle.box_tree.specs.Contents.{Contents, placed_of, ancestors_of, tree_of}
use Rattle.box_tree.specs.Containing.{parent_of, may_hold, outermost, standing_at}
use Rattle.spaces.specs.declared.table.around.Around.{Around}
use Rattle.box_tree.specs.declared.containing.Wanted.{Wanted}
use Rattle.box_tree.specs.declared.containing.Wanted.TheVariants.{Container, Positioned, Transformed, Parent}
use Rattle.spaces.specs.declared.table.entry.Entry.{Entry}
use Rattle.spaces.specs.Spaces.{is_laid_out, shows, inner_factors, outer_space, space_of}
use Rattle.spaces.specs.Values.{values_along}
use Rattle.spaces.specs.Bound.{is_bounded_at}
use Rattle.spaces.specs.Checked.{checked_products}
use Rattle.spaces.specs.Table.{entry_at, entry_of, entry_under}

-- where the containing block of what seeks this among these ancestors, nearest first, places it: after the space of that
-- one and its factors, where no product on the way there passes the bound
abbrev pub place_among : Viewport → Wanted → List Label → Option Parts
place_among viewport wanted [] = Some (outer_space viewport (outermost wanted))
place_among viewport wanted (n ∷ above) =
    if may_hold wanted (parent_of above) n
    then checked_products (space_of viewport (record { label = n; above = above })) (inner_factors (parent_of above) n)
    else place_among viewport wanted above

-- the same as it was handed down
abbrev pub place_in : Around → Wanted → Option Parts
place_in around Container = around.container
place_in around Positioned = around.positioned
place_in around Transformed = around.transformed
place_in around Parent = around.parent

-- what these ancestors, nearest first, hand down
pub record IsAround (viewport : Viewport) (above : List Label) (around : Around) : Type 0 where
  pub shown : around.shown ≡ list_all shows above
  pub values : around.values ≡ values_along above
  pub places : (wanted : Wanted) → place_in around wanted ≡ place_among viewport wanted above

-- each of these nodes that is laid out has its entry in a table
abbrev pub AreEntered : List (Option Entry) → Contents → List Label → Type 0
AreEntered table page nodes = AllByRecursion (λ (n : Label). IsSome (entry_of page n.id) → entry_under table n.id ≡ entry_of page n.id) nodes

-- whether no partial product of the node of an id passes the bound
abbrev pub is_bounded_by : Contents → ℕ → Bool
is_bounded_by page id = option_map_or (λ p. is_bounded_at page.viewport (standing_at p)) (placed_of page id) true

-- what a walk over trees below these ancestors, in tree order, makes of the entry of an id, each node writing its own where
-- it is laid out
abbrev pub written : Viewport → List Label → Forest → ℕ → Option Entry → Option Entry
written viewport above End id before = before
written viewport above (Grow n below others) id before =
    written viewport above others id (written viewport (n ∷ above) below id
    (if is_laid_out n.kind && n.id == id then Some (entry_at viewport (record { label = n; above = above })) else before))

-- the same of the tree of a node
abbrev pub written_from : Contents → ℕ → ℕ → Option Entry → Option Entry
written_from page top id before = written page.viewport (ancestors_of page top) (tree_of page top) id before
