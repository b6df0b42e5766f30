-- The bound on maps (own): no product on the way to a space may pass it.
use Rattle.std.specs.Prelude.{◌^◌, List, [], ◌∷◌, Bool, true, ◌&&◌, nat_le, unsigned_abs, Some, None, if◌then◌else◌}
use Rattle.std.specs.List.{list_all}
use Rattle.affine.specs.declared.map.Parts.{Parts}
use Rattle.affine.specs.Map.{product}
use Rattle.box_tree.specs.declared.viewport.Viewport.{Viewport}
use Rattle.box_tree.specs.Forest.{Label, Forest, End, Grow}
use Rattle.box_tree.specs.Contents.{Contents}
use Rattle.box_tree.specs.Containing.{Standing, sought, outermost, containing_block_chain}
use Rattle.spaces.specs.Spaces.{has_space, outer_space, space_factors, space_along}

-- whether a map is within the bound: a, b, c, d and q are at most 2^44 in size, e and f at most 2^70
unfoldable pub is_within_bound : Parts → Bool
is_within_bound m =
    list_all (λ x. nat_le (unsigned_abs x) (2 ^ 44)) (m.a ∷ m.b ∷ m.c ∷ m.d ∷ m.q ∷ [])
    && list_all (λ x. nat_le (unsigned_abs x) (2 ^ 70)) (m.e ∷ m.f ∷ [])

-- each of some factors and the product after it, from a map on; a factor is a product of its own, and of all factors the map
-- of a viewBox alone can pass the bound
abbrev pub products_after : Parts → List Parts → List Parts
products_after start [] = []
products_after start (factor ∷ factors) = factor ∷ product start factor ∷ products_after (product start factor) factors

-- the partial products of the space of a node with these containing blocks, nearest first: the product after each of its
-- factors
abbrev pub partial_products_along : Viewport → Standing → List Standing → List Parts
partial_products_along viewport n [] = products_after (outer_space viewport (outermost (sought n.label))) (space_factors None n)
partial_products_along viewport n (holder ∷ holders) = products_after (space_along viewport holder holders) (space_factors (Some holder) n)

abbrev pub partial_products : Viewport → Standing → List Parts
partial_products viewport n = partial_products_along viewport n (containing_block_chain n)

-- whether no partial product of a node passes the bound; where it has no space, none is formed
abbrev pub is_bounded_at : Viewport → Standing → Bool
is_bounded_at viewport n = if has_space n then list_all is_within_bound (partial_products viewport n) else true

-- the same of all nodes of trees below these ancestors
abbrev pub are_bounded : Viewport → List Label → Forest → Bool
are_bounded viewport above End = true
are_bounded viewport above (Grow n below others) =
    is_bounded_at viewport (record { label = n; above = above })
    && (are_bounded viewport (n ∷ above) below && are_bounded viewport above others)

-- whether no partial product of any node of a page passes the bound
abbrev pub is_bounded : Contents → Bool
is_bounded page = are_bounded page.viewport [] page.tree
