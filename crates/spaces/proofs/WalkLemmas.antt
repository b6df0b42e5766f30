-- The walk over a node and those below it.
use Rattle.std.proofs.Common.{◌≡◌, ℕ, ◌≤◌, [], ◌∷◌, length, Option, Some, None, Bool, true, false, is_some, IsTrue, refl, sym, ap, ◌∙◌, arith}
use Rattle.std.specs.Prelude.{◌&&◌}
use Rattle.std.specs.Option.{option_map_or}
use Rattle.box_tree.specs.Forest.{Forest, End, Grow, roots_of, Placed, placed_in}
use Rattle.box_tree.specs.Contents.{Contents, placed_of, has_id, ancestor_count, IsValid}
use Rattle.box_tree.proofs.ForestLemmas.{placed_in-head}
use Rattle.box_tree.proofs.PlacedLemmas.{depth-placed_in}

pub and-false : (b : Bool) → (b && false) ≡ false
and-false true = refl
and-false false = refl

-- the root is in the page
pub root-there : (page : Contents) (root : ℕ) → roots_of page.tree ≡ root ∷ [] → IsTrue (has_id page root)
root-there page root is = of_tree page.tree is
  where
    of_tree : (tree : Forest) → roots_of tree ≡ root ∷ [] → IsTrue (is_some (placed_in [] tree root))
    of_tree End is' = absurd cc
    of_tree (Grow n below others) is' =
        let same : n.id ≡ root = cc in
        ap is_some (ap (λ (id : ℕ). placed_in [] (Grow n below others) id) (sym same) ∙ placed_in-head n below others [])

-- no node has more ancestors than there are levels
pub not_deepest : (page : Contents) → IsValid page → (id : ℕ) → ancestor_count page id ≤ 255
not_deepest page valid id = by_place (placed_of page id) refl
  where
    by_place : (o : Option Placed) → placed_of page id ≡ o → length (option_map_or (λ p. p.above) o []) ≤ 255
    by_place None is = omega arith
    by_place (Some p) is = omega (arith, depth-placed_in page.tree [] id p is, valid.depth)
