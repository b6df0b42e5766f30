-- Nodes of a page as its readers see them: what holds one, and its numbers.
-- viewport.
use Rattle.std.proofs.Common.{◌≡◌, ℕ, ◌<◌, [], length, Option, Some, None, is_some, true, IsTrue, refl, sym, ap, ◌∙◌, arith}
use Rattle.std.proofs.lemmas.Bool.{false≢true}
use Rattle.std.proofs.lemmas.Int.{ints}
use Rattle.std.specs.Option.{option_map, option_map_or}
use Rattle.fractions.specs.declared.rect.Spot.{Spot}
use Rattle.box_tree.specs.declared.node.Node.{Node}
use Rattle.box_tree.specs.declared.containing.Holder.TheVariants.{Node as HolderNode}
use Rattle.box_tree.specs.Forest.{Placed}
use Rattle.box_tree.specs.Contents.{Contents, node_at, node_of, placed_of, has_id, ancestor_count, IsSpotInRange, IsScrolled, IsValid, IsSuited}
use Rattle.box_tree.specs.Containing.{Standing, containing_block}
use Rattle.box_tree.specs.Kept.{label_of}
use Rattle.box_tree.proofs.MoveLemmas.{each-placed}
use Rattle.box_tree.proofs.PlacedLemmas.{seen_at}
use Rattle.box_tree.proofs.ContainingLemmas.{standing, label-seen, held_by}
use Rattle.spaces.specs.Sizes.{HasNumbersInRange}

-- a node that is in the page is seen by its readers
pub record IsThere (page : Contents) (id : ℕ) : Type 0 where
  pub node : Node
  pub seen : node_of page id ≡ Some node

pub is_there : (page : Contents) (id : ℕ) → IsTrue (has_id page id) → IsThere page id
is_there page id there = by_place (placed_of page id) refl there
  where
    by_place : (o : Option Placed) → placed_of page id ≡ o → is_some o ≡ true → IsThere page id
    by_place None found there' = absurd (false≢true there')
    by_place (Some p) found there' = record { node = node_at p; seen = ap (option_map node_at) found }

-- a scroll between 0 and the greatest one is a point within the limits
scroll-in_range : (scroll max : Spot) → IsScrolled scroll max → IsSpotInRange scroll
scroll-in_range scroll max is = record {
  x = (omega (arith, ints, is.x.0), omega (arith, ints, is.x.1, is.greatest.x.1));
  y = (omega (arith, ints, is.y.0), omega (arith, ints, is.y.1, is.greatest.y.1));
}

module _ (page : Contents) (valid : IsValid page) (id : ℕ) (node : Node) (seen : node_of page id ≡ Some node) where
  abbrev n : Standing
  n = standing page valid id node seen

  found : placed_of page id ≡ Some (seen_at page id node seen).place
  found = (seen_at page id node seen).found

  -- a containing block is in the page, nearer to the root
  pub holder-there : (holder : ℕ) → containing_block page id ≡ HolderNode holder → IsTrue (has_id page holder)
  holder-there holder by =
      let is = held_by page valid id node seen holder by in
      ap is_some (ap (placed_of page) (sym is.id_is) ∙ is.stands.found)

  pub holder-nearer : (holder : ℕ) → containing_block page id ≡ HolderNode holder → ancestor_count page holder < ancestor_count page id
  holder-nearer holder by =
      let is = held_by page valid id node seen holder by in
      let count = ap (λ (o : Option Placed). length (option_map_or (λ p. p.above) o [])) (ap (placed_of page) (sym is.id_is) ∙ is.stands.found) in
      let own : ancestor_count page id ≡ length n.above = ap (λ (o : Option Placed). length (option_map_or (λ p. p.above) o [])) found in
      omega (arith, count, own, is.fewer)

  -- the numbers of a node are in range
  pub numbers-seen : HasNumbersInRange (label_of node)
  numbers-seen =
      let suited = (each-placed IsSuited page.tree [] id (seen_at page id node seen).place valid.suited found).0 in
      rw (label-seen page valid id node seen) (record {
        functions = suited.style_in_range.functions;
        origin = suited.style_in_range.origin;
        border = suited.style_in_range.border;
        boxes = suited.in_range;
        anchor = suited.anchor;
        scroll = scroll-in_range _ _ suited.scroll;
        form = suited.formed.in_range;
      })
