-- How often an id stands among those of trees, and what nodes of a page have together.
use Rattle.std.proofs.Common.{◌≡◌, ℕ, ◌+◌, List, [], ◌∷◌, ◌++◌, length, Option, Some, refl, ap, ◌∙◌, arith, length-append}
use Rattle.std.specs.Prelude.{nat_lt}
use Rattle.std.specs.Option.{option_map_or}
use Rattle.std.specs.List.{sum_by}
use Rattle.std.proofs.lemmas.Bool.Decides.{nat_tests}
use Rattle.std.proofs.lemmas.List.Sums.{sum_by-cons, sum_by-append}
use Rattle.box_tree.specs.declared.node.Node.{Node}
use Rattle.box_tree.specs.Forest.{Label, Forest, End, Grow, ids_in, node_count, occurrences, Placed}
use Rattle.box_tree.specs.Contents.{Contents, placed_of}
use Rattle.box_tree.specs.Planned.{times_in, is_among}
use Rattle.box_tree.specs.Taken.{ids_of, AreFrom}
use Rattle.box_tree.specs.Totals.{total_over}
use Rattle.box_tree.proofs.PlacedLemmas.{AreAtPlaces}

pub times_in-append : (k : ℕ) (xs ys : List ℕ) → times_in k (xs ++ ys) ≡ times_in k xs + times_in k ys
times_in-append k [] ys = omega arith
times_in-append k (x ∷ xs) ys = omega (arith, times_in-append k xs ys)

-- an id stands among those of trees as often as in the trees
pub times_in-ids_in : (f : Forest) (id : ℕ) → times_in id (ids_in f) ≡ occurrences f id
times_in-ids_in End id = refl
times_in-ids_in (Grow n below others) id = rw (times_in-append id (ids_in below) (ids_in others)) (omega (arith, times_in-ids_in below id, times_in-ids_in others id))

pub length-ids_in : (f : Forest) → length (ids_in f) ≡ node_count f
length-ids_in End = refl
length-ids_in (Grow n below others) = rw (length-append (ids_in below) (ids_in others)) (omega (arith, length-ids_in below, length-ids_in others))

-- one that is among some stands there
pub among-times : (ids : List ℕ) (k : ℕ) → is_among ids k ≡ nat_lt 0 (times_in k ids)
among-times [] k = refl
among-times (id ∷ ids) k = grind (arith, nat_tests, among-times ids k)

pub length-ids_of : (nodes : List Node) → length (ids_of nodes) ≡ length nodes
length-ids_of [] = refl
length-ids_of (n ∷ nodes) = omega (arith, length-ids_of nodes)

-- a number of each node, summed over nodes of a page and over a tree of it
module _ (weight : Label → ℕ) (page : Contents) where
  -- the number of the node of an id, and 0 where there is none
  abbrev pub weight_of : ℕ → ℕ
  weight_of id = option_map_or (λ (p : Placed). weight p.label) (placed_of page id) 0

  pub sum-ids_in : (f : Forest) (above : List Label) → AreAtPlaces page above f → sum_by weight_of (ids_in f) ≡ total_over weight f
  sum-ids_in End above known = refl
  sum-ids_in (Grow n below others) above known =
      let here : weight_of n.id ≡ weight n = ap (λ o. option_map_or (λ (p : Placed). weight p.label) o 0) known.0 in
      rw (sum_by-cons weight_of n.id (ids_in below ++ ids_in others), sum_by-append weight_of (ids_in below) (ids_in others))
      (omega (arith, here, sum-ids_in below (n ∷ above) known.1.0, sum-ids_in others above known.1.1))

  sum-ids_of : (seen : Node → ℕ) (nodes : List Node) (look : ℕ → Option Node) → ((k : ℕ) (n : Node) → look k ≡ Some n → seen n ≡ weight_of k) → AreFrom look nodes → sum_by seen nodes ≡ sum_by weight_of (ids_of nodes)
  sum-ids_of seen [] look sees from = refl
  sum-ids_of seen (n ∷ nodes) look sees from =
      rw (sum_by-cons seen n nodes, sum_by-cons weight_of n.id (ids_of nodes)) (omega (arith, sees n.id n from.0, sum-ids_of seen nodes look sees from.1))

  pub sum-of_tree : (seen : Node → ℕ) (nodes : List Node) (look : ℕ → Option Node) → ((k : ℕ) (n : Node) → look k ≡ Some n → seen n ≡ weight_of k) → AreFrom look nodes → (f : Forest) (above : List Label) → AreAtPlaces page above f → ids_of nodes ≡ ids_in f → sum_by seen nodes ≡ total_over weight f
  sum-of_tree seen nodes look sees from f above known ids_are =
      sum-ids_of seen nodes look sees from ∙ ap (sum_by weight_of) ids_are ∙ sum-ids_in f above known
