-- What holds of each node of some trees in its place holds of each node that the walks meet there.
use Rattle.std.proofs.Common.{ℕ, ◌+◌, List, [], ◌∷◌, ◌++◌}
use Rattle.std.specs.Prelude.{if◌then◌else◌, ◌&&◌}
use Rattle.std.specs.List.{flat_map, AllByRecursion}
use Rattle.box_tree.specs.declared.piece.Piece.{Piece}
use Rattle.box_tree.specs.Forest.{Label, Forest, End, Grow, Placed}
use Rattle.box_tree.specs.Used.{is_in_flow, is_real_context}
use Rattle.box_tree.specs.Suits.{is_text}
use Rattle.stacking.specs.Painting.{Paint, OneBox, Whole, LinePiece, Share, at, is_replaced_kind, is_inline, is_atom, is_entered, is_block, is_float, is_member, box_pieces, own_pieces, first_line, pieces_with, share_of, shares_of, shares_in, reach, blocks, floats, pieces, is_on_lower_line, is_on_lower_level, context_members}
use Rattle.stacking.specs.Sorting.{sorted_by}
use Rattle.stacking.proofs.ListLemmas.{each-append, each-flat_map, each-weaken, each-if, each-filter, each-sorted}

-- it holds of each node of trees that stand below these ancestors
abbrev pub Throughout : (Placed → Type 0) → List Label → Forest → Type 0
Throughout P above End = Unit {0}
Throughout P above (Grow n below others) =
    P (record { label = n; above = above; below = below }) × (Throughout P (n ∷ above) below × Throughout P above others)

-- it holds of what is painted as a whole
abbrev pub HoldsOfPaint : (Placed → Type 0) → Paint → Type 0
HoldsOfPaint P (OneBox item) = Unit {0}
HoldsOfPaint P (Whole p) = P p

abbrev pub HoldsOfPiece : (Placed → Type 0) → LinePiece → Type 0
HoldsOfPiece P piece = HoldsOfPaint P piece.paint

-- it holds of each node in a share
pub record HoldsInShare (P : Placed → Type 0) (s : Share) : Type 0 where
  pub reach : AllByRecursion P s.reach
  pub pieces : AllByRecursion (HoldsOfPiece P) s.pieces
  pub members : AllByRecursion P s.members

module _ (P : Placed → Type 0) where
  pub of-box_pieces : (id place : ℕ) (boxes : List Piece) → AllByRecursion (HoldsOfPiece P) (box_pieces id place boxes)
  of-box_pieces id place [] = tt
  of-box_pieces id place (box ∷ boxes) = (tt, of-box_pieces id (place + 1) boxes)

  in-reach : (ss : List Share) → AllByRecursion (HoldsInShare P) ss → AllByRecursion P (flat_map (λ s. s.reach) ss)
  in-reach ss all = each-flat_map P (λ s. s.reach) ss (each-weaken (HoldsInShare P) (λ s. AllByRecursion P s.reach) ss (λ s in'. in'.reach) all)

  in-pieces : (ss : List Share) → AllByRecursion (HoldsInShare P) ss → AllByRecursion (HoldsOfPiece P) (flat_map (λ s. s.pieces) ss)
  in-pieces ss all = each-flat_map (HoldsOfPiece P) (λ s. s.pieces) ss (each-weaken (HoldsInShare P) (λ s. AllByRecursion (HoldsOfPiece P) s.pieces) ss (λ s in'. in'.pieces) all)

  in-members : (ss : List Share) → AllByRecursion (HoldsInShare P) ss → AllByRecursion P (flat_map (λ s. s.members) ss)
  in-members ss all = each-flat_map P (λ s. s.members) ss (each-weaken (HoldsInShare P) (λ s. AllByRecursion P s.members) ss (λ s in'. in'.members) all)

  in-pieces_with : (inner : List LinePiece) (p : Placed) → P p → AllByRecursion (HoldsOfPiece P) inner → AllByRecursion (HoldsOfPiece P) (pieces_with inner p)
  in-pieces_with inner p one all =
      let boxes = of-box_pieces p.label.id 0 p.label.boxes in
      each-if (HoldsOfPiece P) (is_text p.label.kind) (own_pieces p.label) _ boxes
      (each-if (HoldsOfPiece P) (at is_in_flow p && at is_inline p) (own_pieces p.label ++ inner) _ (each-append (HoldsOfPiece P) (own_pieces p.label) inner boxes all)
      (each-if (HoldsOfPiece P) (at is_atom p) (record { line = first_line p.label.boxes; paint = Whole p } ∷ []) [] (one, tt) tt))

  in-share : (p : Placed) (inner : List Share) → P p → AllByRecursion (HoldsInShare P) inner → HoldsInShare P (share_of p inner)
  in-share p inner one all = record {
    reach = (one, each-if P (at is_entered p) (flat_map (λ s. s.reach) inner) [] (in-reach inner all) tt);
    pieces = in-pieces_with (flat_map (λ s. s.pieces) inner) p one (in-pieces inner all);
    members = each-append P (if at is_member p then p ∷ [] else []) _ (each-if P (at is_member p) (p ∷ []) [] (one, tt) tt) (each-if P (at is_real_context p) [] (flat_map (λ s. s.members) inner) tt (in-members inner all));
  }

  pub in-shares : (above : List Label) (f : Forest) → Throughout P above f → AllByRecursion (HoldsInShare P) (shares_of above f)
  in-shares above End all = tt
  in-shares above (Grow n below others) all =
      (in-share (record { label = n; above = above; below = below }) (shares_of (n ∷ above) below) all.0 (in-shares (n ∷ above) below all.1.0), in-shares above others all.1.1)

  -- below one node
  module _ (p : Placed) (all : Throughout P (p.label ∷ p.above) p.below) where
    of-reach : AllByRecursion P (reach p)
    of-reach = each-if P (is_replaced_kind p.label.kind) [] (flat_map (λ s. s.reach) (shares_in p)) tt (in-reach (shares_in p) (in-shares (p.label ∷ p.above) p.below all))

    pub of-blocks : AllByRecursion P (blocks p)
    of-blocks = each-filter P (at is_block) (reach p) of-reach

    pub of-floats : AllByRecursion P (floats p)
    of-floats = each-filter P (at is_float) (reach p) of-reach

    pub of-pieces : AllByRecursion (HoldsOfPiece P) (sorted_by is_on_lower_line (pieces p))
    of-pieces = each-sorted (HoldsOfPiece P) is_on_lower_line (pieces p)
        (each-append (HoldsOfPiece P) (if at is_inline p then own_pieces p.label else []) _ (each-if (HoldsOfPiece P) (at is_inline p) (own_pieces p.label) [] (of-box_pieces p.label.id 0 p.label.boxes) tt) (in-pieces (shares_in p) (in-shares (p.label ∷ p.above) p.below all)))

    pub of-members : AllByRecursion P (context_members p)
    of-members = each-sorted P is_on_lower_level _ (in-members (shares_in p) (in-shares (p.label ∷ p.above) p.below all))
