-- The walks go through all levels: the rules hold of them without a count.
use Rattle.std.proofs.Common.{◌≡◌, ℕ, zero, suc, ◌<◌, ◌≤◌, List, ◌∷◌, ◌++◌, Bool, refl, ap, ◌∙◌, arith}
use Rattle.std.specs.Prelude.{if◌then◌else◌, not, ◌&&◌, int_lt, pos}
use Rattle.std.specs.List.{filter, flat_map}
use Rattle.box_tree.specs.declared.item.Item.{Item}
use Rattle.box_tree.specs.Forest.{Label, Forest, End, Grow, Placed, height_of}
use Rattle.box_tree.specs.Used.{is_real_context}
use Rattle.stacking.specs.Painting.{Paint, OneBox, Whole, LinePiece, at, is_replaced_kind, own, content, head, blocks, floats, pieces, is_on_lower_line, level_of, context_members, painted_piece, lines_with, body_with, flat_to, flat, body, context_list, painted_member, layer_to, layer}
use Rattle.stacking.specs.Sorting.{sorted_by}
use Rattle.stacking.proofs.ListLemmas.{each-filter, flat_map-same}
use Rattle.stacking.proofs.ShareLemmas.{Throughout, HoldsOfPaint, HoldsOfPiece, of-blocks, of-floats, of-pieces, of-members}

-- a node with fewer levels below it
abbrev pub IsLower : ℕ → Placed → Type 0
IsLower h m = height_of m.below < h

pub lower : (above : List Label) (f : Forest) (h : ℕ) → height_of f ≤ h → Throughout (IsLower h) above f
lower above End h within = tt
lower above (Grow n below others) h within = (omega arith, (lower (n ∷ above) below h (omega arith), lower above others h (omega arith)))

-- two ways to paint the nodes with fewer levels below them are the same
module _ (f g : Placed → List Item) (h : ℕ) (same : (m : Placed) → height_of m.below < h → f m ≡ g m) where
  piece-same : (piece : LinePiece) → HoldsOfPiece (IsLower h) piece → painted_piece f piece ≡ painted_piece g piece
  piece-same piece = of_paint piece.line piece.paint
    where
      of_paint : (line : ℕ) (paint : Paint) → HoldsOfPaint (IsLower h) paint → painted_piece f (record { line = line; paint = paint }) ≡ painted_piece g (record { line = line; paint = paint })
      of_paint line (OneBox item) lower = refl
      of_paint line (Whole p) lower = same p lower

  lines-same : (p : Placed) → height_of p.below ≤ h → lines_with f p ≡ lines_with g p
  lines-same p within = ap (λ xs. if is_replaced_kind p.label.kind then content p else xs)
      (flat_map-same (HoldsOfPiece (IsLower h)) (painted_piece f) (painted_piece g) (sorted_by is_on_lower_line (pieces p)) piece-same (of-pieces (IsLower h) p (lower (p.label ∷ p.above) p.below h within)))

  pub body-same : (p : Placed) → height_of p.below ≤ h → body_with f p ≡ body_with g p
  body-same p within =
      let all = lower (p.label ∷ p.above) p.below h within in
      ap (λ xs. flat_map own (blocks p) ++ (xs ++ (lines_with f p ++ flat_map (lines_with f) (blocks p)))) (flat_map-same (IsLower h) f g (floats p) same (of-floats (IsLower h) p all))
      ∙ ap (λ xs. flat_map own (blocks p) ++ (flat_map g (floats p) ++ (xs ++ flat_map (lines_with f) (blocks p)))) (lines-same p within)
      ∙ ap (λ xs. flat_map own (blocks p) ++ (flat_map g (floats p) ++ (lines_with g p ++ xs))) (flat_map-same (IsLower h) (lines_with f) (lines_with g) (blocks p) (λ b lower. lines-same b (omega arith)) (of-blocks (IsLower h) p all))

-- more levels than there are make no difference
flat_to-same : (k j : ℕ) (p : Placed) → height_of p.below < k → height_of p.below < j → flat_to k p ≡ flat_to j p
flat_to-same zero j p few few' = absurd (omega arith)
flat_to-same (suc k) zero p few few' = absurd (omega arith)
flat_to-same (suc k) (suc j) p few few' =
    ap (λ xs. head p ++ xs) (body-same (flat_to k) (flat_to j) (height_of p.below) (λ m lower. flat_to-same k j m (omega arith) (omega arith)) p (omega arith))

-- a node painted as one: its head and its body
pub flat-is : (p : Placed) → flat p ≡ head p ++ body p
flat-is p = ap (λ xs. head p ++ xs) (body-same (flat_to (height_of p.below)) flat (height_of p.below) (λ m lower. flat_to-same (height_of p.below) (suc (height_of m.below)) m lower (omega arith)) p (omega arith))

-- the same of layers
module _ (f g : Placed → List Item) (h : ℕ) (same : (m : Placed) → height_of m.below < h → f m ≡ g m) where
  member-same : (m : Placed) → IsLower h m → painted_member f m ≡ painted_member g m
  member-same m lower = ap (λ xs. if at is_real_context m then xs else flat m) (same m lower)

  members-same : (p : Placed) → height_of p.below ≤ h → (test : Placed → Bool) → flat_map (painted_member f) (filter test (context_members p)) ≡ flat_map (painted_member g) (filter test (context_members p))
  members-same p within test = flat_map-same (IsLower h) (painted_member f) (painted_member g) (filter test (context_members p)) member-same (each-filter (IsLower h) test (context_members p) (of-members (IsLower h) p (lower (p.label ∷ p.above) p.below h within)))

  pub context_list-same : (p : Placed) → height_of p.below ≤ h → context_list (λ items. items) (painted_member f) p ≡ context_list (λ items. items) (painted_member g) p
  context_list-same p within = rw (
    members-same p within (λ m. int_lt (level_of m) (pos 0)),
    members-same p within (λ m. not (int_lt (level_of m) (pos 0)) && not (int_lt (pos 0) (level_of m))),
    members-same p within (λ m. int_lt (pos 0) (level_of m)),
  ) refl

layer_to-same : (k j : ℕ) (p : Placed) → height_of p.below < k → height_of p.below < j → layer_to k p ≡ layer_to j p
layer_to-same zero j p few few' = absurd (omega arith)
layer_to-same (suc k) zero p few few' = absurd (omega arith)
layer_to-same (suc k) (suc j) p few few' =
    context_list-same (layer_to k) (layer_to j) (height_of p.below) (λ m lower. layer_to-same k j m (omega arith) (omega arith)) p (omega arith)

pub layer-is : (p : Placed) → layer p ≡ context_list (λ items. items) (painted_member layer) p
layer-is p = context_list-same (layer_to (height_of p.below)) layer (height_of p.below) (λ m lower. layer_to-same (height_of p.below) (suc (height_of m.below)) m lower (omega arith)) p (omega arith)
