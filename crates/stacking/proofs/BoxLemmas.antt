-- The boxes of a node one after another.
use Rattle.std.proofs.Common.{◌≡◌, ℕ, zero, suc, ◌+◌, ◌<◌, ◌≤◌, List, [], ◌∷◌, ◌++◌, length, drop, get_or, map, refl, sym, ap, ◌∙◌, arith, append_assoc, pos}
use Rattle.std.proofs.lemmas.List.{append-nil}
use Rattle.box_tree.specs.declared.piece.Piece.{Piece}
use Rattle.box_tree.specs.declared.item.Item.{Item}
use Rattle.box_tree.specs.declared.item.Part.TheVariants.{Box}
use Rattle.stacking.specs.declared.pieces.LinePart.{LinePart}
use Rattle.stacking.specs.declared.pieces.Painted.TheVariants as painted
use Rattle.stacking.specs.Painting.{box_items, box_pieces}
use Rattle.stacking.specs.OnPage.{part_of}

-- what is left begins with the box at a place, while there is one
at_drop : {A B : Type 0} (of_box : ℕ → A → B) (rest : ℕ → List A → List B) → ((k : ℕ) → rest k [] ≡ []) → ((k : ℕ) (x : A) (xs : List A) → rest k (x ∷ xs) ≡ of_box k x ∷ rest (k + 1) xs) →
    (xs : List A) (k j : ℕ) (d : A) → j < length xs → rest k (drop j xs) ≡ of_box k (get_or xs j d) ∷ rest (k + 1) (drop (j + 1) xs)
at_drop of_box rest none more [] k j d within = absurd (omega arith)
at_drop of_box rest none more (x ∷ xs) k zero d within = more k x xs
at_drop of_box rest none more (x ∷ xs) k (suc j) d within = at_drop of_box rest none more xs k j d (omega arith) ∙ ap (λ (i : ℕ). of_box k (get_or xs j d) ∷ rest (k + 1) (drop i (x ∷ xs))) (same j)
  where
    same : (j : ℕ) → suc (j + 1) ≡ suc j + 1
    same j = omega arith

pub drop_all : {A : Type 0} (xs : List A) (k : ℕ) → length xs ≤ k → drop k xs ≡ []
drop_all [] zero all = refl
drop_all [] (suc k) all = refl
drop_all (x ∷ xs) zero all = absurd (omega arith)
drop_all (x ∷ xs) (suc k) all = drop_all xs k (omega arith)

-- one pushed, before what is left
pushed : {A : Type 0} (xs xs' rest all : List A) (x : A) → xs' ≡ xs ++ (x ∷ []) → xs ++ (x ∷ rest) ≡ all → xs' ++ rest ≡ all
pushed xs xs' rest all x more known = ap (λ ys. ys ++ rest) more ∙ append_assoc xs (x ∷ []) rest ∙ known

no_box : Piece
no_box = record { line = 0; l = pos 0; t = pos 0; w = pos 0; h = pos 0 }

pub box_items-more : (id : ℕ) (boxes : List Piece) (k : ℕ) (xs xs' all : List Item) (item : Item) → k < length boxes → item ≡ record { node = id; part = Box k } → xs' ≡ xs ++ (item ∷ []) →
    xs ++ box_items id k (drop k boxes) ≡ all → xs' ++ box_items id (k + 1) (drop (k + 1) boxes) ≡ all
box_items-more id boxes k xs xs' all item within is more known =
    let left : box_items id k (drop k boxes) ≡ record { node = id; part = Box k } ∷ box_items id (k + 1) (drop (k + 1) boxes) =
    at_drop (λ place (box : Piece). record { node = id; part = Box place }) (box_items id) (λ place. refl) (λ place box rest. refl) boxes k k no_box within in
    pushed xs xs' (box_items id (k + 1) (drop (k + 1) boxes)) all item more
    (ap (λ (i : Item). xs ++ (i ∷ box_items id (k + 1) (drop (k + 1) boxes))) is ∙ ap (λ ys. xs ++ ys) (sym left) ∙ known)

pub box_items-all : (id : ℕ) (boxes : List Piece) (k : ℕ) (xs all : List Item) → length boxes ≤ k → xs ++ box_items id k (drop k boxes) ≡ all → xs ≡ all
box_items-all id boxes k xs all last known = sym (append-nil xs) ∙ ap (λ bs. xs ++ box_items id k bs) (sym (drop_all boxes k last)) ∙ known

-- the pieces of boxes from a place on
abbrev pub parts_from : ℕ → ℕ → List Piece → List LinePart
parts_from id place boxes = map part_of (box_pieces id place boxes)

pub parts_from-more : (id : ℕ) (boxes : List Piece) (k : ℕ) (xs xs' all : List LinePart) (item : Item) → (d : Piece) → k < length boxes → item ≡ record { node = id; part = Box k } → xs' ≡ xs ++ (record { line = (get_or boxes k d).line; what = painted.OneBox item } ∷ []) →
    xs ++ parts_from id k (drop k boxes) ≡ all → xs' ++ parts_from id (k + 1) (drop (k + 1) boxes) ≡ all
parts_from-more id boxes k xs xs' all item d within is more known =
    let left : parts_from id k (drop k boxes) ≡ record { line = (get_or boxes k d).line; what = painted.OneBox (record { node = id; part = Box k }) } ∷ parts_from id (k + 1) (drop (k + 1) boxes) =
    at_drop (λ place (box : Piece). record { line = box.line; what = painted.OneBox (record { node = id; part = Box place }) }) (parts_from id) (λ place. refl) (λ place box rest. refl) boxes k k d within in
    pushed xs xs' (parts_from id (k + 1) (drop (k + 1) boxes)) all (record { line = (get_or boxes k d).line; what = painted.OneBox item }) more
    (ap (λ (i : Item). xs ++ (record { line = (get_or boxes k d).line; what = painted.OneBox i } ∷ parts_from id (k + 1) (drop (k + 1) boxes))) is ∙ ap (λ ys. xs ++ ys) (sym left) ∙ known)

pub parts_from-all : (id : ℕ) (boxes : List Piece) (k : ℕ) (xs all : List LinePart) → length boxes ≤ k → xs ++ parts_from id k (drop k boxes) ≡ all → xs ≡ all
parts_from-all id boxes k xs all last known = sym (append-nil xs) ∙ ap (λ bs. xs ++ parts_from id k bs) (sym (drop_all boxes k last)) ∙ known
