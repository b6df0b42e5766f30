-- The padding corner of a node with a box.
use Rattle.std.proofs.Common.{◌≡◌, ◌≢◌, pos, ◌+ℤ◌, List, [], ◌∷◌, length, ◌==◌, false, refl}
use Rattle.affine.specs.Map.{translation}
use Rattle.box_tree.specs.declared.piece.Piece.{Piece}
use Rattle.box_tree.specs.Forest.{Label}
use Rattle.spaces.specs.Spaces.{left_border, top_border, corner_of, first_box}

pub corner_of-some : (n : Label) (boxes : List Piece) → boxes ≢ [] → corner_of n boxes ≡ translation ((first_box boxes).l +ℤ left_border n) ((first_box boxes).t +ℤ top_border n) (pos 1) ∷ []
corner_of-some n [] some = absurd (some refl)
corner_of-some n (box ∷ boxes) some = refl

pub some-from : (boxes : List Piece) → (length boxes == 0) ≡ false → boxes ≢ []
some-from [] is none = absurd cc
some-from (box ∷ boxes) is none = cc
