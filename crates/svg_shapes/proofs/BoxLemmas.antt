-- Boxes as a loop takes them: their corners, and which of them holds a point.
use Rattle.std.proofs.Common.{ℕ, zero, suc, ◌<◌, ℤ, List, [], ◌∷◌, get_or, ◌^◌, arith}
use Rattle.std.specs.List.{All, flat_map}
use Rattle.std.proofs.lemmas.Int.{ints}
use Rattle.std.proofs.lemmas.List.Elements.{All-append}
use Rattle.poly_shapes.specs.declared.point.Point.{Point}
use Rattle.poly_shapes.specs.Extent.{IsPointWithin}
use Rattle.svg_shapes.specs.declared.boxes.FineBox.{FineBox}
use Rattle.svg_shapes.specs.Measures.{IsBoxMeasured}
use Rattle.svg_shapes.specs.Boxes.{InBox}
use Rattle.svg_shapes.specs.Shapes.{corners}

-- no box before a place holds the point
abbrev pub NoneHolds : (x y : ℤ) → List FineBox → ℕ → Type 0
NoneHolds x y boxes end = (k : ℕ) (d : FineBox) → k < end → InBox x y (get_or boxes k d) → ⊥

-- the corners of measured boxes lie within 2^27
abbrev IsCornerNear : Point → Type 0
IsCornerNear p = IsPointWithin (2 ^ 27) p

corners-within : (box : FineBox) → IsBoxMeasured box → All IsCornerNear (corners box)
corners-within box m zero d h = record {
  across = omega (arith, ints, m.x.within);
  down = omega (arith, ints, m.y.within);
}
corners-within box m (suc zero) d h = record {
  across = omega (arith, ints, m.x.within, m.w.at_least, m.w.at_most);
  down = omega (arith, ints, m.y.within);
}
corners-within box m (suc (suc zero)) d h = record {
  across = omega (arith, ints, m.x.within, m.w.at_least, m.w.at_most);
  down = omega (arith, ints, m.y.within, m.h.at_least, m.h.at_most);
}
corners-within box m (suc (suc (suc zero))) d h = record {
  across = omega (arith, ints, m.x.within);
  down = omega (arith, ints, m.y.within, m.h.at_least, m.h.at_most);
}
corners-within box m (suc (suc (suc (suc k)))) d h = absurd (omega arith)

pub all-corners-within : (boxes : List FineBox) → All IsBoxMeasured boxes
    → All (IsPointWithin (2 ^ 27)) (flat_map corners boxes)
all-corners-within [] all = λ k d h. absurd (omega arith)
all-corners-within (box ∷ boxes) all =
    All-append IsCornerNear (corners box) (flat_map corners boxes)
    (corners-within box (all 0 box (omega arith))) (all-corners-within boxes (λ k d h. all (suc k) d (omega arith)))
