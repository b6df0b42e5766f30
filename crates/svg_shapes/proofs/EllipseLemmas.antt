-- What an ellipse holds, by what was measured, and how far it reaches.
use Rattle.std.proofs.Common.{◌≡◌, ℕ, suc, ◌*◌, ◌<◌, ◌≤◌, ℤ, pos, ◌<ℤ◌, Bool, true, false, refl, arith, subst, sym, IsTrue, ◌↔◌, unsigned_abs}
use Rattle.std.specs.Prelude.{not}
use Rattle.std.proofs.Math.Nat.{mul-le-mul}
use Rattle.whole_numbers.proofs.Squares.{square-above}
use Rattle.corner_shapes.specs.Curve.{square, distance, IsWithinEllipse}
use Rattle.svg_shapes.specs.declared.ellipse.Ellipse.{Ellipse}
use Rattle.svg_shapes.specs.Measures.{twice}
use Rattle.svg_shapes.specs.Ellipses.{grown_ellipse, shrunk_ellipse, InEllipse, OnEllipse}

-- ellipses with the same centre and radii are the same
pub same_ellipse : {cx cx' cy cy' rx rx' ry ry' : ℤ} → cx ≡ cx' → cy ≡ cy' → rx ≡ rx' → ry ≡ ry'
    → (let one : Ellipse = record { cx = cx; cy = cy; rx = rx; ry = ry } in
    let other : Ellipse = record { cx = cx'; cy = cy'; rx = rx'; ry = ry' } in one ≡ other)
same_ellipse e f g h = cc

-- a point further off than the radius, across or down, is in no ellipse
pub too_far_across : (dx dy rx ry : ℕ) → rx < dx → 0 < ry → IsWithinEllipse dx dy rx ry → ⊥
too_far_across dx dy rx ry far positive within =
    let scaled : suc rx * ry ≤ dx * ry = mul-le-mul far (omega arith) in
    square-above (dx * ry) (rx * ry) (square (dy * rx)) (omega arith) within

pub too_far_down : (dx dy rx ry : ℕ) → ry < dy → 0 < rx → IsWithinEllipse dx dy rx ry → ⊥
too_far_down dx dy rx ry far positive within =
    let scaled : suc ry * rx ≤ dy * rx = mul-le-mul far (omega arith) in
    square-above (dy * rx) (rx * ry) (square (dx * ry)) (omega arith) (omega arith)

-- the test of an ellipse by what was measured
pub in_ellipse-by : (e : Ellipse) (x y : ℤ) (dx dy rx ry : ℕ) (r : Bool) → pos 0 <ℤ e.rx → pos 0 <ℤ e.ry
    → dx ≡ distance (twice x) e.cx → dy ≡ distance (twice y) e.cy → rx ≡ unsigned_abs e.rx → ry ≡ unsigned_abs e.ry
    → IsTrue r ↔ IsWithinEllipse dx dy rx ry → IsTrue r ↔ InEllipse e x y
in_ellipse-by e x y dx dy rx ry r wide high across down width height tests =
    let whole = rw (across, down, width, height) at tests in
    (λ t. record { wide = wide; high = high; inside = whole.0 t }, λ h. whole.1 h.inside)

-- the test of a band, where the grown ellipse holds the point
pub in_band-by : (e grown shrunk : Ellipse) (width : ℕ) (x y : ℤ) (r : Bool) → pos 0 <ℤ e.rx → pos 0 <ℤ e.ry → 0 < width
    → grown ≡ grown_ellipse width e → shrunk ≡ shrunk_ellipse width e
    → InEllipse grown x y → IsTrue r ↔ InEllipse shrunk x y → IsTrue (not r) ↔ OnEllipse e width x y
in_band-by e grown shrunk width x y true wide high stroked outer inner within tests = (
  λ t. let no : ⊥ = cc in absurd no,
  λ h. absurd (h.beyond (subst (λ (s : Ellipse). InEllipse s x y) inner (tests.0 refl))),
)
in_band-by e grown shrunk width x y false wide high stroked outer inner within tests = (
  λ t. record {
    wide = wide;
    high = high;
    stroked = stroked;
    within = subst (λ (g : Ellipse). InEllipse g x y) outer within;
    beyond = λ held. let t = tests.1 (subst (λ (s : Ellipse). InEllipse s x y) (sym inner) held) in let no : ⊥ = cc in no;
  },
  λ h. refl,
)
