-- A point outside the bounds isn't in the fill. No edge is crossed by a ray above, below or right of all ends; left of
-- them as many edges are crossed downwards as upwards, since each subpath comes back to where it began; and where the
-- winding is 0 the crossings are even.
use Rattle.std.proofs.Common.{◌≡◌, ℕ, suc, ◌+◌, ◌-◌, ◌*◌, ℤ, pos, negsuc, ◌+ℤ◌, ◌-ℤ◌, ◌<ℤ◌, ◌≤ℤ◌, int_lt, Bool, true, false, ◌||◌, cond, List, [], ◌∷◌, length, drop, get_or, Some, IsSomeAnd, arith, refl, ap, ◌∙◌}
use Rattle.std.specs.List.{All}
use Rattle.std.proofs.lemmas.Int.{ints, by_lt_z}
use Rattle.std.proofs.lemmas.List.Elements.{All-take, All-drop}
use Rattle.std.proofs.lemmas.Option.{slice_get-get_or}
use Rattle.poly_shapes.specs.declared.point.Point.{Point}
use Rattle.poly_shapes.specs.declared.point.Sub.{Sub}
use Rattle.poly_shapes.specs.declared.point.Bounds.{Bounds}
use Rattle.poly_shapes.specs.declared.point.FillRule.{FillRule}
use Rattle.poly_shapes.specs.declared.point.FillRule.TheVariants.{NonZero, EvenOdd}
use Rattle.poly_shapes.specs.declared.segment.Segment.{Segment}
use Rattle.poly_shapes.specs.Segments.{across, path_from, path_back_from, last_point, ring}
use Rattle.poly_shapes.specs.Outline.{points_of, edges_of}
use Rattle.poly_shapes.specs.Extent.{bounds_of, Holds}
use Rattle.poly_shapes.specs.Fill.{crosses_down, crosses_up, winding, crossings, Fills}
use Rattle.poly_shapes.proofs.ExtentLemmas.{HoldsPoint, bounds_of-holds}
use Rattle.poly_shapes.proofs.TurnedLemmas.{last_point-cons, last_point-there, not_both}
use Rattle.poly_shapes.proofs.OutlineLemmas.{winding-append}
use Rattle.poly_shapes.proofs.CrossingLemmas.{IsNotCrossed, winding-not_crossed, not_crossed-above, not_crossed-below, not_crossed-right, reached, winding-left}

abbrev segment : Point → Point → Segment
segment a b = record { from = a; to = b }

-- ---- no edge crossed

-- where no segment between two such points is crossed, the winding of a path through such points is 0
winding-path : (Q : Point → Type 0) (x y : ℤ)
    (apart : (a b : Point) → Q a → Q b → IsNotCrossed (segment a b) x y)
    (a : Point) (points : List Point) → Q a → All Q points → winding (path_from a points) x y ≡ pos 0
winding-path Q x y apart a [] first each = refl
winding-path Q x y apart a (b ∷ points) first each =
    let next : Q b = each 0 b (omega arith) in
    let one = winding-not_crossed (segment a b) x y (apart a b first next) in
    let rest = winding-path Q x y apart b points next (λ k d h. each (suc k) d (omega arith)) in
    omega (arith, ints)

winding-ring : (Q : Point → Type 0) (x y : ℤ)
    (apart : (a b : Point) → Q a → Q b → IsNotCrossed (segment a b) x y)
    (points : List Point) → All Q points → winding (ring points) x y ≡ pos 0
winding-ring Q x y apart [] each = refl
winding-ring Q x y apart (p ∷ points) each =
    ap (λ end. winding (path_back_from end (p ∷ points)) x y) (last_point-there p points)
    ∙ winding-path Q x y apart (get_or (p ∷ points) (length (p ∷ points) - 1) p) (p ∷ points)
    (each (length (p ∷ points) - 1) p (omega arith)) each

-- ---- left of all points

end_of : Point → List Point → Point
end_of a [] = a
end_of a (b ∷ points) = end_of b points

last_point-end : (p : Point) (points : List Point) → last_point (p ∷ points) ≡ Some (end_of p points)
unfolding end_of
last_point-end p [] = refl
last_point-end p (next ∷ points) = last_point-cons p next points ∙ last_point-end next points

winding-path_left : (x y : ℤ) (a : Point) (points : List Point) → x <ℤ a.x → All (λ p. x <ℤ p.x) points
    → winding (path_from a points) x y ≡ reached a.y y -ℤ reached (end_of a points).y y
unfolding end_of
winding-path_left x y a [] first each = omega (arith, ints)
winding-path_left x y a (b ∷ points) first each =
    let next : x <ℤ b.x = each 0 b (omega arith) in
    let one = winding-left (segment a b) x y first next in
    let rest = winding-path_left x y b points next (λ k d h. each (suc k) d (omega arith)) in
    omega (arith, ints)

end_of-left : (x : ℤ) (a : Point) (points : List Point) → x <ℤ a.x → All (λ p. x <ℤ p.x) points → x <ℤ (end_of a points).x
unfolding end_of
end_of-left x a [] first each = first
end_of-left x a (b ∷ points) first each = end_of-left x b points (each 0 b (omega arith)) (λ k d h. each (suc k) d (omega arith))

end_of-cons : (a p : Point) (points : List Point) → end_of a (p ∷ points) ≡ end_of p points
unfolding end_of
end_of-cons a p points = refl

winding-ring_left : (x y : ℤ) (points : List Point) → All (λ p. x <ℤ p.x) points → winding (ring points) x y ≡ pos 0
winding-ring_left x y [] each = refl
winding-ring_left x y (p ∷ points) each =
    let here : x <ℤ p.x = each 0 p (omega arith) in
    let last : x <ℤ (end_of p points).x = end_of-left x p points here (λ k d h. each (suc k) d (omega arith)) in
    let round = winding-path_left x y (end_of p points) (p ∷ points) last each in
    let back = ap (λ (e : Point). reached e.y y) (end_of-cons (end_of p points) p points) in
    ap (λ end. winding (path_back_from end (p ∷ points)) x y) (last_point-end p points) ∙ omega (arith, ints)

-- ---- all subpaths

winding-all : (Q : Point → Type 0) (x y : ℤ)
    (none : (points : List Point) → All Q points → winding (ring points) x y ≡ pos 0)
    (points : List Point) (subs : List Sub) → All Q points → winding (edges_of points subs) x y ≡ pos 0
winding-all Q x y none points [] each = refl
winding-all Q x y none points (sub ∷ subs) each =
    let own : All Q (points_of points sub) =
    All-take Q (sub.first + sub.count - sub.first) (drop sub.first points) (All-drop Q sub.first points each) in
    let one = none (points_of points sub) own in
    let rest = winding-all Q x y none points subs each in
    let both = winding-append (ring (points_of points sub)) (edges_of points subs) x y in
    omega (arith, ints)

-- ---- the parity of the crossings is that of the winding

ups : List Segment → (x y : ℤ) → ℕ
ups [] x y = 0
ups (e ∷ edges) x y = cond (crosses_up e x y) 1 0 + ups edges x y

parity-edge : (down up : Bool) → (down ≡ true → up ≡ false)
    → (let n : ℕ = cond (down || up) 1 0 in pos n ≡ cond down (pos 1) (cond up (negsuc 0) (pos 0)) +ℤ pos (2 * cond up 1 0))
parity-edge true up h = let no : up ≡ false = h refl in rw no refl
parity-edge false true h = refl
parity-edge false false h = refl

parity : (edges : List Segment) (x y : ℤ) → pos (crossings edges x y) ≡ winding edges x y +ℤ pos (2 * ups edges x y)
unfolding ups
parity [] x y = refl
parity (e ∷ edges) x y =
    let one = parity-edge (crosses_down e x y) (crosses_up e x y)
    (not_both e.from.y e.to.y y (int_lt (pos 0) (across e x y)) (int_lt (across e x y) (pos 0))) in
    let rest = parity edges x y in
    omega (arith, ints)

-- where the winding is 0 neither rule fills
unfilled : (rule : FillRule) (edges : List Segment) (x y : ℤ) → winding edges x y ≡ pos 0 → Fills rule edges x y → ⊥
unfilled NonZero edges x y none filled = filled none
unfilled EvenOdd edges x y none filled = let even = parity edges x y in omega (arith, ints)

-- ---- together

fills-held : (rule : FillRule) (points : List Point) (subs : List Sub) (x y : ℤ) (b : Bounds) → All (HoldsPoint b) points
    → Fills rule (edges_of points subs) x y → Holds b x y
fills-held rule points subs x y b held filled =
    let edges = edges_of points subs in
    let absent = λ (none : winding edges x y ≡ pos 0). unfilled rule edges x y none filled in
    by_lt_z x b.l (λ h. absurd (absent (winding-all (λ p. x <ℤ p.x) x y (winding-ring_left x y) points subs
    (λ k d i. let at = held k d i in omega (arith, ints, at.left))))) (λ left.
    by_lt_z b.r x (λ h. absurd (absent (winding-all (λ p. p.x <ℤ x) x y
    (winding-ring (λ p. p.x <ℤ x) x y (λ a b p q. not_crossed-right (segment a b) x y p q)) points subs
    (λ k d i. let at = held k d i in omega (arith, ints, at.right))))) (λ right.
    by_lt_z y b.t (λ h. absurd (absent (winding-all (λ p. y <ℤ p.y) x y
    (winding-ring (λ p. y <ℤ p.y) x y (λ a b p q. not_crossed-above (segment a b) x y p q)) points subs
    (λ k d i. let at = held k d i in omega (arith, ints, at.top))))) (λ top.
    by_lt_z b.b y (λ h. absurd (absent (winding-all (λ p. p.y ≤ℤ y) x y
    (winding-ring (λ p. p.y ≤ℤ y) x y (λ a b p q. not_crossed-below (segment a b) x y p q)) points subs
    (λ k d i. let at = held k d i in omega (arith, ints, at.bottom))))) (λ bottom.
    record { left = left; right = right; top = top; bottom = bottom }))))

-- what is filled lies within the bounds
pub fills-in_bounds : (rule : FillRule) (points : List Point) (subs : List Sub) (x y : ℤ)
    → Fills rule (edges_of points subs) x y → IsSomeAnd (bounds_of points) (λ b. Holds b x y)
fills-in_bounds rule [] subs x y filled =
    absurd (unfilled rule (edges_of [] subs) x y
    (winding-all (λ p. x <ℤ p.x) x y (winding-ring_left x y) [] subs (λ k d i. absurd (omega arith))) filled)
fills-in_bounds rule (p ∷ points) subs x y filled =
    fills-held rule (p ∷ points) subs x y _ (bounds_of-holds (p ∷ points)) filled
