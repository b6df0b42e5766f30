-- An edge that is turned round crosses the other way, so a ring that is turned round has the negative winding and the
-- same crossings.
use Rattle.std.proofs.Common.{◌≡◌, ℕ, suc, ◌-◌, ℤ, pos, negsuc, ◌+ℤ◌, neg_ℤ, int_lt, int_le, Bool, true, false, ◌&&◌, ◌||◌, cond, List, [], ◌∷◌, ◌++◌, reverse, length, Some, slice_get, get_or, arith, refl, ap, sym, ◌∙◌}
use Rattle.std.proofs.lemmas.Int.{ints}
use Rattle.std.proofs.lemmas.Grind.{reverse_onto}
use Rattle.std.proofs.lemmas.Option.{slice_get-get_or}
use Rattle.poly_shapes.specs.declared.point.Point.{Point}
use Rattle.poly_shapes.specs.declared.segment.Segment.{Segment}
use Rattle.poly_shapes.specs.Segments.{across, path_from, path_back_from, last_point, ring}
use Rattle.poly_shapes.specs.Fill.{crosses_down, crosses_up, edge_winding, edge_crossings, winding, crossings}
use Rattle.whole_numbers.proofs.Products.{differences-mul}

abbrev pub turned : Segment → Segment
turned e = record { from = e.to; to = e.from }

across-turned : (e : Segment) (x y : ℤ) → across (turned e) x y ≡ neg_ℤ (across e x y)
across-turned e x y =
    let a = differences-mul e.to.x e.from.x y e.from.y in
    let b = differences-mul x e.from.x e.to.y e.from.y in
    let c = differences-mul e.from.x e.to.x y e.to.y in
    let d = differences-mul x e.to.x e.from.y e.to.y in
    omega (arith, ints)

above-neg : (k : ℤ) → int_lt (pos 0) (neg_ℤ k) ≡ int_lt k (pos 0)
above-neg k = grind (arith, ints)

below-neg : (k : ℤ) → int_lt (neg_ℤ k) (pos 0) ≡ int_lt (pos 0) k
below-neg k = grind (arith, ints)

pub crosses_down-turned : (e : Segment) (x y : ℤ) → crosses_down (turned e) x y ≡ crosses_up e x y
crosses_down-turned e x y = rw (across-turned e x y, above-neg (across e x y)) refl

crosses_up-turned : (e : Segment) (x y : ℤ) → crosses_up (turned e) x y ≡ crosses_down e x y
crosses_up-turned e x y = rw (across-turned e x y, below-neg (across e x y)) refl

-- no edge crosses both ways
pub not_both : (a b y : ℤ) (p q : Bool) → (int_le a y && int_lt y b) && p ≡ true → (int_le b y && int_lt y a) && q ≡ false
not_both a b y p q h = grind (arith, ints)

winding_of-turned : (down up : Bool) → (down ≡ true → up ≡ false)
    → cond up (pos 1) (cond down (negsuc 0) (pos 0)) ≡ neg_ℤ (cond down (pos 1) (cond up (negsuc 0) (pos 0)))
winding_of-turned true up h = let no : up ≡ false = h refl in rw no refl
winding_of-turned false true h = refl
winding_of-turned false false h = refl

crossings_of-turned : (down up : Bool) → (let n : ℕ = cond (up || down) 1 0 in n ≡ cond (down || up) 1 0)
crossings_of-turned true true = refl
crossings_of-turned true false = refl
crossings_of-turned false true = refl
crossings_of-turned false false = refl

pub edge_winding-turned : (e : Segment) (x y : ℤ) → edge_winding (turned e) x y ≡ neg_ℤ (edge_winding e x y)
edge_winding-turned e x y =
    rw (crosses_down-turned e x y, crosses_up-turned e x y)
    (winding_of-turned (crosses_down e x y) (crosses_up e x y)
    (not_both e.from.y e.to.y y (int_lt (pos 0) (across e x y)) (int_lt (across e x y) (pos 0))))

edge_crossings-turned : (e : Segment) (x y : ℤ) → edge_crossings (turned e) x y ≡ edge_crossings e x y
edge_crossings-turned e x y =
    rw (crosses_down-turned e x y, crosses_up-turned e x y) (crossings_of-turned (crosses_down e x y) (crosses_up e x y))

-- any sum over segments
abbrev pub total : (Segment → ℤ) → List Segment → ℤ
total f [] = pos 0
total f (e ∷ es) = f e +ℤ total f es

abbrev segment : Point → Point → Segment
segment a b = record { from = a; to = b }

-- the sum along a path that goes on to one more point, after two
total-longer : (f : Segment → ℤ) (a : Point) (points : List Point) (b c : Point)
    → total f (path_from a ((points ++ b ∷ []) ++ c ∷ [])) ≡ total f (path_from a (points ++ b ∷ [])) +ℤ f (segment b c)
total-longer f a [] b c = omega (arith, ints)
total-longer f a (p ∷ points) b c = let rest = total-longer f p points b c in omega (arith, ints)

reverse-cons : (p : Point) (points : List Point) → reverse (p ∷ points) ≡ reverse points ++ p ∷ []
reverse-cons p points = reverse_onto points p []

-- the sum along a path from the one point to the other is that of the turned segments on the way back
total-turned : (f g : Segment → ℤ) (same : (e : Segment) → f (turned e) ≡ g e) (a b : Point) (points : List Point)
    → total f (path_from b (reverse points ++ a ∷ [])) ≡ total g (path_from a (points ++ b ∷ []))
total-turned f g same a b [] = let one = same (segment a b) in omega (arith, ints)
total-turned f g same a b (p ∷ points) =
    let back = total-turned f g same p b points in
    let longer = total-longer f b (reverse points) p a in
    let one = same (segment a p) in
    let unrolled = reverse-cons p points in
    ap (λ (ps : List Point). total f (path_from b (ps ++ a ∷ []))) unrolled ∙ omega (arith, ints)

pub last_point-cons : (q p : Point) (points : List Point) → last_point (q ∷ p ∷ points) ≡ last_point (p ∷ points)
last_point-cons q p points =
    let here : length (q ∷ p ∷ points) - 1 ≡ suc (length points) = omega arith in
    let there : length (p ∷ points) - 1 ≡ length points = omega arith in
    ap (λ i. slice_get (q ∷ p ∷ points) i) here ∙ sym (ap (λ i. slice_get (p ∷ points) i) there)

last_point-snoc : (points : List Point) (p : Point) → last_point (points ++ p ∷ []) ≡ Some p
last_point-snoc [] p = refl
last_point-snoc (q ∷ []) p = last_point-cons q p []
last_point-snoc (q ∷ next ∷ points) p = last_point-cons q next (points ++ p ∷ []) ∙ last_point-snoc (next ∷ points) p

pub last_point-there : (p : Point) (points : List Point)
    → last_point (p ∷ points) ≡ Some (get_or (p ∷ points) (length (p ∷ points) - 1) p)
last_point-there p points = slice_get-get_or (p ∷ points) (length (p ∷ points) - 1) p (omega arith)

-- a ring round its first point: from it through the others back to it
total-ring : (f : Segment → ℤ) (q p : Point) (points : List Point)
    → total f (path_from q (points ++ p ∷ []))
    ≡ total f (path_from q points) +ℤ total f (path_back_from (last_point (q ∷ points)) (p ∷ []))
total-ring f q p [] = omega (arith, ints)
total-ring f q p (next ∷ points) =
    let rest = total-ring f next p points in
    let last = ap (λ end. total f (path_back_from end (p ∷ []))) (last_point-cons q next points) in
    omega (arith, ints)

total-closed : (f : Segment → ℤ) (p : Point) (points : List Point) (last : Point) → last_point (p ∷ points) ≡ Some last
    → total f (ring (p ∷ points))
    ≡ total f (path_from p points) +ℤ total f (path_back_from (last_point (p ∷ points)) (p ∷ []))
total-closed f p points last e = rw e (omega (arith, ints))

total-turned_ring : (f g : Segment → ℤ) (same : (e : Segment) → f (turned e) ≡ g e) (points : List Point)
    → total f (ring (reverse points)) ≡ total g (ring points)
total-turned_ring f g same [] = refl
total-turned_ring f g same (p ∷ points) =
    let unrolled = reverse-cons p points in
    let back = total-turned f g same p p points in
    let there = total-ring g p p points in
    let closed = total-closed g p points _ (last_point-there p points) in
    ap (λ (ps : List Point). total f (ring ps)) unrolled
    ∙ (ap (λ end. total f (path_back_from end (reverse points ++ p ∷ []))) (last_point-snoc (reverse points) p)
    ∙ (back ∙ (there ∙ sym closed)))

winding_is-total : (edges : List Segment) (x y : ℤ) → winding edges x y ≡ total (λ e. edge_winding e x y) edges
winding_is-total [] x y = refl
winding_is-total (e ∷ edges) x y = ap (λ w. edge_winding e x y +ℤ w) (winding_is-total edges x y)

total-neg : (f : Segment → ℤ) (edges : List Segment) → total (λ e. neg_ℤ (f e)) edges ≡ neg_ℤ (total f edges)
total-neg f [] = omega (arith, ints)
total-neg f (e ∷ edges) = let rest = total-neg f edges in omega (arith, ints)

crossings_is-total : (edges : List Segment) (x y : ℤ) → pos (crossings edges x y) ≡ total (λ e. pos (edge_crossings e x y)) edges
crossings_is-total [] x y = refl
crossings_is-total (e ∷ edges) x y = let rest = crossings_is-total edges x y in omega (arith, ints)

pub winding-turned : (points : List Point) (x y : ℤ) → winding (ring (reverse points)) x y ≡ neg_ℤ (winding (ring points) x y)
winding-turned points x y =
    let w : Segment → ℤ = λ e. edge_winding e x y in
    winding_is-total (ring (reverse points)) x y
    ∙ (total-turned_ring w (λ e. neg_ℤ (w e)) (λ e. edge_winding-turned e x y) points
    ∙ (total-neg w (ring points) ∙ ap neg_ℤ (sym (winding_is-total (ring points) x y))))

pub crossings-turned : (points : List Point) (x y : ℤ) → crossings (ring (reverse points)) x y ≡ crossings (ring points) x y
crossings-turned points x y =
    let c : Segment → ℤ = λ e. pos (edge_crossings e x y) in
    let back = crossings_is-total (ring (reverse points)) x y in
    let there = crossings_is-total (ring points) x y in
    let same = total-turned_ring c c (λ e. ap pos (edge_crossings-turned e x y)) points in
    omega (arith, ints)
