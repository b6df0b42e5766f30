use Rattle.std.proofs.Common.{◌≡◌, ℤ, pos, ◌+ℤ◌, ◌-ℤ◌, ◌*ℤ◌, neg_ℤ, arith, ap, ◌∙◌, sym, refl, subst}
use Rattle.std.proofs.lemmas.Int.{ints}
use borrow.Author.Differences.{same_in, same_out, sum_is_lem, neg_is}
use Rattle.std.proofs.Math.IntN.{*ℤ_comm}
use Rattle.whole_numbers.proofs.Products.{mul_assoc, add-mul, mul-add, neg-mul, mul-neg, mul_right_comm, mul_left_comm}
use Rattle.affine.specs.declared.map.Parts.{Parts}
use Rattle.affine.specs.Map.{matrix_product, product, lowest_terms, common_divisor}
use Rattle.affine.specs.Point.{Point, IsSamePoint, image, whole_point, determinant, preimage}
use Rattle.affine.proofs.MapLemmas.{IsMultiple, IsMultiple-lowest_terms}

-- a sum of three products whose first factors are multiples of g is a multiple of g
row-multiple :
    (a c e a' c' e' x y w g : ℤ) → a' *ℤ g ≡ a → c' *ℤ g ≡ c → e' *ℤ g ≡ e →
    a *ℤ x +ℤ c *ℤ y +ℤ e *ℤ w ≡ (a' *ℤ x +ℤ c' *ℤ y +ℤ e' *ℤ w) *ℤ g
row-multiple a c e a' c' e' x y w g ea ec ee =
    rw (← ea, ← ec, ← ee, mul_right_comm a' g x, mul_right_comm c' g y, mul_right_comm e' g w, add-mul, add-mul) refl

-- (s, h w) and (s g, h g w) are one fraction
fraction-multiple : (s h g w : ℤ) → s *ℤ (h *ℤ g *ℤ w) ≡ s *ℤ g *ℤ (h *ℤ w)
fraction-multiple s h g w =
    ap (λ t. s *ℤ t) (mul_right_comm h g w ∙ *ℤ_comm (h *ℤ w) g) ∙ sym (mul_assoc s g (h *ℤ w))

-- a multiple of a map's parts takes each point where the map does
pub IsSamePoint-multiple : (m n : Parts) (g : ℤ) → IsMultiple m n g → (at : Point) → IsSamePoint (image n at) (image m at)
IsSamePoint-multiple m n g times at = record {
  x = rw (row-multiple m.a m.c m.e n.a n.c n.e at.x at.y at.w g times.a times.c times.e, ← times.q)
      (fraction-multiple (n.a *ℤ at.x +ℤ n.c *ℤ at.y +ℤ n.e *ℤ at.w) n.q g at.w);
  y = rw (row-multiple m.b m.d m.f n.b n.d n.f at.x at.y at.w g times.b times.d times.f, ← times.q)
      (fraction-multiple (n.b *ℤ at.x +ℤ n.d *ℤ at.y +ℤ n.f *ℤ at.w) n.q g at.w);
}

pub IsSamePoint-lowest_terms : (m : Parts) (at : Point) → IsSamePoint (image (lowest_terms m) at) (image m at)
IsSamePoint-lowest_terms m at = IsSamePoint-multiple m (lowest_terms m) (pos (common_divisor m)) (IsMultiple-lowest_terms m) at

-- one coordinate of the image under a product of matrices
row-product :
    (a c e ra rb rc rd re rf rq x y w : ℤ) →
    (a *ℤ ra +ℤ c *ℤ rb) *ℤ x +ℤ (a *ℤ rc +ℤ c *ℤ rd) *ℤ y +ℤ (a *ℤ re +ℤ c *ℤ rf +ℤ e *ℤ rq) *ℤ w
    ≡ a *ℤ (ra *ℤ x +ℤ rc *ℤ y +ℤ re *ℤ w) +ℤ c *ℤ (rb *ℤ x +ℤ rd *ℤ y +ℤ rf *ℤ w) +ℤ e *ℤ (rq *ℤ w)
row-product a c e ra rb rc rd re rf rq x y w =
    simp (add-mul, mul-add, mul_assoc) (omega (arith, same_in, sum_is_lem))

-- the product of two matrices does the right one first
pub image-matrix_product : (left right : Parts) (at : Point) → image (matrix_product left right) at ≡ image left (image right at)
image-matrix_product left right at =
    rw (
      row-product left.a left.c left.e right.a right.b right.c right.d right.e right.f right.q at.x at.y at.w,
      row-product left.b left.d left.f right.a right.b right.c right.d right.e right.f right.q at.x at.y at.w,
      mul_assoc left.q right.q at.w,
    ) refl

pub IsSamePoint-product :
    (left right : Parts) (at : Point) → IsSamePoint (image (product left right) at) (image left (image right at))
IsSamePoint-product left right at =
    subst (λ p. IsSamePoint (image (product left right) at) p) (image-matrix_product left right at)
    (IsSamePoint-lowest_terms (matrix_product left right) at)

-- a row of the matrix by the preimage of a vector is the vector's coordinate times the determinant
row-preimage :
    (a b c d u v : ℤ) →
    a *ℤ (d *ℤ u -ℤ c *ℤ v) +ℤ c *ℤ (a *ℤ v -ℤ b *ℤ u) ≡ (a *ℤ d -ℤ b *ℤ c) *ℤ u
row-preimage a b c d u v =
    let e1 = mul_left_comm a c v in
    let e2 = mul_left_comm c b u in
    simp (add-mul, mul-add, mul_assoc, mul-neg, neg-mul) (omega (arith, same_in, same_out, sum_is_lem, neg_is))

row-preimage' :
    (a b c d u v : ℤ) →
    b *ℤ (d *ℤ u -ℤ c *ℤ v) +ℤ d *ℤ (a *ℤ v -ℤ b *ℤ u) ≡ (a *ℤ d -ℤ b *ℤ c) *ℤ v
row-preimage' a b c d u v =
    let e1 = mul_left_comm b d u in
    let e2 = mul_left_comm d a v in
    simp (add-mul, mul-add, mul_assoc, mul-neg, neg-mul) (omega (arith, same_in, same_out, sum_is_lem, neg_is))

-- what is left of a coordinate once the translation is added again
back : (s e w q x : ℤ) → s ≡ w *ℤ (q *ℤ x -ℤ e) → (s +ℤ e *ℤ w) *ℤ pos 1 ≡ x *ℤ (q *ℤ w)
back s e w q x h =
    let split = h ∙ mul-add w (q *ℤ x) (neg_ℤ e) ∙ ap (λ t. w *ℤ (q *ℤ x) +ℤ t) (mul-neg w e) in
    let comm = *ℤ_comm w e in
    let turned = mul_left_comm w q x ∙ ap (λ t. q *ℤ t) (*ℤ_comm w x) ∙ mul_left_comm q x w in
    let one : (s +ℤ e *ℤ w) *ℤ pos 1 ≡ s +ℤ e *ℤ w = omega (arith, ints) in
    one ∙ omega (arith, same_in, same_out, sum_is_lem, neg_is)

-- a map takes the preimage of a point to the point
pub IsSamePoint-preimage : (m : Parts) (x y : ℤ) → IsSamePoint (image m (preimage m x y)) (whole_point x y)
IsSamePoint-preimage m x y =
    let u = m.q *ℤ x -ℤ m.e in
    let v = m.q *ℤ y -ℤ m.f in
    let s = m.d *ℤ u -ℤ m.c *ℤ v in
    let t = m.a *ℤ v -ℤ m.b *ℤ u in
    record {
      x = back (m.a *ℤ s +ℤ m.c *ℤ t) m.e (determinant m) m.q x (row-preimage m.a m.b m.c m.d u v);
      y = back (m.b *ℤ s +ℤ m.d *ℤ t) m.f (determinant m) m.q y (row-preimage' m.a m.b m.c m.d u v);
    }
