use Rattle.std.proofs.Common.{ℕ, ◌*◌, ◌^◌, ◌<◌, ◌≡◌, ℤ, pos, ◌*ℤ◌, ◌<ℤ◌, arith, ap, ◌∙◌, sym, subst}
use Prim.Native.Nat.{◌∣◌}
use Rattle.std.proofs.Math.Nat.{dvd_trans, mul-dvd-mul_right, dvd_of_mul-dvd-mul_right, eq-one_of_dvd-one, pos_of_dvd_of_pos}
use Rattle.std.specs.Prelude.{unsigned_abs}
use Rattle.std.proofs.lemmas.Int.{ints, unsigned_abs-mul}
use Rattle.fractions.proofs.FractionLemmas.{int_div-exact, positive_factor, factor-size}
use Rattle.affine.specs.declared.map.Parts.{Parts}
use Rattle.affine.specs.Gcd.{gcd, IsGcd-gcd}
use Rattle.affine.specs.Map.{DividesAll, IsLowest, IsWithin, IsWithinBound, IsMap, common_divisor, lowest_terms}

-- each part of m is that of n times g
pub record IsMultiple (m n : Parts) (g : ℤ) : Type 0 where
  pub a : n.a *ℤ g ≡ m.a
  pub b : n.b *ℤ g ≡ m.b
  pub c : n.c *ℤ g ≡ m.c
  pub d : n.d *ℤ g ≡ m.d
  pub e : n.e *ℤ g ≡ m.e
  pub f : n.f *ℤ g ≡ m.f
  pub q : n.q *ℤ g ≡ m.q

-- the common divisor divides all seven parts
pub DividesAll-common_divisor : (m : Parts) → DividesAll (common_divisor m) m
unfolding common_divisor
DividesAll-common_divisor m =
    let a = unsigned_abs m.a in
    let b = unsigned_abs m.b in
    let c = unsigned_abs m.c in
    let d = unsigned_abs m.d in
    let e = unsigned_abs m.e in
    let f = unsigned_abs m.f in
    let q = unsigned_abs m.q in
    let of_f = IsGcd-gcd f q in
    let of_e = IsGcd-gcd e (gcd f q) in
    let of_d = IsGcd-gcd d (gcd e (gcd f q)) in
    let of_c = IsGcd-gcd c (gcd d (gcd e (gcd f q))) in
    let of_b = IsGcd-gcd b (gcd c (gcd d (gcd e (gcd f q)))) in
    let of_a = IsGcd-gcd a (gcd b (gcd c (gcd d (gcd e (gcd f q))))) in
    let all = gcd a (gcd b (gcd c (gcd d (gcd e (gcd f q))))) in
    let in_c = dvd_trans all of_a.1 of_b.1 in
    let in_d = dvd_trans all in_c of_c.1 in
    let in_e = dvd_trans all in_d of_d.1 in
    let in_f = dvd_trans all in_e of_e.1 in
    record {
      a = of_a.0;
      b = dvd_trans all of_a.1 of_b.0;
      c = dvd_trans all in_c of_c.0;
      d = dvd_trans all in_d of_d.0;
      e = dvd_trans all in_e of_e.0;
      f = dvd_trans all in_f of_f.0;
      q = dvd_trans all in_f of_f.1;
    }

-- whatever divides all seven parts divides the common divisor
pub common_divisor-greatest : (m : Parts) (k : ℕ) → DividesAll k m → k ∣ common_divisor m
unfolding common_divisor
common_divisor-greatest m k h =
    let a = unsigned_abs m.a in
    let b = unsigned_abs m.b in
    let c = unsigned_abs m.c in
    let d = unsigned_abs m.d in
    let e = unsigned_abs m.e in
    let f = unsigned_abs m.f in
    let q = unsigned_abs m.q in
    (IsGcd-gcd a (gcd b (gcd c (gcd d (gcd e (gcd f q)))))).2 k h.a
    ((IsGcd-gcd b (gcd c (gcd d (gcd e (gcd f q))))).2 k h.b
    ((IsGcd-gcd c (gcd d (gcd e (gcd f q)))).2 k h.c
    ((IsGcd-gcd d (gcd e (gcd f q))).2 k h.d
    ((IsGcd-gcd e (gcd f q)).2 k h.e ((IsGcd-gcd f q).2 k h.f h.q)))))

-- it isn't 0, since the denominator isn't
pub common_divisor_positive : (m : Parts) → pos 0 <ℤ m.q → 0 < common_divisor m
common_divisor_positive m h = pos_of_dvd_of_pos (DividesAll-common_divisor m).q (omega (arith, ints))

-- the parts are those in lowest terms times their common divisor
pub IsMultiple-lowest_terms : (m : Parts) → IsMultiple m (lowest_terms m) (pos (common_divisor m))
unfolding lowest_terms
IsMultiple-lowest_terms m =
    let g = pos (common_divisor m) in
    let all = DividesAll-common_divisor m in
    record {
      a = int_div-exact m.a g all.a;
      b = int_div-exact m.b g all.b;
      c = int_div-exact m.c g all.c;
      d = int_div-exact m.d g all.d;
      e = int_div-exact m.e g all.e;
      f = int_div-exact m.f g all.f;
      q = int_div-exact m.q g all.q;
    }

-- a divisor of a factor times the other factor divides the product
dvd-product : (n m g : ℤ) (k : ℕ) → n *ℤ g ≡ m → k ∣ unsigned_abs n → k * unsigned_abs g ∣ unsigned_abs m
dvd-product n m g k e h =
    subst (λ s. k * unsigned_abs g ∣ s) (sym (unsigned_abs-mul n g) ∙ ap unsigned_abs e) (mul-dvd-mul_right k h (unsigned_abs g))

-- lowest terms are what their name says
pub IsLowest-lowest_terms : (m : Parts) → pos 0 <ℤ m.q → IsLowest (lowest_terms m)
IsLowest-lowest_terms m h =
    let n = lowest_terms m in
    let by = common_divisor m in
    let g = pos by in
    let times = IsMultiple-lowest_terms m in
    let some = common_divisor_positive m h in
    record {
      positive = positive_factor n.q g m.q times.q (omega (arith, ints)) h;
      coprime = λ k all.
          let multiple : DividesAll (k * by) m = record {
            a = dvd-product n.a m.a g k times.a all.a;
            b = dvd-product n.b m.b g k times.b all.b;
            c = dvd-product n.c m.c g k times.c all.c;
            d = dvd-product n.d m.d g k times.d all.d;
            e = dvd-product n.e m.e g k times.e all.e;
            f = dvd-product n.f m.f g k times.f all.f;
            q = dvd-product n.q m.q g k times.q all.q;
          } in
          let common : k * by ∣ 1 * by = subst (λ s. k * by ∣ s) (omega arith) (common_divisor-greatest m (k * by) multiple) in
          eq-one_of_dvd-one (dvd_of_mul-dvd-mul_right k some common);
    }

-- lowest terms are no wider
pub IsWithin-lowest_terms :
    (m : Parts) (matrix translation : ℕ) → pos 0 <ℤ m.q → IsWithin m matrix translation → IsWithin (lowest_terms m) matrix translation
IsWithin-lowest_terms m matrix translation h within =
    let n = lowest_terms m in
    let g = pos (common_divisor m) in
    let times = IsMultiple-lowest_terms m in
    let some : 0 < common_divisor m = common_divisor_positive m h in
    let positive : pos 0 <ℤ pos (common_divisor m) = omega (arith, ints) in
    record {
      a = omega (arith, factor-size n.a g m.a times.a positive, within.a);
      b = omega (arith, factor-size n.b g m.b times.b positive, within.b);
      c = omega (arith, factor-size n.c g m.c times.c positive, within.c);
      d = omega (arith, factor-size n.d g m.d times.d positive, within.d);
      e = omega (arith, factor-size n.e g m.e times.e positive, within.e);
      f = omega (arith, factor-size n.f g m.f times.f positive, within.f);
      q = omega (arith, factor-size n.q g m.q times.q positive, within.q);
    }

-- what is within the bound in lowest terms is a map
pub IsMap-lowest_terms : (m : Parts) → pos 0 <ℤ m.q → IsWithinBound m → IsMap (lowest_terms m)
IsMap-lowest_terms m h within = record {
  lowest = IsLowest-lowest_terms m h;
  bound = IsWithin-lowest_terms m (2 ^ 44) (2 ^ 70) h within;
}
