-- What stands in a list that is made of pieces joined end to end, and which of two elements comes earlier in it.
use Rattle.std.proofs.Common.{◌≡◌, ℕ, zero, suc, ◌<◌, Bool, true, ◌&&◌, ◌||◌, ◌⊎◌, inl, inr, List, [], ◌∷◌, ◌++◌, Some, eqb, slice_get, refl, ap, ◌∙◌, arith}
use Rattle.std.proofs.Math.Bool.{or-true}
use Rattle.std.proofs.lemmas.Bool.{or_cases, and_parts, and_from, false≢true}
use Rattle.std.proofs.lemmas.Option.{none-some, same_Some}
use Rattle.std.specs.List.{flat_map}
use Rattle.paint_order.specs.Order.{is_member, is_earlier}

pub or_first : (a b : Bool) → a ≡ true → (a || b) ≡ true
or_first a b e = ap (λ t. t || b) e

pub or_second : (a b : Bool) → b ≡ true → (a || b) ≡ true
or_second a b e = ap (λ t. a || t) e ∙ or-true a

-- ---- two lists

member-left : (x : ℕ) (xs ys : List ℕ) → is_member x xs ≡ true → is_member x (xs ++ ys) ≡ true
member-left x [] ys h = cc
member-left x (y ∷ xs) ys h =
    elim (or_cases (eqb y x) (is_member x xs) h) [
      | inl e ↦ or_first _ _ e
      | inr e ↦ or_second (eqb y x) _ (member-left x xs ys e)
    ]

member-right : (x : ℕ) (xs ys : List ℕ) → is_member x ys ≡ true → is_member x (xs ++ ys) ≡ true
member-right x [] ys h = h
member-right x (y ∷ xs) ys h = or_second (eqb y x) _ (member-right x xs ys h)

member-cases : (x : ℕ) (xs ys : List ℕ) → is_member x (xs ++ ys) ≡ true
    → (is_member x xs ≡ true) ⊎ (is_member x ys ≡ true)
member-cases x [] ys h = inr h
member-cases x (y ∷ xs) ys h =
    elim (or_cases (eqb y x) (is_member x (xs ++ ys)) h) [
      | inl e ↦ inl (or_first _ _ e)
      | inr e ↦ elim (member-cases x xs ys e) [
        | inl m ↦ inl (or_second (eqb y x) _ m)
        | inr m ↦ inr m
      ]
    ]

earlier-left : (i j : ℕ) (xs ys : List ℕ) → is_earlier i j xs ≡ true → is_earlier i j (xs ++ ys) ≡ true
earlier-left i j [] ys h = cc
earlier-left i j (x ∷ xs) ys h =
    elim (or_cases (eqb x i && is_member j xs) (is_earlier i j xs) h) [
      | inl e ↦
          let parts = and_parts (eqb x i) (is_member j xs) e in
          or_first _ _ (and_from (eqb x i) _ parts.0 (member-left j xs ys parts.1))
      | inr e ↦ or_second (eqb x i && is_member j (xs ++ ys)) _ (earlier-left i j xs ys e)
    ]

earlier-right : (i j : ℕ) (xs ys : List ℕ) → is_earlier i j ys ≡ true → is_earlier i j (xs ++ ys) ≡ true
earlier-right i j [] ys h = h
earlier-right i j (x ∷ xs) ys h = or_second (eqb x i && is_member j (xs ++ ys)) _ (earlier-right i j xs ys h)

earlier-across : (i j : ℕ) (xs ys : List ℕ) → is_member i xs ≡ true → is_member j ys ≡ true
    → is_earlier i j (xs ++ ys) ≡ true
earlier-across i j [] ys h g = cc
earlier-across i j (x ∷ xs) ys h g =
    elim (or_cases (eqb x i) (is_member i xs) h) [
      | inl e ↦ or_first _ _ (and_from (eqb x i) _ e (member-right j xs ys g))
      | inr e ↦ or_second (eqb x i && is_member j (xs ++ ys)) _ (earlier-across i j xs ys e g)
    ]

earlier-cases : (i j : ℕ) (xs ys : List ℕ) → is_earlier i j (xs ++ ys) ≡ true
    → (is_earlier i j xs ≡ true)
    ⊎ ((is_earlier i j ys ≡ true) ⊎ ((is_member i xs ≡ true) × (is_member j ys ≡ true)))
earlier-cases i j [] ys h = inr (inl h)
earlier-cases i j (x ∷ xs) ys h =
    elim (or_cases (eqb x i && is_member j (xs ++ ys)) (is_earlier i j (xs ++ ys)) h) [
      | inl e ↦
          let parts = and_parts (eqb x i) (is_member j (xs ++ ys)) e in
          elim (member-cases j xs ys parts.1) [
            | inl m ↦ inl (or_first _ _ (and_from (eqb x i) _ parts.0 m))
            | inr m ↦ inr (inr (or_first _ _ parts.0, m))
          ]
      | inr e ↦ elim (earlier-cases i j xs ys e) [
        | inl m ↦ inl (or_second (eqb x i && is_member j xs) _ m)
        | inr m ↦ elim m [
          | inl n ↦ inr (inl n)
          | inr n ↦ inr (inr (or_second (eqb x i) _ n.0, n.1))
        ]
      ]
    ]

-- ---- a piece for each element of a list

module _ {X : Type 0} (f : X → List ℕ) where
  pub member-piece : (x : ℕ) (es : List X) (k : ℕ) (e : X) → slice_get es k ≡ Some e → is_member x (f e) ≡ true
      → is_member x (flat_map f es) ≡ true
  member-piece x [] k e at h = absurd (none-some e at)
  member-piece x (d ∷ es) zero e at h =
      member-left x (f d) (flat_map f es) (rw (same_Some d e at) h)
  member-piece x (d ∷ es) (suc k) e at h = member-right x (f d) (flat_map f es) (member-piece x es k e at h)

  pub earlier-in_piece : (i j : ℕ) (es : List X) (k : ℕ) (e : X) → slice_get es k ≡ Some e
      → is_earlier i j (f e) ≡ true → is_earlier i j (flat_map f es) ≡ true
  earlier-in_piece i j [] k e at h = absurd (none-some e at)
  earlier-in_piece i j (d ∷ es) zero e at h =
      earlier-left i j (f d) (flat_map f es) (rw (same_Some d e at) h)
  earlier-in_piece i j (d ∷ es) (suc k) e at h =
      earlier-right i j (f d) (flat_map f es) (earlier-in_piece i j es k e at h)

  pub earlier-by_piece : (i j : ℕ) (es : List X) (k l : ℕ) (d e : X) → slice_get es k ≡ Some d
      → slice_get es l ≡ Some e → k < l → is_member i (f d) ≡ true → is_member j (f e) ≡ true
      → is_earlier i j (flat_map f es) ≡ true
  earlier-by_piece i j [] k l d e first second h p q = absurd (none-some d first)
  earlier-by_piece i j (c ∷ es) k zero d e first second h p q = absurd (omega arith)
  earlier-by_piece i j (c ∷ es) zero (suc l) d e first second h p q =
      earlier-across i j (f c) (flat_map f es) (rw (same_Some c d first) p) (member-piece j es l e second q)
  earlier-by_piece i j (c ∷ es) (suc k) (suc l) d e first second h p q =
      earlier-right i j (f c) (flat_map f es) (earlier-by_piece i j es k l d e first second (omega arith) p q)

  -- an element of a piece
  pub piece_of : (x : ℕ) (es : List X) → is_member x (flat_map f es) ≡ true
      → (k : ℕ) × (e : X) × (slice_get es k ≡ Some e) × (is_member x (f e) ≡ true)
  piece_of x [] h = absurd (false≢true h)
  piece_of x (e ∷ es) h =
      elim (member-cases x (f e) (flat_map f es) h) [
        | inl m ↦ (0, e, refl, m)
        | inr m ↦ let rest = piece_of x es m in (suc rest.0, rest.1, rest.2, rest.3)
      ]

  -- two elements, the first earlier: in one piece, or in two
  pub pieces_of : (i j : ℕ) (es : List X) → is_earlier i j (flat_map f es) ≡ true
      → ((k : ℕ) × (e : X) × (slice_get es k ≡ Some e) × (is_earlier i j (f e) ≡ true))
      ⊎ ((k : ℕ) × (l : ℕ) × (d : X) × (e : X) × (k < l) × (slice_get es k ≡ Some d) × (slice_get es l ≡ Some e)
      × (is_member i (f d) ≡ true) × (is_member j (f e) ≡ true))
  pieces_of i j [] h = absurd (false≢true h)
  pieces_of i j (e ∷ es) h =
      elim (earlier-cases i j (f e) (flat_map f es) h) [
        | inl m ↦ inl (0, e, refl, m)
        | inr m ↦ elim m [
          | inl n ↦ elim (pieces_of i j es n) [
            | inl p ↦ inl (suc p.0, p.1, p.2, p.3)
            | inr p ↦ inr (suc p.0, suc p.1, p.2, p.3, omega arith, p.5, p.6, p.7, p.8)
          ]
          | inr n ↦
              let later = piece_of j es n.1 in
              inr (0, suc later.0, e, later.1, omega arith, refl, later.2, n.0, later.3)
        ]
      ]
