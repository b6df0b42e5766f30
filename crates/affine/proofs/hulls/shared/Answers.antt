use Rattle.std.proofs.Common.{rules, arith, ◌≡◌, ◌∙◌, ◌^◌, ℤ, pos, neg_ℤ, ◌≤ℤ◌, ◌<ℤ◌, to_z, of_z, FitsSigned}
use Rattle.std.specs.Int.{w64, w128, int_max, int_min}
use Rattle.std.proofs.lemmas.Int.{ints, to_z-of_z}
use Rattle.affine.proofs.Bits.{read, widened}
use Rattle.affine.proofs.hulls.shared.Goals as goal

-- what is at least, or at most, an edge of 64 bits stays on that side of their range
at_least_edge :
    (edge f m : ℤ) → FitsSigned w64 edge → FitsSigned w128 m → f ≡ to_z w64 (of_z w64 edge) → read f ≤ℤ m →
    neg_ℤ (pos (2 ^ 63)) ≤ℤ read m
at_least_edge edge f m p r e h = let at = widened edge f p e in let there = to_z-of_z w128 m r in omega (arith, ints)

at_most_edge :
    (edge f m : ℤ) → FitsSigned w64 edge → FitsSigned w128 m → f ≡ to_z w64 (of_z w64 edge) → m ≤ℤ read f →
    read m <ℤ pos (2 ^ 63)
at_most_edge edge f m p r e h = let at = widened edge f p e in let there = to_z-of_z w128 m r in omega (arith, ints)

-- the greater and the lesser of an edge of 128 bits and one of 64, as the code computes them
greater-read :
    (a edge f m : ℤ) → FitsSigned w128 a → FitsSigned w64 edge → FitsSigned w128 m → f ≡ to_z w64 (of_z w64 edge) →
    m ≡ int_max (read a) (read f) → read m ≡ int_max a edge
greater-read a edge f m fa p fm e h = to_z-of_z w128 m fm ∙ rw (to_z-of_z w128 a fa, widened edge f p e) at h

lesser-read :
    (a edge f m : ℤ) → FitsSigned w128 a → FitsSigned w64 edge → FitsSigned w128 m → f ≡ to_z w64 (of_z w64 edge) →
    m ≡ int_min (read a) (read f) → read m ≡ int_min a edge
lesser-read a edge f m fa p fm e h = to_z-of_z w128 m fm ∙ rw (to_z-of_z w128 a fa, widened edge f p e) at h

pub some_rect-requires-clause-left : goal.some_rect-requires-clause-left
some_rect-requires-clause-left c =
    at_least_edge c.args.region.now.l c.from.result c.max-l.result (search rules) (search rules) c.from.ensures c.max-l.ensures.other_bound

pub some_rect-requires-clause-top : goal.some_rect-requires-clause-top
some_rect-requires-clause-top c =
    at_least_edge c.args.region.now.t c.from-2.result c.max-t.result (search rules) (search rules) c.from-2.ensures c.max-t.ensures.other_bound

pub some_rect-requires-clause-right : goal.some_rect-requires-clause-right
some_rect-requires-clause-right c =
    at_most_edge c.args.region.now.r c.from-3.result c.min-r.result (search rules) (search rules) c.from-3.ensures c.min-r.ensures.other_bound

pub some_rect-requires-clause-bottom : goal.some_rect-requires-clause-bottom
some_rect-requires-clause-bottom c =
    at_most_edge c.args.region.now.b c.from-4.result c.min-b.result (search rules) (search rules) c.from-4.ensures c.min-b.ensures.other_bound

-- each edge is the greater or the lesser of two
pub returns : goal.returns
returns c =
    let region = c.args.region.now in
    let across = c.args.across.now in
    let down = c.args.down.now in
    let l = greater-read across.from region.l c.from.result c.max-l.result (search rules) (search rules) (search rules) c.from.ensures c.max-l.ensures.value in
    let t = greater-read down.from region.t c.from-2.result c.max-t.result (search rules) (search rules) (search rules) c.from-2.ensures c.max-t.ensures.value in
    let r = lesser-read across.before region.r c.from-3.result c.min-r.result (search rules) (search rules) (search rules) c.from-3.ensures c.min-r.ensures.value in
    let b = lesser-read down.before region.b c.from-4.result c.min-b.result (search rules) (search rules) (search rules) c.from-4.ensures c.min-b.ensures.value in
    rw (l, t, r, b) at c.some_rect.ensures
