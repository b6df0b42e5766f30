use Rattle.std.proofs.Common.{refl, rules, ◌≡◌, ◌≢◌, ◌^◌, ◌∙◌, ap, sym, pos, ◌*ℤ◌, of_z, FitsSigned, arith, lit≤}
use Rattle.std.proofs.Math.Nat.{le_trans}
use Rattle.std.specs.Int.{w64, w128}
use Rattle.std.proofs.lemmas.Int.{ints, to_z-of_z}
use Rattle.affine.proofs.Bits.{floor-read, narrow, narrow-size}
use Rattle.affine.proofs.PointLemmas.{IsSamePoint-preimage}
use Rattle.affine.proofs.FloorLemmas.{rounded_down-some}
use Rattle.affine.specs.Point.{local_point, determinant, preimage}
use Rattle.affine.proofs.points.local.Goals as goal

pub determinant_of-w-requires : goal.determinant_of-w-requires
determinant_of-w-requires c = rw c.parts-parts.ensures.value c.parts-parts.ensures.map.bound

pub preimage_x-requires : goal.preimage_x-requires
preimage_x-requires c = record {
  bound = rw c.parts-parts.ensures.value c.parts-parts.ensures.map.bound;
  x_size = rw (to_z-of_z w64 c.args.x c.ranges.x) c.requires.x_size;
  y_size = rw (to_z-of_z w64 c.args.y c.ranges.y) c.requires.y_size;
}

pub preimage_y-requires : goal.preimage_y-requires
preimage_y-requires c = record {
  bound = rw c.parts-parts.ensures.value c.parts-parts.ensures.map.bound;
  x_size = rw (to_z-of_z w64 c.args.x c.ranges.x) c.requires.x_size;
  y_size = rw (to_z-of_z w64 c.args.y c.ranges.y) c.requires.y_size;
}

pub floor_in_fine_units-requires : goal.floor_in_fine_units-requires
floor_in_fine_units-requires c =
    let w = narrow c.determinant_of-w.result (le_trans c.determinant_of-w.ensures.size (lit≤ tt)) in
    record {
      divisor = λ zero. c.if-w-eq0.false (ap (of_z w128) (sym w ∙ zero));
      n_size = narrow-size c.preimage_x.result (2 ^ 116) c.preimage_x.ensures.size (lit≤ tt);
      d_size = narrow-size c.determinant_of-w.result (2 ^ 116) c.determinant_of-w.ensures.size (lit≤ tt);
    }

pub floor_in_fine_units-requires-2 : goal.floor_in_fine_units-requires-2
floor_in_fine_units-requires-2 c =
    let w = narrow c.determinant_of-w.result (le_trans c.determinant_of-w.ensures.size (lit≤ tt)) in
    record {
      divisor = λ zero. c.if-w-eq0.false (ap (of_z w128) (sym w ∙ zero));
      n_size = narrow-size c.preimage_y.result (2 ^ 116) c.preimage_y.ensures.size (lit≤ tt);
      d_size = narrow-size c.determinant_of-w.result (2 ^ 116) c.determinant_of-w.ensures.size (lit≤ tt);
    }

pub returns-then-w-eq0-clause-value : goal.returns-then-w-eq0-clause-value
unfolding local_point
returns-then-w-eq0-clause-value c =
    let zero : c.determinant_of-w.result ≡ pos 0 = omega (arith, ints) in
    let det : determinant c.args.m.now ≡ pos 0 = rw (c.determinant_of-w.ensures.value, c.parts-parts.ensures.value) at zero in
    rw det refl

pub returns-then-w-eq0-clause-exact : goal.returns-then-w-eq0-clause-exact
returns-then-w-eq0-clause-exact c = IsSamePoint-preimage c.args.m.now c.args.x c.args.y

pub returns-clause-value : goal.returns-clause-value
unfolding local_point
returns-clause-value c =
    let at = preimage c.args.m.now c.args.x c.args.y in
    let x = to_z-of_z w64 c.args.x c.ranges.x in
    let y = to_z-of_z w64 c.args.y c.ranges.y in
    let parts = c.parts-parts.ensures.value in
    let w = rw parts at c.determinant_of-w.ensures.value in
    let left = rw (parts, x, y) at c.preimage_x.ensures.value in
    let top = rw (parts, x, y) at c.preimage_y.ensures.value in
    let read_w = narrow c.determinant_of-w.result (le_trans c.determinant_of-w.ensures.size (lit≤ tt)) in
    let read_left = narrow c.preimage_x.result (le_trans c.preimage_x.ensures.size (lit≤ tt)) in
    let read_top = narrow c.preimage_y.result (le_trans c.preimage_y.ensures.size (lit≤ tt)) in
    let floor_left = rw (read_left, left, read_w, w) at c.floor_in_fine_units.ensures.value in
    let floor_top = rw (read_top, top, read_w, w) at c.floor_in_fine_units-2.ensures.value in
    let fits_left : FitsSigned w128 c.floor_in_fine_units.result = search rules in
    let fits_top : FitsSigned w128 c.floor_in_fine_units-2.result = search rules in
    let some : determinant c.args.m.now ≢ pos 0 = λ zero. c.if-w-eq0.false (ap (of_z w128) (w ∙ zero)) in
    rw (to_z-of_z w128 c.floor_in_fine_units.result fits_left, floor_left, to_z-of_z w128 c.floor_in_fine_units-2.result fits_top, floor_top)
    (sym (rounded_down-some (pos 64 *ℤ at.x) (pos 64 *ℤ at.y) (determinant c.args.m.now) some))

pub returns-clause-floor_x : goal.returns-clause-floor_x
returns-clause-floor_x c =
    let left = rw (c.parts-parts.ensures.value, to_z-of_z w64 c.args.x c.ranges.x, to_z-of_z w64 c.args.y c.ranges.y) at c.preimage_x.ensures.value in
    floor-read c.preimage_x.result c.determinant_of-w.result c.floor_in_fine_units.result _ _ (search rules)
    (le_trans c.preimage_x.ensures.size (lit≤ tt)) left
    (le_trans c.determinant_of-w.ensures.size (lit≤ tt)) (rw c.parts-parts.ensures.value at c.determinant_of-w.ensures.value)
    c.floor_in_fine_units.ensures.floor

pub returns-clause-floor_y : goal.returns-clause-floor_y
returns-clause-floor_y c =
    let top = rw (c.parts-parts.ensures.value, to_z-of_z w64 c.args.x c.ranges.x, to_z-of_z w64 c.args.y c.ranges.y) at c.preimage_y.ensures.value in
    floor-read c.preimage_y.result c.determinant_of-w.result c.floor_in_fine_units-2.result _ _ (search rules)
    (le_trans c.preimage_y.ensures.size (lit≤ tt)) top
    (le_trans c.determinant_of-w.ensures.size (lit≤ tt)) (rw c.parts-parts.ensures.value at c.determinant_of-w.ensures.value)
    c.floor_in_fine_units-2.ensures.floor

pub returns-clause-exact : goal.returns-clause-exact
returns-clause-exact c = IsSamePoint-preimage c.args.m.now c.args.x c.args.y

pub returns-clause-size : goal.returns-clause-size
returns-clause-size c =
    let fits_left : FitsSigned w128 c.floor_in_fine_units.result = search rules in
    let fits_top : FitsSigned w128 c.floor_in_fine_units-2.result = search rules in
    record {
      first = rw (to_z-of_z w128 c.floor_in_fine_units.result fits_left) c.floor_in_fine_units.ensures.size;
      second = rw (to_z-of_z w128 c.floor_in_fine_units-2.result fits_top) c.floor_in_fine_units-2.ensures.size;
    }
