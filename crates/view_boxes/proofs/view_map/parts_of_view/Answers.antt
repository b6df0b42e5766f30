use Rattle.std.proofs.Common.{refl, ◌≡◌, ◌∙◌, ◌*ℤ◌, ◌<ℤ◌, pos, lit≤, rules}
use Rattle.std.specs.Int.{w64}
use Rattle.std.proofs.Math.Nat.{le_trans}
use Rattle.std.proofs.lemmas.Int.{to_z-of_z}
use Rattle.whole_numbers.proofs.Products.{mul-positive}
use mir.Val.{SFits}
use Rattle.affine.proofs.Bits.{answer_size, narrow, read, same_parts}
use Rattle.view_boxes.specs.Views.{scale_x, scale_y, side_x, side_y, doubled_translation}
use Rattle.view_boxes.proofs.Bits.{part-fits, part-read, part-size, part-positive}
use Rattle.view_boxes.proofs.view_map.parts_of_view.Goals as goal

pub overflow_mul-result : goal.overflow_mul-result
overflow_mul-result c = part-fits c.scale-scale_x.result c.scale-scale_x.ensures.size

pub overflow_mul-result-2 : goal.overflow_mul-result-2
overflow_mul-result-2 c = part-fits c.scale-scale_y.result c.scale-scale_y.ensures.size

-- each part is what its call answers, without the casts between
pub returns-clause-value : goal.returns-clause-value
returns-clause-value c =
    let x = c.args.x in
    let y = c.args.y in
    let w = c.args.w in
    let h = c.args.h in
    let view = c.args.view.now in
    let x_read = to_z-of_z w64 x c.ranges.x in
    let y_read = to_z-of_z w64 y c.ranges.y in
    let w_read = to_z-of_z w64 w c.ranges.w in
    let h_read = to_z-of_z w64 h c.ranges.h in
    let vx_fits : SFits w64 c.args.view.now.x = search rules in
    let vy_fits : SFits w64 c.args.view.now.y = search rules in
    let vw_fits : SFits w64 c.args.view.now.w = search rules in
    let vh_fits : SFits w64 c.args.view.now.h = search rules in
    let vx_read = to_z-of_z w64 view.x vx_fits in
    let vy_read = to_z-of_z w64 view.y vy_fits in
    let vw_read = to_z-of_z w64 view.w vw_fits in
    let vh_read = to_z-of_z w64 view.h vh_fits in
    let whole = rw (vw_read, vh_read) at c.area-one.ensures.value in
    let one = narrow c.area-one.result (le_trans c.area-one.ensures.size (lit≤ tt)) ∙ whole in
    let across =
    narrow c.area-across.result (le_trans c.area-across.ensures.size (lit≤ tt)) ∙ rw (w_read, vh_read) at c.area-across.ensures.value
    in
    let down = narrow c.area-down.result (le_trans c.area-down.ensures.size (lit≤ tt)) ∙ rw (h_read, vw_read) at c.area-down.ensures.value in
    let sx : c.scale-scale_x.result ≡ scale_x w h view = rw (across, down) at c.scale-scale_x.ensures.value in
    let sy : c.scale-scale_y.result ≡ scale_y w h view = rw (across, down) at c.scale-scale_y.ensures.value in
    let sx_read = narrow c.scale-scale_x.result (le_trans c.scale-scale_x.ensures.size (lit≤ tt)) ∙ sx in
    let sy_read = narrow c.scale-scale_y.result (le_trans c.scale-scale_y.ensures.size (lit≤ tt)) ∙ sy in
    let e : read c.doubled_translation.result ≡ doubled_translation (side_x view.align) x w view.x view.w (scale_x w h view) (view.w *ℤ view.h) =
    narrow c.doubled_translation.result (le_trans c.doubled_translation.ensures.size (lit≤ tt))
    ∙ rw (c.side_x.ensures, x_read, w_read, vx_read, vw_read, sx_read, one) at c.doubled_translation.ensures.value
    in
    let f : read c.doubled_translation-2.result ≡ doubled_translation (side_y view.align) y h view.y view.h (scale_y w h view) (view.w *ℤ view.h) =
    narrow c.doubled_translation-2.result (le_trans c.doubled_translation-2.ensures.size (lit≤ tt))
    ∙ rw (c.side_y.ensures, y_read, h_read, vy_read, vh_read, sy_read, one) at c.doubled_translation-2.ensures.value
    in
    same_parts
    (part-read c.scale-scale_x.result c.scale-scale_x.ensures.size ∙ rw sx refl)
    refl
    refl
    (part-read c.scale-scale_y.result c.scale-scale_y.ensures.size ∙ rw sy refl)
    e
    f
    (part-read c.area-one.result c.area-one.ensures.size ∙ rw whole refl)

pub returns-clause-size : goal.returns-clause-size
returns-clause-size c = record {
  a = part-size c.scale-scale_x.result c.scale-scale_x.ensures.size;
  b = lit≤ tt;
  c = lit≤ tt;
  d = part-size c.scale-scale_y.result c.scale-scale_y.ensures.size;
  e = answer_size c.doubled_translation.result (le_trans c.doubled_translation.ensures.size (lit≤ tt));
  f = answer_size c.doubled_translation-2.result (le_trans c.doubled_translation-2.ensures.size (lit≤ tt));
  q = part-size c.area-one.result c.area-one.ensures.size;
}

pub returns-clause-positive : goal.returns-clause-positive
returns-clause-positive c =
    let view = c.args.view.now in
    let vw_fits : SFits w64 c.args.view.now.w = search rules in
    let vh_fits : SFits w64 c.args.view.now.h = search rules in
    let whole = rw (to_z-of_z w64 view.w vw_fits, to_z-of_z w64 view.h vh_fits) at c.area-one.ensures.value in
    let some : pos 0 <ℤ c.area-one.result = rw whole (mul-positive view.w view.h c.requires.across c.requires.down) in
    part-positive c.area-one.result c.area-one.ensures.size some
