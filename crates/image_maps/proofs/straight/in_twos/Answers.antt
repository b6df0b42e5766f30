use Rattle.std.proofs.Common.{rules, ◌≡◌, ◌+◌, ◌*◌, ◌/◌, ◌++◌, ◌∷◌, [], length, drop, get_or, pos, arith, ap, ◌∙◌, FitsSigned, w64}
use Rattle.std.proofs.lemmas.Int.{to_z-of_z}
use Rattle.image_maps.specs.Area.{in_twos}
use Rattle.image_maps.proofs.Corners.{twos-step, twos-end, none_more}
use Rattle.image_maps.proofs.straight.in_twos.Goals as goal

pub loop-k-preserved : goal.loop-k-preserved
loop-k-preserved c =
    let numbers = c.args.numbers.now in
    let k = c.loop-k.k in
    let fits_x : FitsSigned w64 (get_or numbers (2 * k) (pos 0)) = search rules in
    let fits_y : FitsSigned w64 (get_or numbers (2 * k + 1) (pos 0)) = search rules in
    let made = simp to_z-of_z at c.corner.ensures in
    let pushed = c.in_ok-push.ensures.items in
    ap (λ items. items ++ in_twos (drop (2 * (k + 1)) numbers))
    (pushed ∙ ap (λ p. c.loop-k.points.items ++ p ∷ []) made)
    ∙ twos-step numbers k c.loop-k.points.items c.loop-k-test.true c.loop-k.invariant

pub returns : goal.returns
returns c =
    let numbers = c.args.numbers.now in
    let last : c.loop-k.k ≡ length numbers / 2 = omega arith in
    none_more c.loop-k.points.items (in_twos (drop (2 * c.loop-k.k) numbers)) (in_twos numbers)
    (ap (λ i. in_twos (drop (2 * i) numbers)) last ∙ twos-end numbers) c.loop-k.invariant
