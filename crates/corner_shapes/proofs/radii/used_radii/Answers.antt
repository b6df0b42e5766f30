use Rattle.std.proofs.Common.{◌∙◌, ap, sym, subst, ◌*◌, ◌^◌, ◌≡◌, ℕ, unsigned_abs, FitsSigned, w64}
use Rattle.std.proofs.lemmas.Int.{to_z-of_z}
use Rattle.corner_shapes.specs.Radii.{AreRadiiWithin}
use Rattle.corner_shapes.specs.Overlap.{Fraction, factor, used_radii_of, each, used_corners, AreApart}
use Rattle.corner_shapes.proofs.OverlapLemmas.{used_corners-apart, used_corners-kept, used_corners-within}
use Rattle.corner_shapes.proofs.radii.used_radii.Goals as goal

pub returns : goal.returns
returns c =
    let w = unsigned_abs c.args.w in
    let h = unsigned_abs c.args.h in
    let given = c.args.given.now in
    let fits_w : FitsSigned w64 c.args.w = c.ranges.w in
    let fits_h : FitsSigned w64 c.args.h = c.ranges.h in
    let width = simp to_z-of_z at c.unsigned_abs.ensures.value in
    let height = simp to_z-of_z at c.unsigned_abs-2.ensures.value in
    let sides = ap (λ (n : ℕ). factor n c.unsigned_abs-2.result given) width ∙ ap (λ (n : ℕ). factor w n given) height in
    let exact : c.reduced.result ≡ used_corners w h given =
    c.reduced.ensures ∙ ap (λ (f : Fraction). each (used_radii_of f) given) (c.factor_of.ensures ∙ sides) in
    record {
      exact = exact;
      apart = subst (AreApart (64 * w) (64 * h)) (sym exact) (used_corners-apart w h given);
      kept = λ apart. exact ∙ used_corners-kept w h given apart;
      within = subst (AreRadiiWithin (2 ^ 26)) (sym exact) (used_corners-within w h given c.requires.radii);
    }
