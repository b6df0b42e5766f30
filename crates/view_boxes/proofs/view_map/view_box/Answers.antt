-- The map is the one of the parts, within the bound, or past it.
use Rattle.std.proofs.Common.{refl, false, true, ◌≡◌, ◌∙◌, ap, sym, subst}
use Rattle.std.specs.Int.{w64}
use Rattle.std.proofs.lemmas.Int.{to_z-of_z}
use Rattle.affine.specs.Map.{lowest_terms, IsWithinBound}
use Rattle.view_boxes.specs.Views.{parts_of}
use Rattle.view_boxes.proofs.view_map.view_box.Goals as goal

false_is_not_true : false ≡ true → ⊥
false_is_not_true e = cc

pub returns-in-Some : goal.returns-in-Some
returns-in-Some c =
    let w_read = to_z-of_z w64 c.args.w c.ranges.w in
    let h_read = to_z-of_z w64 c.args.h c.ranges.h in
    let port = c.args.port.now in
    let parts : c.parts_of.result ≡ parts_of port.x port.y c.args.w c.args.h port.view = rw (w_read, h_read) at c.parts_of.ensures.value in
    let enabled = rw (w_read, h_read) at c.if-is_disabled.ensures in
    let within : IsWithinBound (lowest_terms c.parts_of.result) = c.in-Some.ensures.bound.0 refl in
    (sym enabled, (c.in-Some.ensures.value ∙ ap lowest_terms parts, subst (λ m. IsWithinBound (lowest_terms m)) parts within))

pub returns-in-None : goal.returns-in-None
returns-in-None c =
    let w_read = to_z-of_z w64 c.args.w c.ranges.w in
    let h_read = to_z-of_z w64 c.args.h c.ranges.h in
    let port = c.args.port.now in
    let parts : c.parts_of.result ≡ parts_of port.x port.y c.args.w c.args.h port.view = rw (w_read, h_read) at c.parts_of.ensures.value in
    let enabled = rw (w_read, h_read) at c.if-is_disabled.ensures in
    let nothing : IsWithinBound (lowest_terms (parts_of port.x port.y c.args.w c.args.h port.view)) → ⊥ =
    λ within. false_is_not_true (c.in-None.ensures.bound.1 (subst (λ m. IsWithinBound (lowest_terms m)) (sym parts) within))
    in
    (sym enabled, nothing)
