use Rattle.std.proofs.Common.{◌≤◌, ◌^◌, ℕ, length, length-take, refl, ◌∙◌, arith}
use Rattle.hit_script.specs.Cutting.{counted_on}
use Rattle.hit_script.proofs.CutLaws.{same_counted, kept_more}
use Rattle.hit_script.proofs.cutter.LineCutter.count_all.Goals as goal

-- The room was taken when the cutter was made, so that no bytes are refused.
pub returns-clause-counted : goal.returns-clause-counted
unfolding counted_on
returns-clause-counted c =
    let line = c.self.inside.line in
    let kept = c.self.invariant in
    let within : length line.items ≤ 2 ^ 20 = omega (arith, kept.as_many, line.ok) in
    let ok = c.extend_from_slice.ensures.succeeds (omega (arith, kept.as_many, kept.has_room, c.min-kept.ensures, c.len-room.ensures, length-take {A = ℕ})) in
    let items = rw ok at c.extend_from_slice.ensures.items in
    rw (← c.self.view_is) (same_counted (items ∙ kept_more (2 ^ 20) c.min-kept.result line.items c.args.bytes.now within (omega (arith, line.ok, c.min-kept.ensures, c.len-room.ensures))) refl)
