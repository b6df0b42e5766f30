-- The clip is tested at the local point of its node.
use Rattle.std.proofs.Common.{◌≡◌, Option, Some, sym, ap, ◌∙◌, arith}
use Rattle.std.proofs.lemmas.Int.{ints}
use mir.Syntax.{w64}
use mir.Val.{to_z, of_z}
use Rattle.corner_shapes.specs.declared.rounded.Rounded.{Rounded}
use Rattle.spaces.specs.declared.space.FinePoint.{FinePoint}
use Rattle.spaces.specs.Table.{local_point_under}
use Rattle.scroll_clip.specs.Clips.{clip_holds}
use Rattle.scroll_clip.proofs.clips.clip_lets_in.Goals as goal

pub returns-in-Some-clause-holds : goal.returns-in-Some-clause-holds
returns-in-Some-clause-holds g c =
    let x_is : to_z w64 (of_z w64 c.args.x) ≡ c.args.x = omega (arith, ints) in
    let y_is : to_z w64 (of_z w64 c.args.y) ≡ c.args.y = omega (arith, ints) in
    let at_is = rw (x_is, y_is) at c.local_point.ensures.value in
    c.curve_holds.ensures
    ∙ ap (λ (at : Option FinePoint). clip_holds (Some c.in-Some.curve) at) at_is
    ∙ ap (λ (clip : Option Rounded). clip_holds clip (local_point_under c.args.spaces.now c.args.id c.args.x c.args.y)) (sym c.in-Some.is)
