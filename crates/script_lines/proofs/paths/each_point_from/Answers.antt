use Rattle.std.proofs.Common.{◌≡◌, ◌+◌, ◌*◌, ◌%◌, ◌<◌, All, [], ◌∷◌, ◌++◌, length, get_or, drop, Some, option_map, subst, sym, ap, ◌∙◌, arith}
use Rattle.std.proofs.lemmas.List.Elements.{All-push}
use Rattle.std.proofs.lemmas.Bool.Decides.{nat_tests}
use Rattle.serde_json.specs.View.{view, items_view}
use Rattle.poly_shapes.specs.Segments.{IsPlaced}
use Rattle.script_lines.specs.Shapes.{point_at, each_point}
use Rattle.script_lines.proofs.PointLemmas.{points-odd, points-step}
use Rattle.script_lines.proofs.paths.each_point_from.Goals as goal

pub returns-then-items-eq1-clause-value : goal.returns-then-items-eq1-clause-value
returns-then-items-eq1-clause-value c =
    let odd : length c.args.items.now % 2 ≡ 1 = grind (arith, nat_tests) in
    sym (points-odd c.args.items.now odd)

pub loop-k-preserved : goal.loop-k-preserved
loop-k-preserved c =
    let items = c.args.items.now in
    let k = c.loop-k.k in
    let in_list : 2 * k + 1 < length items = omega (arith, c.loop-k-test.true) in
    let a = c.index-items-k.result in
    let b = c.index-items-k-in-loop-k.result in
    let is : point_at (view (get_or items (2 * k) a)) (view (get_or items (2 * k + 1) b)) ≡ Some c.in-Some.point =
    ap (λ v. point_at (view v) (view (get_or items (2 * k + 1) b))) (sym c.index-items-k.is)
    ∙ ap (λ w. point_at (view a) (view w)) (sym c.index-items-k-in-loop-k.is)
    ∙ sym c.in-Some.ensures.value in
    record {
      told =
          ap (λ points. option_map (λ more. points ++ more) (each_point (items_view (drop (2 * (k + 1)) items)))) c.in_ok-push.ensures.items
          ∙ points-step items k a b in_list c.loop-k.points.items c.in-Some.point is
          ∙ c.loop-k.invariant.told;
      in_range =
          let grown : All IsPlaced (c.loop-k.points.items ++ c.in-Some.point ∷ []) = All-push IsPlaced _ _ c.loop-k.invariant.in_range c.in-Some.ensures.in_range in
          subst (All IsPlaced) (sym c.in_ok-push.ensures.items) grown;
    }
