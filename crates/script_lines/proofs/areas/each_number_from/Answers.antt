use Rattle.std.proofs.Common.{◌≡◌, ◌+◌, ℤ, ◌++◌, ◌∷◌, [], refl, ap, ◌∙◌, arith, FitsSigned, to_z, of_z}
use Rattle.std.proofs.lemmas.Int.{ints, to_z-of_z}
use Rattle.std.specs.Int.{w64}
use Rattle.image_maps.specs.Area.{IsNumber}
use Rattle.script_lines.specs.Areas.{area_number, each_number}
use Rattle.script_lines.proofs.EachLemmas.{each-step, each-holds}
use Rattle.script_lines.proofs.areas.each_number_from.Goals as goal

-- a number as it is read back from its bits
stored : (n : ℤ) → IsNumber n → to_z w64 (of_z w64 n) ≡ n
stored n number = let fits : FitsSigned w64 n = omega (arith, ints, number.within) in to_z-of_z w64 n fits

pub loop-item-preserved : goal.loop-item-preserved
loop-item-preserved c =
    let done = c.loop-item.numbers.items in
    let grows = c.in_ok-push.ensures.items ∙ ap (λ n. done ++ n ∷ []) (stored c.in-Some.number c.in-Some.ensures.in_range) in
    record {
      told =
          each-step area_number each_number (λ d ds. refl) c.args.items.now c.loop-item.item-index c.item-item.result c.loop-item-test.true c.item-item.is
          done _ c.in-Some.number c.in-Some.ensures.value grows
          ∙ c.loop-item.invariant.told;
      in_range = each-holds IsNumber done _ c.in-Some.number c.loop-item.invariant.in_range c.in-Some.ensures.in_range grows;
      count = c.in_ok-push.ensures.len ∙ ap (λ n. n + 1) c.loop-item.invariant.count;
    }
