use Rattle.std.proofs.Common.{◌+◌, refl, ap, ◌∙◌}
use Rattle.computed_style.specs.Ranges.{IsFunctionInRange}
use Rattle.script_lines.specs.Transform.{function_of, each_function}
use Rattle.script_lines.proofs.EachLemmas.{each-step, each-holds}
use Rattle.script_lines.proofs.transform.each_function_from.Goals as goal

pub loop-item-preserved : goal.loop-item-preserved
loop-item-preserved c = record {
  told =
      each-step function_of each_function (λ d ds. refl) c.args.items.now c.loop-item.item-index c.item-item.result c.loop-item-test.true c.item-item.is
      c.loop-item.functions.items _ c.in-Some.function c.in-Some.ensures.value c.in_ok-push.ensures.items
      ∙ c.loop-item.invariant.told;
  in_range = each-holds IsFunctionInRange c.loop-item.functions.items _ c.in-Some.function c.loop-item.invariant.in_range c.in-Some.ensures.in_range c.in_ok-push.ensures.items;
  count = c.in_ok-push.ensures.len ∙ ap (λ n. n + 1) c.loop-item.invariant.count;
}
