use Rattle.std.proofs.Common.{refl, ◌∙◌}
use Rattle.svg_shapes.specs.Measures.{IsBoxMeasured}
use Rattle.script_lines.specs.Shapes.{fine_box_of, each_fine_box}
use Rattle.script_lines.proofs.EachLemmas.{each-step, each-holds}
use Rattle.script_lines.proofs.shapes.each_fine_box_from.Goals as goal

pub loop-item-preserved : goal.loop-item-preserved
loop-item-preserved c = record {
  told =
      each-step fine_box_of each_fine_box (λ d ds. refl) c.args.items.now c.loop-item.item-index c.item-item.result c.loop-item-test.true c.item-item.is
      c.loop-item.boxes.items _ c.in-Some.fine_box c.in-Some.ensures.value c.in_ok-push.ensures.items
      ∙ c.loop-item.invariant.told;
  in_range = each-holds IsBoxMeasured c.loop-item.boxes.items _ c.in-Some.fine_box c.loop-item.invariant.in_range c.in-Some.ensures.in_range c.in_ok-push.ensures.items;
}
