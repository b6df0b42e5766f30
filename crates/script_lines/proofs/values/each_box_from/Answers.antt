use Rattle.std.proofs.Common.{refl, ◌∙◌}
use Rattle.box_tree.specs.Contents.{IsBoxInRange}
use Rattle.script_lines.specs.Command.{box_of, each_box}
use Rattle.script_lines.proofs.EachLemmas.{each-step, each-holds}
use Rattle.script_lines.proofs.values.each_box_from.Goals as goal

pub loop-item-preserved : goal.loop-item-preserved
loop-item-preserved c = record {
  told =
      each-step box_of each_box (λ d ds. refl) c.args.items.now c.loop-item.item-index c.item-item.result c.loop-item-test.true c.item-item.is
      c.loop-item.boxes.items _ c.in-Some.piece c.in-Some.ensures.value c.in_ok-push.ensures.items
      ∙ c.loop-item.invariant.told;
  in_range = each-holds IsBoxInRange c.loop-item.boxes.items _ c.in-Some.piece c.loop-item.invariant.in_range c.in-Some.ensures.in_range c.in_ok-push.ensures.items;
}
