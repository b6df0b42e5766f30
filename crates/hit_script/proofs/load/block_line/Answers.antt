use Rattle.std.proofs.Common.{ℕ, ◌/◌, ◌%◌, List, ap₂, ◌∙◌}
use Rattle.std.proofs.lemmas.Result.{IfOk-weaker}
use Rattle.hit_script.specs.Load.{add_line, section_node}
use Rattle.hit_script.specs.declared.load.Sides.{Sides}
use Rattle.hit_script.proofs.load.block_line.Goals as goal

pub returns : goal.returns
returns c = IfOk-weaker c.add_line.result _ _ (λ line is. is ∙ ap₂ (λ (sides : Sides) (style : List ℕ). add_line (section_node (c.args.i / 100)) (c.args.i % 100) sides style) c.block_sides.ensures c.block_style.ensures) c.add_line.ensures
