use Rattle.std.proofs.Common.{ap, ◌∙◌, codes}
use Rattle.std.proofs.lemmas.Result.{IfOk-weaker}
use Rattle.hit_script.specs.Load.{add_line}
use Rattle.hit_script.specs.declared.load.Sides.{Sides}
use Rattle.hit_script.proofs.load.root_line.Goals as goal

pub returns : goal.returns
returns c = IfOk-weaker c.add_line.result _ _ (λ line is. is ∙ ap (λ (sides : Sides). add_line 0 0 sides (codes "{}")) c.view.ensures) c.add_line.ensures
