use Rattle.std.proofs.Common.{ℕ, List, ap₂, ◌∙◌}
use Rattle.std.proofs.lemmas.Result.{IfOk-weaker}
use Rattle.hit_script.specs.Load.{add_line}
use Rattle.hit_script.specs.declared.load.Sides.{Sides}
use Rattle.hit_script.proofs.load.section_line.Goals as goal

pub returns : goal.returns
returns c = IfOk-weaker c.add_line.result _ _ (λ line is. is ∙ ap₂ (λ (sides : Sides) (style : List ℕ). add_line 1 c.args.section sides style) c.view.ensures (c.deref.ensures ∙ c.in_ok-style.ensures)) c.add_line.ensures
