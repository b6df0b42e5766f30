-- The factor of the viewBox is what the viewport answers.
use Rattle.std.proofs.Common.{◌∙◌}
use Rattle.box_tree.specs.Kept.{label_of}
use Rattle.spaces.proofs.ViewLemmas.{viewed-none, viewed-some}
use Rattle.spaces.proofs.checked.viewed.Goals as goal

pub returns-in-Some : goal.returns-in-Some
returns-in-Some c = c.after_view.ensures ∙ viewed-some (label_of c.args.node.now) c.args.space c.in-Some.view c.in-Some.ensures

pub returns-in-None : goal.returns-in-None
returns-in-None c = viewed-none (label_of c.args.node.now) c.args.space c.in-None.ensures
