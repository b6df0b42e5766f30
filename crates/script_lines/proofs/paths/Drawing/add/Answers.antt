-- What one subpath more makes is measured.
use Rattle.std.proofs.Common.{arith}
use Rattle.std.proofs.lemmas.Grind.{common_steps}
use Rattle.script_lines.specs.Shapes.{with_subpath}
use Rattle.script_lines.proofs.DrawingLemmas.{measured-from}
use Rattle.script_lines.proofs.paths.Drawing.add.Goals as goal

pub returns-clause-given : goal.returns-clause-given
unfolding with_subpath
returns-clause-given c is = grind (arith, common_steps)

pub returns-clause-measured : goal.returns-clause-measured
returns-clause-measured c is = measured-from c.args.self.now c.args.subpath.now _ c.requires.measured c.requires.placed (returns-clause-given c is)
