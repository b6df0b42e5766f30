-- The parent is found where it has an id.
use Rattle.std.proofs.Common.{sym}
use Rattle.stacking.proofs.PageLemmas.{root-seen, parent-there, parent-seen}
use Rattle.stacking.proofs.reading.parent_in.Goals as goal

pub read-requires-else-parent-eq0 : goal.read-requires-else-parent-eq0
read-requires-else-parent-eq0 c = parent-there c.args.page.now.contents c.requires.valid c.args.id c.read.result.now c.read.ensures c.if-parent-eq0.false

pub returns-then-parent-eq0 : goal.returns-then-parent-eq0
returns-then-parent-eq0 c = sym (root-seen c.args.page.now.contents c.requires.valid c.args.id c.read.result.now c.read.ensures c.if-parent-eq0.true)

pub returns-else-parent-eq0 : goal.returns-else-parent-eq0
returns-else-parent-eq0 c = sym (parent-seen c.args.page.now.contents c.requires.valid c.args.id c.read.result.now c.read.ensures c.if-parent-eq0.false c.read-else-parent-eq0.result.now c.read-else-parent-eq0.ensures)
