-- The numbers of a node of the page are within their limits.
use Rattle.scroll_clip.proofs.ClipLemmas.{curves-seen}
use Rattle.scroll_clip.proofs.tests.curves_of.Goals as goal

pub first_curves-requires : goal.first_curves-requires
first_curves-requires g c = curves-seen c.args.page.now.contents c.validity.ensures c.args.id c.node.result.now c.node.ensures.node
