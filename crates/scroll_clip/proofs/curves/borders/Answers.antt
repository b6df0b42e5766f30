-- The widths are those that the node declares.
use Rattle.box_tree.specs.Kept.{label_of}
use Rattle.spaces.specs.Spaces.{top_border, right_border, bottom_border, left_border}
use Rattle.spaces.proofs.WidthLemmas.{side-at}
use Rattle.scroll_clip.proofs.CurveLemmas.{width-fits}
use Rattle.scroll_clip.proofs.curves.borders.Goals as goal

pub returns-clause-within : goal.returns-clause-within
returns-clause-within c =
    let n = label_of c.args.node.now in
    record {
      top = width-fits c.top_border.result (top_border n) c.top_border.ensures (side-at n.style.border 0 c.requires);
      right = width-fits c.right_border.result (right_border n) c.right_border.ensures (side-at n.style.border 1 c.requires);
      bottom = width-fits c.bottom_border.result (bottom_border n) c.bottom_border.ensures (side-at n.style.border 2 c.requires);
      left = width-fits c.left_border.result (left_border n) c.left_border.ensures (side-at n.style.border 3 c.requires);
    }
