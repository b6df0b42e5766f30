-- The border curve inside the borders.
use Rattle.std.proofs.Common.{◌≡◌, sym, ap, ◌∙◌, subst}
use Rattle.corner_shapes.specs.declared.rounded.Edges.{Edges}
use Rattle.corner_shapes.specs.declared.rounded.Rounded.{Rounded}
use Rattle.corner_shapes.specs.Curve.{padding_curve as inside_borders, IsMeasured}
use Rattle.box_tree.specs.Kept.{label_of}
use Rattle.scroll_clip.specs.Curves.{border_curve, padding_curve}
use Rattle.scroll_clip.proofs.CurveLemmas.{borders-within, padding-measured}
use Rattle.scroll_clip.proofs.curves.padding_curve.Goals as goal

pub returns : goal.returns
unfolding padding_curve
returns c =
    let n = label_of c.args.node.now in
    let box = c.args.piece.now in
    let curve : c.inner.result ≡ padding_curve n box =
    c.inner.ensures
    ∙ ap (λ (b : Rounded). inside_borders b c.borders.result) c.border_curve.ensures.curve
    ∙ ap (λ (e : Edges). inside_borders (border_curve n box) e) c.borders.ensures.widths in
    record {
      curve = curve;
      measured = subst IsMeasured (sym curve) (padding-measured n box c.requires.piece (subst IsMeasured c.border_curve.ensures.curve c.border_curve.ensures.measured) (borders-within n c.requires.node.border));
    }
