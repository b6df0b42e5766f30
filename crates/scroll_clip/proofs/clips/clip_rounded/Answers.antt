-- There is no clip just where the node doesn't clip.
use Rattle.std.proofs.Common.{◌≡◌, Option, false, sym, subst}
use Rattle.std.specs.Prelude.{IsNone, ◌↔◌}
use Rattle.corner_shapes.specs.declared.rounded.Rounded.{Rounded}
use Rattle.box_tree.specs.Containing.{clips}
use Rattle.spaces.proofs.SpaceLemmas.{is_there}
use Rattle.scroll_clip.proofs.ClipLemmas.{clip-none}
use Rattle.scroll_clip.proofs.clips.clip_rounded.Goals as goal

pub returns-clause-none : goal.returns-clause-none
returns-clause-none c =
    let page = c.args.page.now.contents in
    let own = is_there page c.args.id c.requires in
    subst (λ (o : Option Rounded). IsNone o ↔ (clips page c.args.id ≡ false)) (sym c.clip_with.ensures.clip) (clip-none page c.validity.ensures c.args.id own.node own.seen)
