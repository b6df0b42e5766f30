-- What is met below a node that isn't replaced.
use Rattle.std.proofs.Common.{ap, ◌++◌, ◌∙◌, sym, true, false, ℕ, Vec, Global}
use Rattle.stacking.specs.Painting.{is_block, is_float}
use Rattle.stacking.specs.OnPage.{gathered, block_ids, float_ids}
use Rattle.stacking.proofs.SeenLemmas.{met-seen}
use Rattle.stacking.proofs.reach.reached_from.Goals as goal
use Rattle.stacking.proofs.reach.reached_from.Goals.{then-not-is_replaced+in_ok-meet_below, else-not-is_replaced}

pub returns : goal.returns
returns c =
    let page = c.args.page.now.contents in
    let met = met-seen page c.requires.valid c.args.id c.read.result.now c.read.ensures in
    let items_of = λ (v : Vec ℕ Global). v.items in
    elim c.if-not-is_replaced.branch [
      | then-not-is_replaced+in_ok-meet_below w ↦
          let no = sym w.if-not-is_replaced.true ∙ c.is_replaced.ensures in
          record {
            blocks = ap items_of w.blocks-is ∙ w.in_ok-meet_below.ensures.blocks ∙ ap (λ xs. xs ++ gathered block_ids page c.args.id) c.new-blocks.ensures.items ∙ met is_block false no;
            floats = ap items_of w.floats-is ∙ w.in_ok-meet_below.ensures.floats ∙ ap (λ xs. xs ++ gathered float_ids page c.args.id) c.new-floats.ensures.items ∙ met is_float false no;
          }
      | else-not-is_replaced w ↦
          let yes = sym w.if-not-is_replaced.false ∙ c.is_replaced.ensures in
          record {
            blocks = ap items_of w.blocks-is ∙ c.new-blocks.ensures.items ∙ met is_block true yes;
            floats = ap items_of w.floats-is ∙ c.new-floats.ensures.items ∙ met is_float true yes;
          }
    ]
