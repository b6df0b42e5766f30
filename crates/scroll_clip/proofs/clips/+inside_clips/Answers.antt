-- The clip of the containing block, where that is a node, and then the clips of that node.
use Rattle.std.proofs.Common.{◌≡◌, Option, Bool, true, false, inl, inr, rules, sym, ap, ◌∙◌, arith}
use Rattle.std.specs.Prelude.{◌&&◌}
use Rattle.std.proofs.lemmas.Int.{ints}
use mir.Syntax.{w64}
use mir.Val.{to_z, of_z}
use Rattle.corner_shapes.specs.declared.rounded.Rounded.{Rounded}
use Rattle.box_tree.specs.declared.containing.Holder.TheVariants.{Initial, Viewport as HolderViewport}
use Rattle.box_tree.specs.Contents.{IsWithin}
use Rattle.spaces.specs.declared.space.FinePoint.{FinePoint}
use Rattle.spaces.specs.Spaces.{local_point}
use Rattle.spaces.proofs.SpaceLemmas.{is_there, holder-there, holder-nearer}
use Rattle.spaces.proofs.TableFrameLemmas.{entry-local_point}
use Rattle.scroll_clip.specs.Clips.{clip_of, clip_holds, inside_clips}
use Rattle.scroll_clip.proofs.ClipLemmas.{inside-held, inside-unheld, fewer-held}
use Rattle.scroll_clip.proofs.clips.+inside_clips.Goals as goal

pub clip_of-clip-requires-clause-there : goal.clip_of-clip-requires-clause-there
clip_of-clip-requires-clause-there g t c =
    let page = c.args.page.now.contents in
    let own = is_there page c.args.id c.requires.there in
    let held = holder-there page c.validity.ensures c.args.id own.node own.seen c.in-Node.holder (sym c.containing_block-by.ensures ∙ c.in-Node.is) in
    search rules

pub inside_clips-requires : goal.inside_clips-requires
inside_clips-requires g t c κs within =
    let page = c.args.page.now.contents in
    let own = is_there page c.args.id c.requires.there in
    let by = sym c.containing_block-by.ensures ∙ c.in-Node.is in
    let nearer = holder-nearer page c.validity.ensures c.args.id own.node own.seen c.in-Node.holder by in
    let x_range : IsWithin 20 (to_z w64 (of_z w64 c.args.x)) = (omega (arith, ints, c.requires.x.0, c.requires.x.1), omega (arith, ints, c.requires.x.0, c.requires.x.1)) in
    let y_range : IsWithin 20 (to_z w64 (of_z w64 c.args.y)) = (omega (arith, ints, c.requires.y.0, c.requires.y.1), omega (arith, ints, c.requires.y.0, c.requires.y.1)) in
    (omega (arith, nearer), (within, (holder-there page c.validity.ensures c.args.id own.node own.seen c.in-Node.holder by, (c.requires.table, (x_range, y_range)))))

pub returns-then-clip_lets_in-clause-inside : goal.returns-then-clip_lets_in-clause-inside
returns-then-clip_lets_in-clause-inside g t c =
    let page = c.args.page.now.contents in
    let own = is_there page c.args.id c.requires.there in
    let holder = c.in-Node.holder in
    let by = sym c.containing_block-by.ensures ∙ c.in-Node.is in
    let x_is : to_z w64 (of_z w64 c.args.x) ≡ c.args.x = omega (arith, ints) in
    let y_is : to_z w64 (of_z w64 c.args.y) ≡ c.args.y = omega (arith, ints) in
    let lets_in = rw (x_is, y_is) at c.clip_lets_in.ensures.holds in
    let further = rw (x_is, y_is) at c.inside_clips.ensures.inside in
    let holds : clip_holds (clip_of page holder) (local_point page holder c.args.x c.args.y) ≡ true =
    ap (λ (clip : Option Rounded). clip_holds clip (local_point page holder c.args.x c.args.y)) (sym c.clip_of-clip.ensures.clip)
    ∙ ap (λ (at : Option FinePoint). clip_holds c.clip_of-clip.result at) (sym (entry-local_point c.args.spaces.now page holder c.args.x c.args.y c.requires.table))
    ∙ sym lets_in
    ∙ c.if-clip_lets_in.true in
    further
    ∙ sym (inside-held page c.validity.ensures c.args.id own.node own.seen c.args.x c.args.y holder by
    ∙ ap (λ (b : Bool). b && inside_clips page holder c.args.x c.args.y) holds)

pub returns-else-clip_lets_in-clause-inside : goal.returns-else-clip_lets_in-clause-inside
returns-else-clip_lets_in-clause-inside g t c =
    let page = c.args.page.now.contents in
    let own = is_there page c.args.id c.requires.there in
    let holder = c.in-Node.holder in
    let by = sym c.containing_block-by.ensures ∙ c.in-Node.is in
    let x_is : to_z w64 (of_z w64 c.args.x) ≡ c.args.x = omega (arith, ints) in
    let y_is : to_z w64 (of_z w64 c.args.y) ≡ c.args.y = omega (arith, ints) in
    let lets_in = rw (x_is, y_is) at c.clip_lets_in.ensures.holds in
    let holds : clip_holds (clip_of page holder) (local_point page holder c.args.x c.args.y) ≡ false =
    ap (λ (clip : Option Rounded). clip_holds clip (local_point page holder c.args.x c.args.y)) (sym c.clip_of-clip.ensures.clip)
    ∙ ap (λ (at : Option FinePoint). clip_holds c.clip_of-clip.result at) (sym (entry-local_point c.args.spaces.now page holder c.args.x c.args.y c.requires.table))
    ∙ sym lets_in
    ∙ c.if-clip_lets_in.false in
    c.if-clip_lets_in.false
    ∙ sym (inside-held page c.validity.ensures c.args.id own.node own.seen c.args.x c.args.y holder by
    ∙ ap (λ (b : Bool). b && inside_clips page holder c.args.x c.args.y) holds)

pub returns-in-Initial-clause-inside : goal.returns-in-Initial-clause-inside
returns-in-Initial-clause-inside g t c =
    let page = c.args.page.now.contents in
    let own = is_there page c.args.id c.requires.there in
    let outside = inside-unheld page c.validity.ensures c.args.id own.node own.seen c.args.x c.args.y in
    elim c.in-Initial.is [
      | inl is ↦ sym (outside Initial (sym c.containing_block-by.ensures ∙ is) (λ holder same. cc))
      | inr is ↦ sym (outside HolderViewport (sym c.containing_block-by.ensures ∙ is) (λ holder same. cc))
    ]

pub returns-then-clip_lets_in-clause-cost : goal.returns-then-clip_lets_in-clause-cost
returns-then-clip_lets_in-clause-cost g t c =
    let page = c.args.page.now.contents in
    let own = is_there page c.args.id c.requires.there in
    let fewer = fewer-held page c.validity.ensures c.args.id own.node own.seen c.in-Node.holder (sym c.containing_block-by.ensures ∙ c.in-Node.is) in
    omega (arith, fewer, c.clip_of-clip.ensures.cost, c.clip_lets_in.ensures.cost, c.inside_clips.ensures.cost)

pub returns-else-clip_lets_in-clause-cost : goal.returns-else-clip_lets_in-clause-cost
returns-else-clip_lets_in-clause-cost g t c =
    let page = c.args.page.now.contents in
    let own = is_there page c.args.id c.requires.there in
    let fewer = fewer-held page c.validity.ensures c.args.id own.node own.seen c.in-Node.holder (sym c.containing_block-by.ensures ∙ c.in-Node.is) in
    omega (arith, fewer, c.clip_of-clip.ensures.cost, c.clip_lets_in.ensures.cost)
