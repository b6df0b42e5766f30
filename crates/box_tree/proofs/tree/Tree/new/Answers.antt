-- No nodes are kept for the empty page.
use Rattle.std.proofs.Common.{◌≡◌, None, [], sym, ap, arith}
use Rattle.std.proofs.lemmas.Int.{ints}
use mir.Syntax.{w64}
use mir.Val.{to_z, of_z}
use Rattle.box_tree.specs.Contents.{empty_page}
use Rattle.box_tree.specs.Forest.{node_count}
use Rattle.box_tree.specs.Kept.{node_with}
use Rattle.box_tree.specs.Totals.{sums_in}
use Rattle.box_tree.proofs.KeptPages.{grown-none, page_of-kept, kept-page_of, empty-kept}
use Rattle.box_tree.proofs.tree.Tree.new.Goals as goal

pub invariant_of-result : goal.invariant_of-result
invariant_of-result c =
    let w_is : to_z w64 (of_z w64 c.args.w) ≡ c.args.w = omega (arith, ints) in
    let h_is : to_z w64 (of_z w64 c.args.h) ≡ c.args.h = omega (arith, ints) in
    record {
      kept = rw (c.new.ensures, w_is, h_is) (kept-page_of (node_with []) None (empty_page c.args.w c.args.h) (empty-kept c.args.w c.args.h c.requires.width c.requires.height));
      count = rw c.new.ensures (sym (ap node_count (grown-none 256 (node_with []))));
      sums_are = rw c.new.ensures (sym (ap sums_in (grown-none 256 (node_with []))));
      fits = rw c.new.ensures (omega arith);
      placed = λ id positive below. absurd (omega (arith, positive, below));
    }

pub returns : goal.returns
returns c =
    let w_is : to_z w64 (of_z w64 c.args.w) ≡ c.args.w = omega (arith, ints) in
    let h_is : to_z w64 (of_z w64 c.args.h) ≡ c.args.h = omega (arith, ints) in
    rw (c.new.ensures, w_is, h_is) (page_of-kept (node_with []) None (empty_page c.args.w c.args.h) (empty-kept c.args.w c.args.h c.requires.width c.requires.height))
