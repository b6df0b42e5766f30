use Rattle.std.proofs.Common.{◌+◌, ◌-◌, vec_len, length, arith}
use Rattle.std.proofs.lemmas.List.{length-set, length-replicate}
use Rattle.std.proofs.Math.Nat.{le-max_left}
use Rattle.paint_order.proofs.TableLemmas.{placed-first, there-first}
use Rattle.paint_order.proofs.forest.Forest.new.Goals as goal

pub invariant_of-result : goal.invariant_of-result
invariant_of-result c =
    let lists = c.in_ok-lengthen.ensures.ok in
    let fresh = c.new-lists.ensures.items in
    record {
      room = rw (lists, fresh, c.new.ensures.items) (simp (length-set, length-replicate) (omega (arith, c.in_ok-reserve.ensures.lists, le-max_left (c.args.root + 1) (length c.new-places.result.lists))));
      placed = rw (lists, fresh, c.new.ensures.items) (placed-first _ _ _);
      root_stands = rw (lists, fresh, c.new.ensures.items) (there-first (c.args.root + 1 - vec_len c.new-lists.result) c.args.root (omega (arith, c.new-lists.ensures.len)));
    }
