use Rattle.std.proofs.Common.{◌-◌, vec_len, length, ap, ◌∙◌, arith}
use Rattle.std.proofs.lemmas.List.{length-append, length-replicate}
use Rattle.std.proofs.Math.Nat.{le-max_left}
use Rattle.paint_order.specs.Lists.{list_under}
use Rattle.paint_order.proofs.TableLemmas.{placed-kept, placed-same, under-longer, there-longer}
use Rattle.paint_order.proofs.forest.Forest.reserve.Goals as goal

pub invariant_of-self : goal.invariant_of-self
invariant_of-self c = record {
  room = omega arith;
  placed = placed-kept _ _ _ c.self.invariant.placed c.reserve.ensures.kept;
  root_stands = c.self.invariant.root_stands;
}

pub invariant_of-self-in_err-lengthen : goal.invariant_of-self-in_err-lengthen
invariant_of-self-in_err-lengthen c =
    let same = c.in_err-lengthen.ensures.err in
    record {
      room = rw same (omega arith);
      placed = rw same (placed-kept _ _ _ c.self.invariant.placed c.reserve.ensures.kept);
      root_stands = rw same c.self.invariant.root_stands;
    }

pub invariant_of-self-2 : goal.invariant_of-self-2
invariant_of-self-2 c =
    let same = c.in_ok-lengthen.ensures.ok in
    record {
      room = rw same (simp (length-append, length-replicate) (omega (arith, c.in_ok-reserve.ensures.lists, c.self.inside.lists.ok, le-max_left c.args.lists (length c.self.inside.places.lists))));
      placed = placed-same c.self.inside.lists.items _ _
          (λ n. ap (λ lists. list_under lists n) same ∙ under-longer _ _ n)
          (placed-kept _ _ _ c.self.invariant.placed c.reserve.ensures.kept);
      root_stands = rw same (there-longer c.self.inside.lists.items (c.args.lists - vec_len c.self.inside.lists) c.self.inside.root c.self.invariant.root_stands);
    }
