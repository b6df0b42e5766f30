-- Each entry that is left comes into its slot, and at the end none is left.
use Rattle.std.proofs.Common.{◌+◌, ℕ, List, length, Some, refl, sym, ap, subst, ◌∙◌, arith}
use Rattle.std.proofs.lemmas.List.{length-set}
use Rattle.spaces.specs.declared.table.entry.Entry.{Entry}
use Rattle.spaces.specs.Table.{entry_under, FitsIn}
use Rattle.spaces.proofs.TableLemmas.{put_all, put_all-is, put_all-step, fits-head, fits-tail}
use Rattle.spaces.proofs.table.put.Goals as goal

pub loop-id-init : goal.loop-id-init
loop-id-init g c =
    let all = c.into_iter-id-iterator.ensures.into_iter_gives.0 in
    record {
      can_next = tt;
      is_finite = tt;
      fits = subst (λ (change : List (ℕ × Entry)). FitsIn (length c.args.slots.now.items) change) (sym all) c.requires.fits;
      entries = λ x. ap (λ (change : List (ℕ × Entry)). put_all change x (entry_under c.args.slots.now.items x)) all;
      room = refl;
      cost = ap (λ (change : List (ℕ × Entry)). c.args.steps.now + length change) all;
    }

pub index_mut-requires : goal.index_mut-requires
index_mut-requires g c =
    let items = c.loop-id.slots.items in
    let left = subst (λ (change : List (ℕ × Entry)). FitsIn (length items) change) c.in-Some.ensures.steps c.loop-id.invariant.fits in
    omega (arith, c.loop-id.slots.ok.0, fits-head (length items) (c.in-Some.id, c.in-Some.entry) c.next.new.self left)

pub loop-id-preserved : goal.loop-id-preserved
loop-id-preserved g c =
    let items = c.loop-id.slots.items in
    let steps = c.in-Some.ensures.steps in
    let left = subst (λ (change : List (ℕ × Entry)). FitsIn (length items) change) steps c.loop-id.invariant.fits in
    let within = fits-head (length items) (c.in-Some.id, c.in-Some.entry) c.next.new.self left in
    let same = length-set items c.in-Some.id (Some c.in-Some.entry) in
    let fewer = ap (λ (change : List (ℕ × Entry)). length change) steps in
    let cost = c.loop-id.invariant.cost in
    record {
      can_next = tt;
      is_finite = tt;
      fits = subst (λ (room : ℕ). FitsIn room c.next.new.self) (sym same) (fits-tail (length items) (c.in-Some.id, c.in-Some.entry) c.next.new.self left);
      entries = λ x. put_all-step items c.loop-id.id-iterator c.next.new.self c.in-Some.id c.in-Some.entry steps within x ∙ c.loop-id.invariant.entries x;
      room = same ∙ c.loop-id.invariant.room;
      cost = omega (arith, c.tick.ensures, fewer, cost);
    }

pub returns-clause-entries : goal.returns-clause-entries
returns-clause-entries g c = λ x.
    sym (ap (λ (change : List (ℕ × Entry)). put_all change x (entry_under c.loop-id.slots.items x)) c.in-None.ensures.steps.0)
    ∙ c.loop-id.invariant.entries x
    ∙ put_all-is c.args.kept.entries x (entry_under c.args.slots.now.items x) c.requires.ordered

pub returns-clause-room : goal.returns-clause-room
returns-clause-room g c = c.loop-id.invariant.room

pub returns-clause-cost : goal.returns-clause-cost
returns-clause-cost g c =
    let none = ap (λ (change : List (ℕ × Entry)). length change) c.in-None.ensures.steps.0 in
    omega (arith, none, c.loop-id.invariant.cost)
