-- One list more is taken.
use Rattle.std.proofs.Common.{◌<◌, ◌+◌, length, drop, get_or, subst, refl, arith}
use Rattle.std.proofs.lemmas.Bool.Decides.{nat_tests}
use Rattle.box_tree.specs.declared.items.Earlier.{Earlier}
use Rattle.box_tree.specs.Numbers.{numbers_of}
use Rattle.box_tree.proofs.ExchangeLemmas.{drop_at}
use Rattle.box_tree.proofs.FollowLemmas.{TakesListsUpTo, takes_list_so}
use Rattle.box_tree.proofs.items.Items.take_all.Goals as goal

pub loop-id-preserved : goal.loop-id-preserved
loop-id-preserved c =
    let ids = c.as_slice-id-items.result.now in
    let now = c.loop-id.self.items in
    let e : Earlier = record { id = get_or ids c.loop-id.id-index 0; list = c.fewer-list.result } in
    let some : 0 < length (numbers_of now e.id) = grind (arith, nat_tests, c.is_empty.ensures, c.if-is_empty.false, c.of.ensures) in
    takes_list_so c.args.self.now.items now c.fewer-list.new.self.items c.loop-id.earlier c.push_reserved.new.self ids (drop (c.loop-id.id-index + 1) ids) c.new.result.items e
    (subst (TakesListsUpTo c.args.self.now.items now c.loop-id.earlier ids) (drop_at ids c.loop-id.id-index _ 0 c.loop-id-test.true refl) c.loop-id.invariant)
    some c.fewer-list.ensures.numbers c.new.ensures.items c.fewer-list.ensures.had c.push_reserved.ensures.items c.push_reserved.ensures.len c.push_reserved.ensures.capacity
