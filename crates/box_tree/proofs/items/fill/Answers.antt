-- One item more has its number.
use Rattle.std.proofs.Common.{sym, subst, arith}
use Rattle.box_tree.specs.Renumbered.{Gives}
use Rattle.box_tree.proofs.NumberLemmas.{fills_none, fills_room, fills_within, fills_more}
use Rattle.box_tree.proofs.items.fill.Goals as goal

pub loop-place-init : goal.loop-place-init
loop-place-init c = fills_none _ _ _ _ _ _ _ (sym c.len-place.ensures.value) (omega (arith, c.len-place.ensures.value, c.requires.fits))

pub item_at-requires : goal.item_at-requires
item_at-requires c = omega (arith, c.loop-place-test.true, c.requires.few)

pub give-number-requires-clause-room : goal.give-number-requires-clause-room
give-number-requires-clause-room c = omega (arith, fills_room _ _ _ _ _ _ _ _ _ _ c.requires.once c.loop-place.invariant _ c.requires.room c.loop-place-test.true, c.loop-place.invariant.given_room)

pub give-number-requires-clause-most : goal.give-number-requires-clause-most
give-number-requires-clause-most c = fills_room _ _ _ _ _ _ _ _ _ _ c.requires.once c.loop-place.invariant _ c.requires.most c.loop-place-test.true

pub give-number-requires-clause-within : goal.give-number-requires-clause-within
give-number-requires-clause-within c = fills_within _ _ _ _ _ _ _ _ _ _ c.requires.once c.loop-place.invariant

pub loop-place-preserved : goal.loop-place-preserved
loop-place-preserved c = fills_more _ _ _ _ _ _ _ _ _ _ c.requires.once c.loop-place.invariant c.give-number.result _ _ _ c.loop-place-test.true (subst (λ item. Gives item c.loop-place.given.items c.loop-place.free.items c.give-number.new.given.items c.give-number.new.free.items c.give-number.result) c.item_at.ensures c.give-number.ensures.gives) c.push_reserved.ensures.items c.push_reserved.ensures.capacity c.give-number.ensures.given_room c.give-number.ensures.free_room
