use Rattle.std.proofs.Common.{◌∷◌, [], None, refl}
use Rattle.paint_order.specs.declared.entry.Entry.TheVariants.{Item, Sub}
use Rattle.paint_order.proofs.TestLemmas.{lists_at_first, lists_put, lists_with, whole-by_test, shallow-by_test, stand-by_test}
use Rattle.paint_order.proofs.tests.dropped_list.Goals as goal

pub assert_order-requires : goal.assert_order-requires
assert_order-requires g c =
    let start = lists_at_first c.in_ok-forest.forest c.reserve.new.self 2 1 c.in_ok-forest.ensures
    c.reserve.ensures.lists c.reserve.ensures.root c.in_ok-reserve.ensures.item_room c.in_ok-reserve.ensures.list_room in
    let one = lists_put 1 (Item 1 ∷ []) start c.put_list.ensures.put c.in_ok-vec.ensures.items refl in
    let two = lists_put 0 (Sub 1 ∷ Item 0 ∷ []) one c.put_list-2.ensures.put c.in_ok-vec-2.ensures.items refl in
    let three = lists_put 0 (Item 0 ∷ []) two c.put_list-3.ensures.put c.in_ok-vec-3.ensures.items refl in
    let four = lists_with 1 None refl three c.drop_list.ensures.gone in
    let five = lists_put 0 (Item 0 ∷ Item 1 ∷ []) four c.put_list-4.ensures.put c.in_ok-vec-4.ensures.items refl in
    record {
      whole = whole-by_test five refl;
      shallow = shallow-by_test 255 five refl;
      stand = stand-by_test five (0 ∷ 1 ∷ []) refl;
    }
