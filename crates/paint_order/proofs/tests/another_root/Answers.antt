use Rattle.std.proofs.Common.{◌∷◌, [], refl}
use Rattle.paint_order.specs.declared.entry.Entry.TheVariants.{Item, Sub}
use Rattle.paint_order.proofs.TestLemmas.{lists_at_first, lists_put, lists_under_root, whole-by_test, shallow-by_test, stand-by_test}
use Rattle.paint_order.proofs.tests.another_root.Goals as goal

pub assert_order-requires : goal.assert_order-requires
assert_order-requires g c =
    let start = lists_at_first c.in_ok-forest.forest c.reserve.new.self 3 1 c.in_ok-forest.ensures
    c.reserve.ensures.lists c.reserve.ensures.root c.in_ok-reserve.ensures.item_room c.in_ok-reserve.ensures.list_room in
    let one = lists_put 1 (Item 1 ∷ Item 2 ∷ []) start c.put_list.ensures.put c.in_ok-vec.ensures.items refl in
    let two = lists_put 0 (Item 0 ∷ Sub 1 ∷ []) one c.put_list-2.ensures.put c.in_ok-vec-2.ensures.items refl in
    let three = lists_put 0 (Item 0 ∷ []) two c.put_list-3.ensures.put c.in_ok-vec-3.ensures.items refl in
    let four = lists_put 1 (Item 1 ∷ Sub 0 ∷ Item 2 ∷ []) three c.put_list-4.ensures.put c.in_ok-vec-4.ensures.items refl in
    let five = lists_under_root 1 four c.set_root.ensures in
    record {
      whole = whole-by_test five refl;
      shallow = shallow-by_test 255 five refl;
      stand = stand-by_test five (1 ∷ 0 ∷ 2 ∷ []) refl;
    }
