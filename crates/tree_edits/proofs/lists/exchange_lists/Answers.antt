-- The parts of the exchange, one after another.
use Rattle.std.proofs.Common.{◌≢◌, ℕ, ◌<◌, subst, sym, ◌∙◌, arith}
use Rattle.tree_edits.proofs.ExchangeLemmas.{cleared-only, first-stands, root-stands, root-positive, touched-stand, touched-apart, exchanged}
use Rattle.tree_edits.proofs.lists.exchange_lists.Goals as goal

pub put_lists-requires-clause-room : goal.put_lists-requires-clause-room
put_lists-requires-clause-room g c = record {
  for_items = λ number is. subst (λ (room : ℕ). number < room) (sym c.clear_lists.ensures.item_room) (c.requires.room.for_items number is);
  for_lists = omega (arith, c.requires.room.for_lists, c.clear_lists.ensures.list_room);
}

pub put_lists-requires-clause-only : goal.put_lists-requires-clause-only
put_lists-requires-clause-only g c =
    cleared-only c.args.page.now.contents c.args.page.now.items c.args.forest.now c.args.touched.now c.args.fresh.items c.args.was_bare c.validity.ensures c.requires c.clear_lists.new.forest.lists c.clear_lists.ensures.lists

pub put_root-requires-clause-room : goal.put_root-requires-clause-room
put_root-requires-clause-room g c = omega (arith, c.requires.room.for_lists, c.clear_lists.ensures.list_room, c.put_lists.ensures.list_room, c.validity.ensures.next.0)

pub put_root-requires-clause-bare : goal.put_root-requires-clause-bare
put_root-requires-clause-bare g c =
    first-stands c.args.page.now.contents c.args.page.now.items c.args.forest.now c.args.touched.now c.args.fresh.items c.args.was_bare c.validity.ensures c.requires c.clear_lists.new.forest.lists c.clear_lists.ensures.lists c.put_lists.new.forest.lists c.put_lists.ensures.lists

pub put_root-requires-clause-positive : goal.put_root-requires-clause-positive
put_root-requires-clause-positive g c =
    root-positive c.args.page.now.contents c.args.page.now.items c.args.forest.now c.args.touched.now c.args.fresh.items c.args.was_bare c.validity.ensures c.requires c.clear_lists.new.forest.lists c.clear_lists.ensures.lists c.put_lists.new.forest.lists c.put_lists.ensures.lists

pub put_root-requires-clause-root : goal.put_root-requires-clause-root
put_root-requires-clause-root g c =
    root-stands c.args.page.now.contents c.args.page.now.items c.args.forest.now c.args.touched.now c.args.fresh.items c.args.was_bare c.validity.ensures c.requires c.clear_lists.new.forest.lists c.clear_lists.ensures.lists c.put_lists.new.forest.lists c.put_lists.ensures.lists

pub drop_lists-requires-clause-stand : goal.drop_lists-requires-clause-stand
drop_lists-requires-clause-stand g c =
    touched-stand c.args.page.now.contents c.args.page.now.items c.args.forest.now c.args.touched.now c.args.fresh.items c.args.was_bare c.validity.ensures c.requires c.clear_lists.new.forest.lists c.clear_lists.ensures.lists c.put_lists.new.forest.lists c.put_lists.ensures.lists
    c.put_root.new.forest.lists (c.put_root.ensures.first, c.put_root.ensures.others)

pub drop_lists-requires-clause-root : goal.drop_lists-requires-clause-root
drop_lists-requires-clause-root g c = λ id among plain.
    subst (λ (root : ℕ). id ≢ root) (sym c.put_root.ensures.root)
    (touched-apart c.args.page.now.contents c.args.page.now.items c.args.forest.now c.args.touched.now c.args.fresh.items c.args.was_bare c.validity.ensures c.requires c.clear_lists.new.forest.lists c.clear_lists.ensures.lists c.put_lists.new.forest.lists c.put_lists.ensures.lists
    c.put_root.new.forest.lists (c.put_root.ensures.first, c.put_root.ensures.others) id among plain)

pub returns : goal.returns
returns g c = record {
  root = c.drop_lists.ensures.root ∙ c.put_root.ensures.root;
  lists = exchanged c.args.page.now.contents c.args.page.now.items c.args.forest.now c.args.touched.now c.args.fresh.items c.args.was_bare c.validity.ensures c.requires c.clear_lists.new.forest.lists c.clear_lists.ensures.lists c.put_lists.new.forest.lists c.put_lists.ensures.lists
      c.put_root.new.forest.lists (c.put_root.ensures.first, c.put_root.ensures.others) c.drop_lists.new.forest.lists c.drop_lists.ensures.lists;
}
