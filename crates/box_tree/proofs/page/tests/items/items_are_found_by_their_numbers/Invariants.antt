use Rattle.box_tree.proofs.page.tests.items.items_are_found_by_their_numbers.Given as goal

abbrev pub ghosts-item_with : goal.ghosts-item_with
ghosts-item_with g a = record { name = a.blank.name; parts = a.blank.parts }
