use Rattle.box_tree.proofs.page.tests.a_child_stands_at_its_place.Given as goal

abbrev pub ghosts-children_with : goal.ghosts-children_with
ghosts-children_with g a = record { name = a.blank.name; parts = a.blank.parts }
