use Rattle.box_tree.proofs.page.tests.reverts.an_edit_that_is_taken_back_leaves_the_page_as_it_was.Given as goal

abbrev pub ghosts-children_with : goal.ghosts-children_with
ghosts-children_with g a = record { name = a.blank.name; parts = a.blank.parts }
