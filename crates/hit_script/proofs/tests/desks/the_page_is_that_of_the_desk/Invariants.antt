use Rattle.hit_script.proofs.tests.desks.the_page_is_that_of_the_desk.Given as goal

abbrev pub ghosts-nodes_after_three_blocks : goal.ghosts-nodes_after_three_blocks
ghosts-nodes_after_three_blocks g a = record { name = a.blank.name; parts = a.blank.parts }
