use Rattle.paint_order.proofs.tests.items_stand_as_in_the_flattened_root_list.Given as goal

abbrev pub ghosts-compare_all : goal.ghosts-compare_all
ghosts-compare_all g a = record { name = a.blank.name; parts = a.blank.parts }
