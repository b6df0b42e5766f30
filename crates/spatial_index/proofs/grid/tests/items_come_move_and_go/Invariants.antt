use Rattle.spatial_index.proofs.grid.tests.items_come_move_and_go.Given as goal

abbrev pub ghosts-come_move_and_go : goal.ghosts-come_move_and_go
ghosts-come_move_and_go g a = record { name = a.blank.name; parts = a.blank.parts }
