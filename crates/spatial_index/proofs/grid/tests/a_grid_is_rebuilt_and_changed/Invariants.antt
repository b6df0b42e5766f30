use Rattle.spatial_index.proofs.grid.tests.a_grid_is_rebuilt_and_changed.Given as goal

abbrev pub ghosts-rebuild_and_change : goal.ghosts-rebuild_and_change
ghosts-rebuild_and_change g a = record { name = a.blank.name; parts = a.blank.parts }
