use Rattle.tree_edits.proofs.engine.tests.edits_are_applied_or_refused_in_turn.Given as goal

abbrev pub ghosts-edit_in_turn : goal.ghosts-edit_in_turn
ghosts-edit_in_turn g a = record { name = a.blank.name; parts = a.blank.parts }
