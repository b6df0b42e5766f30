use Rattle.point_query.proofs.elements.tests.boxes_are_half_open_and_chains_lead_from_the_root.Given as goal

abbrev pub ghosts-compare : goal.ghosts-compare
ghosts-compare g a = record { name = a.blank.name; parts = a.blank.parts }
