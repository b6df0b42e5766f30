use Rattle.hit_script.proofs.tests.desks.the_desk_is_asked_line_by_line.Given as goal

abbrev pub ghosts-run_on_canned : goal.ghosts-run_on_canned
ghosts-run_on_canned g a = record { name = a.blank.name; parts = a.blank.parts }
