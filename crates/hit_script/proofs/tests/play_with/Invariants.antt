use Rattle.hit_script.proofs.tests.play_with.Given as goal

abbrev pub ghosts-run_on_new_page : goal.ghosts-run_on_new_page
ghosts-run_on_new_page g a = record { name = a.blank.name; parts = a.blank.parts }
