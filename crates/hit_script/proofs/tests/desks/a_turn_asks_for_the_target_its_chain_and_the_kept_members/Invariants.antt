use Rattle.hit_script.proofs.tests.desks.a_turn_asks_for_the_target_its_chain_and_the_kept_members.Given as goal

abbrev pub ghosts-run_on_canned : goal.ghosts-run_on_canned
ghosts-run_on_canned g a = record { name = a.blank.name; parts = a.blank.parts }
