use Rattle.scroll_clip.proofs.tests.the_clips_of_containing_blocks_alone_cut_off.Given as goal

abbrev pub ghosts-compare : goal.ghosts-compare
ghosts-compare g a = record { name = a.blank.name; parts = a.blank.parts }
