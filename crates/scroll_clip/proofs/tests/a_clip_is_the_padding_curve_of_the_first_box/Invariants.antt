use Rattle.scroll_clip.proofs.tests.a_clip_is_the_padding_curve_of_the_first_box.Given as goal

abbrev pub ghosts-compare_curves : goal.ghosts-compare_curves
ghosts-compare_curves g a = record { name = a.blank.name; parts = a.blank.parts }
