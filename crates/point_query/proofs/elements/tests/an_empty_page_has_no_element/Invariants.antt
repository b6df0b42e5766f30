use Rattle.point_query.proofs.elements.tests.an_empty_page_has_no_element.Given as goal

abbrev pub ghosts-compare : goal.ghosts-compare
ghosts-compare g a = record { name = a.blank.name; parts = a.blank.parts }
