-- The ledger of the counter is the one that the blank opens.
use Rattle.spaces.proofs.tests.spaces_are_products_along_containing_blocks.Given as goal

abbrev pub ghosts-compare_pages : goal.ghosts-compare_pages
ghosts-compare_pages g a = record { name = a.blank.name; parts = a.blank.parts }
