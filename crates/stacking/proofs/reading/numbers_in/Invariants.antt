-- The ledger of the counter is the one that the blank opens.
use Rattle.stacking.proofs.reading.numbers_in.Given as goal

abbrev pub ghosts-numbers_with : goal.ghosts-numbers_with
ghosts-numbers_with a = record { name = a.blank.name; parts = a.blank.parts }
