-- The ledger of the counter is the one that the blank opens.
use Rattle.stacking.proofs.reading.read.Given as goal

abbrev pub ghosts-read_with : goal.ghosts-read_with
ghosts-read_with a = record { name = a.blank.name; parts = a.blank.parts }
