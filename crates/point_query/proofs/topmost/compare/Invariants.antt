-- The ledger of the counter is the one that the blank opens.
use Rattle.point_query.proofs.topmost.compare.Given as goal

abbrev pub ghosts-is_above_with : goal.ghosts-is_above_with
ghosts-is_above_with a = record { name = a.blank.name; parts = a.blank.parts }
