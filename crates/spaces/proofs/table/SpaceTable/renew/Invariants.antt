-- The ledger of the counter is the one that the blank opens.
use Rattle.spaces.proofs.table.SpaceTable.renew.Given as goal

abbrev pub ghosts-renewed : goal.ghosts-renewed
ghosts-renewed a = record { name = a.blank.name; parts = a.blank.parts }
