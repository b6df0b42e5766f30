-- The ledger of each counter is the one that its blank opens.
use Rattle.spaces.proofs.tests.a_table_follows_edits.Given as goal

abbrev pub ghosts-follow_place : goal.ghosts-follow_place
ghosts-follow_place g a = record { name = a.blank.name; parts = a.blank.parts }

abbrev pub ghosts-follow_remove : goal.ghosts-follow_remove
ghosts-follow_remove g a = record { name = a.blank.name; parts = a.blank.parts }
