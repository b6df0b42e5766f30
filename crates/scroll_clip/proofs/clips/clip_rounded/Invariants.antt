-- The ledger of the counter is the one that the blank opens.
use Rattle.scroll_clip.proofs.clips.clip_rounded.Given as goal

abbrev pub ghosts-clip_with : goal.ghosts-clip_with
ghosts-clip_with a = record { name = a.blank.name; parts = a.blank.parts }
