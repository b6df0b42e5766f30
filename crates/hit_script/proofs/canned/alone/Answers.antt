use Rattle.hit_script.proofs.Pieces.{first_written}
use Rattle.hit_script.proofs.canned.alone.Goals as goal

pub returns : goal.returns
returns c = first_written c.args.room.now c.args.member c.requires
