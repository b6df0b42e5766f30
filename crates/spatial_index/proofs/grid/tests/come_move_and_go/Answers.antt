use Rattle.std.proofs.Common.{refl, arith}
use Rattle.spatial_index.proofs.ChangeLemmas.{StandsBy-nowhere, StandsNowhere-kept, apart}
use Rattle.spatial_index.proofs.grid.tests.come_move_and_go.Goals as goal

pub change_one-requires-clause-there : goal.change_one-requires-clause-there
change_one-requires-clause-there g c = StandsBy-nowhere c.in_ok-grid.grid 7 _ refl (c.in_ok-grid.ensures.empty 7)

pub change_one-requires-2-clause-there : goal.change_one-requires-2-clause-there
change_one-requires-2-clause-there g c =
    StandsBy-nowhere c.change_one.new.grid 8 _ refl
    (StandsNowhere-kept c.in_ok-grid.grid c.change_one.new.grid 8 c.change_one.ensures.region (c.change_one.ensures.others 8 (apart 7 8 (omega arith))) (c.in_ok-grid.ensures.empty 8))
