use Rattle.std.proofs.Common.{◌≡◌, [], ◌∷◌, map, arith}
use Rattle.std.specs.List.{range_with_len}
use Rattle.hit_script.specs.Load.{diagonal_line}
use Rattle.hit_script.proofs.CountLaws.{queries_more, gains_both, gains_nothing}
use Rattle.hit_script.proofs.Logs.{grows_both, grows_same}
use Rattle.hit_script.proofs.load.count_queries.Goals as goal

pub loop-j-init : goal.loop-j-init
loop-j-init g c = record { within = omega (arith, c.requires); room = c.requires; log = grows_same _; counted = gains_nothing _ _ }

pub loop-j-preserved : goal.loop-j-preserved
loop-j-preserved g c =
    let kept = c.loop-j.invariant in
    let j = c.loop-j.j in
    record {
      within = omega (arith, c.loop-j-test.true);
      room = c.in_ok-count_query.ensures.room;
      log = grows_both kept.log c.count_query.ensures.log;
      counted = rw (queries_more diagonal_line j) (gains_both (map diagonal_line (range_with_len 0 j)) (diagonal_line j ∷ []) _ kept.counted c.in_ok-count_query.ensures.counted);
    }

pub count_query-requires-clause-j : goal.count_query-requires-clause-j
count_query-requires-clause-j g c = c.loop-j-test.true

pub count_query-requires-clause-room : goal.count_query-requires-clause-room
count_query-requires-clause-room g c = c.loop-j.invariant.room

pub returns-in_err-count_query-clause-log : goal.returns-in_err-count_query-clause-log
returns-in_err-count_query-clause-log g c = grows_both c.loop-j.invariant.log c.count_query.ensures.log

pub loop-j-smaller : goal.loop-j-smaller
loop-j-smaller g c = omega (arith, c.loop-j-test.true)

pub returns-clause-log : goal.returns-clause-log
returns-clause-log g c = c.loop-j.invariant.log

pub returns-clause-counted : goal.returns-clause-counted
returns-clause-counted g c =
    let all : c.loop-j.j ≡ 16 = omega (arith, c.loop-j.invariant.within, c.loop-j-test.false) in
    rw all at c.loop-j.invariant.counted
