use Rattle.std.proofs.Common.{◌≡◌, arith}
use Rattle.std.specs.List.{flat_map, range_with_len}
use Rattle.hit_script.specs.Load.{block_lines}
use Rattle.hit_script.proofs.CountLaws.{blocks_more, gains_both, gains_nothing}
use Rattle.hit_script.proofs.Logs.{grows_both, grows_same}
use Rattle.hit_script.proofs.load.count_blocks.Goals as goal

pub loop-i-init : goal.loop-i-init
loop-i-init g c = record { within = omega (arith, c.requires.count); room = c.requires.room; log = grows_same _; counted = gains_nothing _ _ }

pub loop-i-preserved : goal.loop-i-preserved
loop-i-preserved g c =
    let kept = c.loop-i.invariant in
    let i = c.loop-i.i in
    record {
      within = omega (arith, c.loop-i-test.true);
      room = c.in_ok-count_block.ensures.room;
      log = grows_both kept.log c.count_block.ensures.log;
      counted = rw (blocks_more block_lines i) (gains_both (flat_map block_lines (range_with_len 0 i)) (block_lines i) _ kept.counted c.in_ok-count_block.ensures.counted);
    }

pub count_block-requires-clause-i : goal.count_block-requires-clause-i
count_block-requires-clause-i g c = omega (arith, c.loop-i-test.true, c.requires.count)

pub count_block-requires-clause-room : goal.count_block-requires-clause-room
count_block-requires-clause-room g c = c.loop-i.invariant.room

pub returns-in_err-count_block-clause-log : goal.returns-in_err-count_block-clause-log
returns-in_err-count_block-clause-log g c = grows_both c.loop-i.invariant.log c.count_block.ensures.log

pub loop-i-smaller : goal.loop-i-smaller
loop-i-smaller g c = omega (arith, c.loop-i-test.true)

pub returns-clause-room : goal.returns-clause-room
returns-clause-room g c = c.loop-i.invariant.room

pub returns-clause-log : goal.returns-clause-log
returns-clause-log g c = c.loop-i.invariant.log

pub returns-clause-counted : goal.returns-clause-counted
returns-clause-counted g c =
    let all : c.loop-i.i ≡ c.args.count = omega (arith, c.loop-i.invariant.within, c.loop-i-test.false) in
    rw all at c.loop-i.invariant.counted
