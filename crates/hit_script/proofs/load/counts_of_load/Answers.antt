use Rattle.std.proofs.Common.{[], ◌∷◌, ◌++◌, map}
use Rattle.std.specs.List.{flat_map, range_with_len}
use Rattle.hit_script.specs.Load.{block_lines, diagonal_line, load_lines, root_line}
use Rattle.hit_script.proofs.CountLaws.{gains_both, gains_from_nothing}
use Rattle.hit_script.proofs.Logs.{grows_both}
use Rattle.hit_script.proofs.load.counts_of_load.Goals as goal

pub returns-in_err-count_blocks-clause-log : goal.returns-in_err-count_blocks-clause-log
returns-in_err-count_blocks-clause-log g c = grows_both c.count_root.ensures.log c.count_blocks.ensures.log

pub returns-in_err-count_queries-clause-log : goal.returns-in_err-count_queries-clause-log
returns-in_err-count_queries-clause-log g c = grows_both c.count_root.ensures.log (grows_both c.count_blocks.ensures.log c.count_queries.ensures.log)

pub returns-clause-log : goal.returns-clause-log
returns-clause-log g c = grows_both c.count_root.ensures.log (grows_both c.count_blocks.ensures.log c.count_queries.ensures.log)

pub returns-clause-counted : goal.returns-clause-counted
returns-clause-counted g c =
    let blocks = flat_map block_lines (range_with_len 0 c.args.count) in
    let queries = map diagonal_line (range_with_len 0 16) in
    gains_from_nothing (load_lines c.args.count) _ _ _
    (rw c.nothing-counts.ensures at (gains_both (root_line ∷ []) (blocks ++ queries) _ c.in_ok-count_root.ensures.counted (gains_both blocks queries _ c.in_ok-count_blocks.ensures.counted c.in_ok-count_queries.ensures.counted)))
