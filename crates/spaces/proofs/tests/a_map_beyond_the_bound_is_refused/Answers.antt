-- No node is outside of the whole page.
use Rattle.spaces.proofs.FrameLemmas.{table-whole}
use Rattle.spaces.proofs.tests.a_map_beyond_the_bound_is_refused.Goals as goal

pub renew-requires : goal.renew-requires
renew-requires g c = table-whole c.new-table.result c.apply.new.page.contents
