-- No node is outside of the whole page, and no entry was there before.
use Rattle.std.proofs.Common.{List, Option, ap, ◌∙◌}
use Rattle.spaces.specs.declared.table.entry.Entry.{Entry}
use Rattle.spaces.specs.Table.{entry_under}
use Rattle.spaces.proofs.FrameLemmas.{table-whole}
use Rattle.spaces.proofs.TableFrameLemmas.{table-first}
use Rattle.spaces.proofs.tests.kept.Goals as goal

pub renew-requires : goal.renew-requires
renew-requires g c = table-whole c.new-table.result c.args.page.now.contents

pub returns : goal.returns
returns g c =
    table-first c.args.page.now.contents c.renew.new.self c.apply.new.self c.in_ok-change.change
    (λ x. c.in_ok-change.ensures.entries x ∙ ap (λ (table : List (Option Entry)). entry_under table x) c.new-table.ensures) c.in_ok-change.ensures.renewed c.apply.ensures.entries
