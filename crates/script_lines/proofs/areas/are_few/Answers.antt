use Rattle.serde_json.proofs.Views.{items_len-items_view}
use Rattle.script_lines.proofs.areas.are_few.Goals as goal

pub returns-clause-value : goal.returns-clause-value
returns-clause-value c = rw items_len-items_view
