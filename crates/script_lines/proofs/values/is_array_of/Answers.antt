use Rattle.serde_json.proofs.Views.{items_len-items_view}
use Rattle.script_lines.proofs.values.is_array_of.Goals as goal

pub returns-in-Some : goal.returns-in-Some
returns-in-Some c = rw (← c.in-Some.ensures, items_len-items_view, c.as_slice.ensures.value)
