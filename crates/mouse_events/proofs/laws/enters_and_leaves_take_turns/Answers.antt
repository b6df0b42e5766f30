use Rattle.mouse_events.proofs.TurnLemmas.{crossings_balance}
use Rattle.mouse_events.proofs.laws.enters_and_leaves_take_turns.Goals as goal

pub returns : goal.returns
returns c = crossings_balance
