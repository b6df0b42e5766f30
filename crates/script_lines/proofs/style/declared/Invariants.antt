-- The style so far with the keys that are left is the style with all keys.
use Rattle.std.proofs.Common.{◌≡◌}
use Rattle.serde_json.specs.View.{members_view}
use Rattle.computed_style.specs.Defaults.{empty_style}
use Rattle.computed_style.specs.Ranges.{IsStyleInRange}
use Rattle.script_lines.specs.Style.{each_key}
use Rattle.script_lines.proofs.style.declared.Given as goal

abbrev pub invariant-loop-key : goal.invariant-loop-key
invariant-loop-key l = record {
  told : each_key (members_view l.key-iterator) l.style ≡ each_key (members_view l.fn.members.entries) empty_style;
  in_range : IsStyleInRange l.style;
}
