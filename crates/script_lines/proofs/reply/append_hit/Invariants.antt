use Rattle.std.proofs.Common.{◌≡◌, ◌++◌, drop}
use Rattle.std.specs.List.{flat_map}
use Rattle.std.specs.Prelude.{codes}
use Rattle.script_lines.specs.Reply.{listed, Keeps}
use Rattle.script_lines.proofs.reply.append_hit.Given as goal

-- what is written, followed by the members that are left, is the line before its newline
abbrev pub invariant-loop-id : goal.invariant-loop-id
invariant-loop-id l = record {
  told : l.out.items ++ flat_map listed (drop l.id-index l.ids) ≡ l.fn.out.items ++ (codes "hit" ++ flat_map listed l.ids);
  kept : Keeps l.fn.out.items l.out.items;
}
