-- Of the members so far it is known whether each is in the page.
use Rattle.std.proofs.Common.{◌≡◌, length, take, map}
use Rattle.std.specs.Prelude.{IfSome}
use Rattle.box_tree.specs.Contents.{has_id}
use Rattle.hit_script.specs.Log.{Grows, LogsAll, has_entries}
use Rattle.hit_script.proofs.pointing.living.Given as goal

abbrev pub invariant-loop-id : goal.invariant-loop-id
invariant-loop-id g l = record {
  count : length l.alive.items ≡ length (take l.id-index l.chain);
  alive : IfSome (g.D.Desk.page l.fn.desk) (λ was. l.alive.items ≡ map (has_id was) (take l.id-index l.chain));
  same : g.D.Desk.page l.desk ≡ g.D.Desk.page l.fn.desk;
  same_places : g.D.Desk.places l.desk ≡ g.D.Desk.places l.fn.desk;
  grows : Grows (g.D.Desk.log l.fn.desk) (g.D.Desk.log l.desk);
  logged : LogsAll (g.D.Desk.log l.fn.desk) (g.D.Desk.log l.desk) (has_entries (take l.id-index l.chain) l.alive.items);
}
