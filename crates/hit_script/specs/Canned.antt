-- What a canned desk tells.
use Rattle.std.specs.Prelude.{ℕ, ◌+◌, max, List, [], ◌∷◌, Option, Some, None, Ok, true, map, take, nat_le, nat_lt, slice_set, if◌then◌else◌}
use Rattle.box_tree.specs.declared.edit.Done.TheVariants.{Done}
use Rattle.hit_script.specs.Log.{Entry, EditEntry, HitEntry, TopEntry, ChainEntry, HasEntry}
use Rattle.hit_script.specs.declared.canned.Asked.{Asked}
use Rattle.hit_script.specs.declared.canned.Asked.TheVariants as asked
use Rattle.hit_script.specs.declared.canned.Canned.{Canned}

-- what was asked, with the answer that is always the same
abbrev pub canned_entry : ℕ → Asked → Entry
canned_entry member asked.Edit = EditEntry (Ok Done)
canned_entry member (asked.Hit x y) = HitEntry x y (member ∷ [])
canned_entry member (asked.Top x y) = TopEntry x y (Some member)
canned_entry member (asked.Chain id) = ChainEntry id (id ∷ [])
canned_entry member (asked.Has id) = HasEntry id true

-- its log, which is told where there were at most 64 calls
abbrev pub canned_log : Canned → Option (List Entry)
canned_log desk = if nat_le desk.count 64 then Some (map (canned_entry desk.member) (take desk.count desk.asked)) else None

-- the desk behind one more call: the first 64 are kept, and calls are counted up to 65
abbrev pub asked_once_more : Canned → Asked → Canned
asked_once_more desk what = record desk {
  count = if nat_lt desk.count 64 then desk.count + 1 else max desk.count 65;
  asked = if nat_lt desk.count 64 then slice_set desk.asked desk.count what else desk.asked;
}
