-- What a turn of the pointer is answered with, by the scene and by the log.
use Rattle.std.proofs.Common.{◌≡◌, ℕ, ℤ, ◌==◌, List, [], ◌∷◌, ◌++◌, length, map, Bool, true, false, Option, Some, None, Result, Ok, Err, refl, sym, ap, subst, ◌∙◌, append_assoc, arith}
use Rattle.std.specs.Prelude.{IfOk, IfSome, OnOk}
use Rattle.std.specs.Option.{option_map_or}
use Rattle.std.specs.Ordering.{int_eq}
use Rattle.std.proofs.lemmas.Bool.Decides.{Decides-eqb, Decides-int_eq}
use Rattle.std.proofs.lemmas.List.{append-nil}
use Rattle.std.proofs.lemmas.Option.{none-some, same_Some}
use Rattle.box_tree.specs.Contents.{Contents, IsWithin, has_id}
use Rattle.mouse_events.specs.State.{State}
use Rattle.mouse_events.specs.Events.{events_between}
use Rattle.point_query.specs.Chain.{chain_of}
use Rattle.point_query.specs.Elements.{element_from_point}
use Rattle.script_lines.specs.Reply.{events_line, line_fault_line}
use Rattle.script_lines.specs.Command.{IsAskable}
use Rattle.script_lines.specs.declared.command.Command.{Command}
use Rattle.script_lines.specs.declared.command.Command.TheVariants.{Point, Refresh}
use Rattle.script_lines.specs.declared.command.LineFault.{LineFault}
use Rattle.hit_script.specs.Answered.{Appends, IsSpotted, Known, Replies, RepliesBeside, Turns, known, scene_of}
use Rattle.hit_script.specs.Log.{Entry, TopEntry, HasEntry, LogsAll, Logs, Told, told_top, told_chain, told_alive, scripted_turn, scripted_refresh, chain_entries, has_entries}
use Rattle.hit_script.specs.Script.{Scene, answer_to_command, answer_to_turn, answer_to_refresh, chain_at}
use Rattle.hit_script.proofs.Logs.{logs_both}

-- The entries of a turn are taken one after another.

pub same_int : (x : ℤ) → int_eq x x ≡ true
same_int x = (Decides-int_eq x x).1 refl

same_id : (n : ℕ) → (n == n) ≡ true
same_id n = (Decides-eqb n n).1 refl

told_top-first : (x y : ℤ) (target : Option ℕ) (rest : List Entry) → told_top x y (TopEntry x y target ∷ rest) ≡ Some (record { answer = target; rest = rest })
told_top-first x y target rest = rw (same_int x, same_int y) refl

told_chain-next : (target : Option ℕ) (members : List ℕ) (rest : List Entry) → (target ≡ None → members ≡ []) → told_chain target (chain_entries target members ++ rest) ≡ Some (record { answer = members; rest = rest })
told_chain-next None members rest none = ap (λ (chain : List ℕ). let told : Told (List ℕ) = record { answer = chain; rest = rest } in Some told) (sym (none refl))
told_chain-next (Some id) members rest none = rw (same_id id) refl

told_alive-next : (ids : List ℕ) (alive : List Bool) (rest : List Entry) → length alive ≡ length ids → told_alive ids (has_entries ids alive ++ rest) ≡ Some (record { answer = alive; rest = rest })
told_alive-next [] [] rest same = refl
told_alive-next [] (is ∷ alive) rest same = absurd (omega (arith, same))
told_alive-next (id ∷ ids) [] rest same = absurd (omega (arith, same))
told_alive-next (id ∷ ids) (is ∷ alive) rest same = rw (same_id id, told_alive-next ids alive rest (omega (arith, same))) refl

-- the entries of a whole turn
abbrev pub turn_entries : (x y : ℤ) (target : Option ℕ) (members kept : List ℕ) (alive : List Bool) → List Entry
turn_entries x y target members kept alive = TopEntry x y target ∷ (chain_entries target members ++ has_entries kept alive)

turn_told : (pointer : State) (x y : ℤ) (moved : Bool) (target : Option ℕ) (members : List ℕ) (alive : List Bool) (rest : List Entry) → (target ≡ None → members ≡ []) → length alive ≡ length pointer.chain
    → scripted_turn pointer x y moved (turn_entries x y target members pointer.chain alive ++ rest) ≡ Some (record { text = events_line (events_between pointer.chain alive members moved); pointer = record { spot = Some (x, y); chain = members }; rest = rest })
turn_told pointer x y moved target members alive rest none same =
    rw (
      told_top-first x y target ((chain_entries target members ++ has_entries pointer.chain alive) ++ rest),
      append_assoc (chain_entries target members) (has_entries pointer.chain alive) rest,
      told_chain-next target members (has_entries pointer.chain alive ++ rest) none,
      told_alive-next pointer.chain alive rest same,
    ) refl

-- What a turn is answered with, by what its parts answered.
pub turned : {T E : Type 0} (r : Result T E) (x y : ℤ) (moved : Bool) (target : Option ℕ) (members : List ℕ) (alive : List Bool)
    (page0 page : Option Contents) (log0 log1 log2 log : Option (List Entry)) (pointer0 pointer : State) (old new : List ℕ)
    → pointer0.spot ≡ Some (x, y)
    → pointer.spot ≡ pointer0.spot
    → pointer.chain ≡ members
    → page ≡ page0
    → IfSome page0 (λ was. target ≡ element_from_point was x y)
    → IfSome page0 (λ was. members ≡ option_map_or (chain_of was) target [])
    → IfSome page0 (λ was. alive ≡ map (has_id was) pointer0.chain)
    → (target ≡ None → members ≡ [])
    → length alive ≡ length pointer0.chain
    → Logs log0 log1 (TopEntry x y target)
    → LogsAll log1 log2 (chain_entries target members)
    → LogsAll log2 log (has_entries pointer0.chain alive)
    → OnOk r (new ≡ old ++ events_line (events_between pointer0.chain alive members moved))
    → OnOk r (Appends (Turns x y moved (known page0 log0 pointer0) (known page log pointer)) old new)
turned (Err e) x y moved target members alive page0 page log0 log1 log2 log pointer0 pointer old new at spot chain same is_top is_chain is_alive none count tops chains has appended = tt
turned (Ok ok) x y moved target members alive page0 page log0 log1 log2 log pointer0 pointer old new at spot chain same is_top is_chain is_alive none count tops chains has appended = (
  events_line (events_between pointer0.chain alive members moved),
  appended,
  record {
    moves = λ was told. rw same (moves page0 is_top is_chain was told);
    by_scene = λ was told. by_scene page0 is_top is_chain is_alive was told;
    by_log = λ after told.
        let all = logs_both tops (logs_both chains has) after told in
        record { entries = turn_entries x y target members pointer0.chain alive; follows = all; makes = λ rest. rw pointer_is (turn_told pointer0 x y moved target members alive rest none count) };
  },
)
  where
    pointer_is : pointer ≡ record { spot = Some (x, y); chain = members }
    pointer_is =
        let spot_is : pointer.spot ≡ Some (x, y) = spot ∙ at in
        ap (λ (s : Option (ℤ × ℤ)). let p : State = record { spot = s; chain = pointer.chain } in p) spot_is
        ∙ ap (λ (c : List ℕ). let p : State = record { spot = Some (x, y); chain = c } in p) chain

    chain_is : (was : Contents) → target ≡ element_from_point was x y → members ≡ option_map_or (chain_of was) target [] → members ≡ chain_at was x y
    chain_is was top is = is ∙ ap (λ (o : Option ℕ). option_map_or (chain_of was) o []) top

    moves : (o : Option Contents) → IfSome o (λ was. target ≡ element_from_point was x y) → IfSome o (λ was. members ≡ option_map_or (chain_of was) target []) → (was : Scene) → scene_of (known o log0 pointer0) ≡ Some was → scene_of (known o log pointer) ≡ Some (answer_to_turn was x y moved).scene
    moves None top is was told = absurd (none-some was told)
    moves (Some p) top is was told =
        let was_is : record { page = p; pointer = pointer0 } ≡ was = same_Some _ _ told in
        rw (← was_is, pointer_is) (ap (λ (c : List ℕ). let s : Scene = record { page = p; pointer = record { spot = Some (x, y); chain = c } } in Some s) (chain_is p top is))

    by_scene : (o : Option Contents) → IfSome o (λ was. target ≡ element_from_point was x y) → IfSome o (λ was. members ≡ option_map_or (chain_of was) target []) → IfSome o (λ was. alive ≡ map (has_id was) pointer0.chain) → (was : Scene) → scene_of (known o log0 pointer0) ≡ Some was → events_line (events_between pointer0.chain alive members moved) ≡ (answer_to_turn was x y moved).reply
    by_scene None top is lives was told = absurd (none-some was told)
    by_scene (Some p) top is lives was told =
        let was_is : record { page = p; pointer = pointer0 } ≡ was = same_Some _ _ told in
        rw (← was_is) (ap (λ (a : List Bool). events_line (events_between pointer0.chain a members moved)) lives ∙ ap (λ (c : List ℕ). events_line (events_between pointer0.chain (map (has_id p) pointer0.chain) c moved)) (chain_is p top is))

-- One member more.

pub has_entries-more : (ids : List ℕ) (alive : List Bool) (id : ℕ) (is : Bool) → length alive ≡ length ids → has_entries (ids ++ id ∷ []) (alive ++ is ∷ []) ≡ has_entries ids alive ++ HasEntry id is ∷ []
has_entries-more [] [] id is same = refl
has_entries-more [] (x ∷ alive) id is same = absurd (omega (arith, same))
has_entries-more (x ∷ ids) [] id is same = absurd (omega (arith, same))
has_entries-more (x ∷ ids) (b ∷ alive) id is same = ap (λ (more : List Entry). HasEntry x b ∷ more) (has_entries-more ids alive id is (omega (arith, same)))

pub alive_none : (page : Option Contents) → IfSome page (λ was. [] ≡ map (has_id was) [])
alive_none None = tt
alive_none (Some was) = refl

pub alive_more : (page : Option Contents) (ids : List ℕ) (alive : List Bool) (id : ℕ) (is : Bool) → IfSome page (λ was. alive ≡ map (has_id was) ids) → IfSome page (λ was. is ≡ has_id was id) → IfSome page (λ was. alive ++ is ∷ [] ≡ map (has_id was) (ids ++ id ∷ []))
alive_more None ids alive id is so_far told = tt
alive_more (Some was) ids alive id is so_far told = rw (so_far, told) (one_more ids)
  where
    one_more : (some : List ℕ) → map (has_id was) some ++ has_id was id ∷ [] ≡ map (has_id was) (some ++ id ∷ [])
    one_more [] = refl
    one_more (x ∷ xs) = ap (λ (more : List Bool). has_id was x ∷ more) (one_more xs)

-- What the commands are answered with, by what their turns are.

-- a move, whose spot is set before the turn
pub pointed : {T E : Type 0} (r : Result T E) (x y : ℤ) (page0 : Option Contents) (log0 : Option (List Entry)) (pointer0 pointer1 : State) (after : Known) (old new : List ℕ)
    → pointer1.chain ≡ pointer0.chain
    → OnOk r (Appends (Turns x y true (known page0 log0 pointer1) after) old new)
    → OnOk r (Appends (Replies (Ok (Point x y)) (known page0 log0 pointer0) after) old new)
pointed (Err e) x y page0 log0 pointer0 pointer1 after old new same turn = tt
pointed (Ok ok) x y page0 log0 pointer0 pointer1 after old new same (text, appended, turn) = (
  text,
  appended,
  record {
    moves = λ was told. moves page0 turn.moves was told;
    by_scene = λ was told. by_scene page0 turn.by_scene was told;
    by_log = λ log told.
        let one = turn.by_log log told in
        record { entries = one.entries; follows = one.follows; makes = λ rest. sym (make_is (one.entries ++ rest)) ∙ one.makes rest };
  },
)
  where
    moves : (o : Option Contents) → ((was : Scene) → scene_of (known o log0 pointer1) ≡ Some was → scene_of after ≡ Some (answer_to_turn was x y true).scene) → (was : Scene) → scene_of (known o log0 pointer0) ≡ Some was → scene_of after ≡ Some (answer_to_turn was x y true).scene
    moves None by was told = absurd (none-some was told)
    moves (Some p) by was told =
        let was_is : record { page = p; pointer = pointer0 } ≡ was = same_Some _ _ told in
        rw (← was_is) (by (record { page = p; pointer = pointer1 }) refl)

    reply_is : (p : Contents) → (answer_to_turn (record { page = p; pointer = pointer1 }) x y true).reply ≡ (answer_to_turn (record { page = p; pointer = pointer0 }) x y true).reply
    reply_is p = ap (λ (chain : List ℕ). events_line (events_between chain (map (has_id p) chain) (chain_at p x y) true)) same

    by_scene : (o : Option Contents) → ((was : Scene) → scene_of (known o log0 pointer1) ≡ Some was → text ≡ (answer_to_turn was x y true).reply) → (was : Scene) → scene_of (known o log0 pointer0) ≡ Some was → text ≡ (answer_to_turn was x y true).reply
    by_scene None by was told = absurd (none-some was told)
    by_scene (Some p) by was told =
        let was_is : record { page = p; pointer = pointer0 } ≡ was = same_Some _ _ told in
        rw (← was_is) (by (record { page = p; pointer = pointer1 }) refl ∙ reply_is p)

    make_is : (log : List Entry) → scripted_turn pointer1 x y true log ≡ scripted_turn pointer0 x y true log
    make_is log = ap (λ (chain : List ℕ). let p : State = record { spot = pointer0.spot; chain = chain } in scripted_turn p x y true log) same

-- a pointer that stays at its spot
pub refreshed : {T E : Type 0} (r : Result T E) (x y : ℤ) (page0 : Option Contents) (log0 : Option (List Entry)) (pointer0 : State) (after : Known) (old new : List ℕ)
    → pointer0.spot ≡ Some (x, y)
    → OnOk r (Appends (Turns x y false (known page0 log0 pointer0) after) old new)
    → OnOk r (Appends (Replies (Ok Refresh) (known page0 log0 pointer0) after) old new)
refreshed (Err e) x y page0 log0 pointer0 after old new at turn = tt
refreshed (Ok ok) x y page0 log0 pointer0 after old new at (text, appended, turn) = (
  text,
  appended,
  record {
    moves = λ was told. rw (refresh_is was told) (turn.moves was told);
    by_scene = λ was told. rw (refresh_is was told) (turn.by_scene was told);
    by_log = λ log told.
        let one = turn.by_log log told in
        record { entries = one.entries; follows = one.follows; makes = λ rest. make_is (one.entries ++ rest) ∙ one.makes rest };
  },
)
  where
    pointer_is : (o : Option Contents) (was : Scene) → scene_of (known o log0 pointer0) ≡ Some was → was.pointer ≡ pointer0
    pointer_is None was told = absurd (none-some was told)
    pointer_is (Some p) was told = ap (λ (s : Scene). s.pointer) (sym (same_Some _ _ told))

    refresh_is : (was : Scene) → scene_of (known page0 log0 pointer0) ≡ Some was → answer_to_refresh was was.pointer.spot ≡ answer_to_turn was x y false
    refresh_is was told = ap (answer_to_refresh was) (ap (λ (p : State). p.spot) (pointer_is page0 was told) ∙ at)

    make_is : (log : List Entry) → scripted_refresh pointer0 pointer0.spot log ≡ scripted_turn pointer0 x y false log
    make_is log = ap (λ (spot : Option (ℤ × ℤ)). scripted_refresh pointer0 spot log) at

-- a spot that is within the limits
pub spot_within : (pointer : State) (x y : ℤ) → IsSpotted pointer → pointer.spot ≡ Some (x, y) → IsWithin 26 x × IsWithin 26 y
spot_within pointer x y spotted at = subst (λ (o : Option (ℤ × ℤ)). IfSome o (λ spot. IsWithin 26 spot.0 × IsWithin 26 spot.1)) at spotted

-- The commands that leave the pointer as it is.

pub replied_beside : {T E : Type 0} (r : Result T E) (asked : Result Command LineFault) (pointer : State) (page0 page : Option Contents) (log0 log : Option (List Entry)) (old new : List ℕ)
    → ((was : Contents) → (answer_to_command (record { page = was; pointer = pointer }) asked).scene.pointer ≡ pointer)
    → OnOk r (Appends (RepliesBeside asked pointer page0 page log0 log) old new)
    → OnOk r (Appends (Replies asked (known page0 log0 pointer) (known page log pointer)) old new)
replied_beside (Err e) asked pointer page0 page log0 log old new stays replies = tt
replied_beside (Ok ok) asked pointer page0 page log0 log old new stays (text, appended, replies) = (
  text,
  appended,
  record {
    moves = λ was told. moves page0 replies.moves was told;
    by_scene = λ was told. by_scene page0 replies.by_page was told;
    by_log = λ after told. replies.by_log after told;
  },
)
  where
    moves : (o : Option Contents) → ((was : Contents) → o ≡ Some was → page ≡ Some (answer_to_command (record { page = was; pointer = pointer }) asked).scene.page) → (was : Scene) → scene_of (known o log0 pointer) ≡ Some was → scene_of (known page log pointer) ≡ Some (answer_to_command was asked).scene
    moves None by was told = absurd (none-some was told)
    moves (Some p) by was told =
        let was_is : record { page = p; pointer = pointer } ≡ was = same_Some _ _ told in
        let next = (answer_to_command (record { page = p; pointer = pointer }) asked).scene in
        rw (← was_is) (ap (λ (o : Option Contents). scene_of (known o log pointer)) (by p refl) ∙ ap (λ (q : State). let s : Scene = record { page = next.page; pointer = q } in Some s) (sym (stays p)))

    by_scene : (o : Option Contents) → ((was : Contents) → o ≡ Some was → text ≡ (answer_to_command (record { page = was; pointer = pointer }) asked).reply) → (was : Scene) → scene_of (known o log0 pointer) ≡ Some was → text ≡ (answer_to_command was asked).reply
    by_scene None by was told = absurd (none-some was told)
    by_scene (Some p) by was told =
        let was_is : record { page = p; pointer = pointer } ≡ was = same_Some _ _ told in
        rw (← was_is) (by p refl)

-- a command by another name
pub asked_as : {T E : Type 0} (r : Result T E) (asked asked' : Result Command LineFault) (before after : Known) (old new : List ℕ) → asked ≡ asked' → OnOk r (Appends (Replies asked' before after) old new) → OnOk r (Appends (Replies asked before after) old new)
asked_as r asked asked' before after old new is replies = subst (λ (a : Result Command LineFault). OnOk r (Appends (Replies a before after) old new)) (sym is) replies

-- the numbers of a command that may be asked
pub askable : (asked : Result Command LineFault) (command : Command) → IfOk asked IsAskable → asked ≡ Ok command → IsAskable command
askable asked command may is = subst (λ (a : Result Command LineFault). IfOk a IsAskable) is may

-- the fault of a line
pub replied_fault : {T E : Type 0} (r : Result T E) (why : LineFault) (now : Known) (old new : List ℕ) → OnOk r (new ≡ old ++ line_fault_line why) → OnOk r (Appends (Replies (Err why) now now) old new)
replied_fault (Err e) why now old new appended = tt
replied_fault (Ok ok) why now old new appended = (
  line_fault_line why,
  appended,
  record {
    moves = λ was told. told;
    by_scene = λ was told. refl;
    by_log = λ log told. record { entries = []; follows = (log, told, sym (append-nil log)); makes = λ rest. refl };
  },
)
