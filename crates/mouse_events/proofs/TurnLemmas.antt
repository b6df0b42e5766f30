-- How often an element is left and entered: over a turn, and over a list of turns.
use Rattle.std.proofs.Common.{◌≡◌, ℕ, suc, ◌+◌, Bool, true, false, not, cond, eqb, ◌||◌, Option, Some, None, List, [], ◌∷◌, ◌++◌, reverse, replicate, refl, sym, ap, ◌∙◌, subst, arith}
use Rattle.std.proofs.lemmas.List.{append_assoc, append-nil, reverse-append}
use Rattle.std.proofs.lemmas.Bool.Decides.{nat_tests}
use Rattle.mouse_events.specs.declared.event.EventKind.{EventKind}
use Rattle.mouse_events.specs.declared.event.EventKind.TheVariants.{Out, Leave, Over, Enter, Move}
use Rattle.mouse_events.specs.declared.event.Event.{Event}
use Rattle.mouse_events.specs.Chain.{is_member, target, same_target, living, living_target, without}
use Rattle.mouse_events.specs.Events.{on, on_each, change, move_to, events_between}
use Rattle.mouse_events.specs.Turns.{Turn, IsDistinct, all_alive, events_of, kept_after, AreSettled, crossing, crossings, TakeTurns, is_inside, CrossingsAreBalanced}

-- ---- how often an element stands in a list

abbrev pub times : ℕ → List ℕ → ℕ
times x [] = 0
times x (y ∷ ys) = cond (eqb y x) 1 0 + times x ys

times-append : (x : ℕ) (xs ys : List ℕ) → times x (xs ++ ys) ≡ times x xs + times x ys
times-append x [] ys = omega arith
times-append x (z ∷ zs) ys = let more = times-append x zs ys in omega arith

times-reverse : (x : ℕ) (xs : List ℕ) → times x (reverse xs) ≡ times x xs
times-reverse x [] = refl
times-reverse x (y ∷ ys) =
    let rest = times-reverse x ys in
    ap (times x) (reverse-append (y ∷ []) ys) ∙ times-append x (reverse ys) (y ∷ []) ∙ omega arith

same_number : (x y : ℕ) → eqb y x ≡ true → y ≡ x
same_number x y h = grind (arith, nat_tests)

times-cond : (x y : ℕ) (rest : List ℕ) (kept : Bool) → times x (cond kept (y ∷ rest) rest) ≡ cond kept (cond (eqb y x) 1 0) 0 + times x rest
times-cond x y rest true = refl
times-cond x y rest false = omega arith

counted : (same p q : Bool) (n : ℕ) → (same ≡ true → p ≡ q) → cond p (cond same 1 0) 0 + cond q n 0 ≡ cond q (cond same 1 0 + n) 0
counted true true true n h = refl
counted true true false n h = let no : ⊥ = let e = h refl in cc in absurd no
counted true false true n h = let no : ⊥ = let e = h refl in cc in absurd no
counted true false false n h = refl
counted false true true n h = refl
counted false true false n h = refl
counted false false true n h = refl
counted false false false n h = refl

-- the members that aren't in the other list keep their places
times-without : (x : ℕ) (other xs : List ℕ) → times x (without other xs) ≡ cond (not (is_member x other)) (times x xs) 0
times-without x other [] =
    elim (not (is_member x other)) as (λ b. times x [] ≡ cond b (times x []) 0) [ true ↦ refl | false ↦ refl ]
times-without x other (y ∷ ys) =
    let p = not (is_member y other) in
    let q = not (is_member x other) in
    let alike : eqb y x ≡ true → p ≡ q = λ h. ap (λ n. not (is_member n other)) (same_number x y h) in
    times-cond x y (without other ys) p
    ∙ ap (λ n. cond p (cond (eqb y x) 1 0) 0 + n) (times-without x other ys)
    ∙ counted (eqb y x) p q (times x ys) alike

either_false : (a b : Bool) → (a || b) ≡ false → (a ≡ false) × (b ≡ false)
either_false true b h = let no : ⊥ = cc in absurd no
either_false false b h = (refl, h)

times-none : (x : ℕ) (xs : List ℕ) → is_member x xs ≡ false → times x xs ≡ 0
times-none x [] h = refl
times-none x (y ∷ ys) h =
    let none = either_false (eqb y x) (is_member x ys) h in
    let rest = times-none x ys none.1 in
    ap (λ t. cond t 1 0 + times x ys) none.0 ∙ omega arith

not_true : (b : Bool) → not b ≡ true → b ≡ false
not_true true h = let no : ⊥ = cc in absurd no
not_true false h = refl

distinct_case : (x y : ℕ) (ys : List ℕ) (same : Bool) → eqb y x ≡ same → not (is_member y ys) ≡ true
    → times x ys ≡ cond (is_member x ys) 1 0 → cond same 1 0 + times x ys ≡ cond (same || is_member x ys) 1 0
distinct_case x y ys true e fresh rest =
    let absent : is_member x ys ≡ false = ap (λ n. is_member n ys) (sym (same_number x y e)) ∙ not_true (is_member y ys) fresh in
    let none = times-none x ys absent in
    omega arith
distinct_case x y ys false e fresh rest = let zero_first : 0 + times x ys ≡ times x ys = omega arith in zero_first ∙ rest

-- an element stands once among distinct ones, or not at all
times-distinct : (x : ℕ) (xs : List ℕ) → IsDistinct xs → times x xs ≡ cond (is_member x xs) 1 0
times-distinct x [] h = refl
times-distinct x (y ∷ ys) h = distinct_case x y ys (eqb y x) refl h.0 (times-distinct x ys h.1)

-- ---- the crossings of a turn

crossings-append : (x : ℕ) (es fs : List Event) → crossings x (es ++ fs) ≡ crossings x es ++ crossings x fs
crossings-append x [] fs = refl
crossings-append x (e ∷ es) fs =
    ap (λ bs. cond (eqb e.target x) (crossing e.kind) [] ++ bs) (crossings-append x es fs)
    ∙ sym (append_assoc (cond (eqb e.target x) (crossing e.kind) []) (crossings x es) (crossings x fs))

-- a list of as many crossings alike
one_more : (v same : Bool) (n : ℕ) → cond same (v ∷ []) [] ++ replicate n v ≡ replicate (cond same 1 0 + n) v
one_more v true n = let next : suc n ≡ 1 + n = omega arith in ap (λ k. replicate k v) next
one_more v false n = let same : n ≡ 0 + n = omega arith in ap (λ k. replicate k v) same

-- a crossing for each time that the element stands among those that are left or entered
crossings-on_each : (x : ℕ) (kind : EventKind) (v : Bool) → crossing kind ≡ v ∷ [] → (xs : List ℕ) (related : Option ℕ)
    → crossings x (on_each kind xs related) ≡ replicate (times x xs) v
crossings-on_each x kind v e [] related = refl
crossings-on_each x kind v e (y ∷ ys) related =
    ap (λ bs. cond (eqb y x) bs [] ++ crossings x (on_each kind ys related)) e
    ∙ ap (λ bs. cond (eqb y x) (v ∷ []) [] ++ bs) (crossings-on_each x kind v e ys related)
    ∙ one_more v (eqb y x) (times x ys)

nothing : (same : Bool) → cond {A = List Bool} same [] [] ++ [] ≡ []
nothing true = refl
nothing false = refl

-- out, over and move are no crossings
crossings-on : (x : ℕ) (kind : EventKind) → crossing kind ≡ [] → (element related : Option ℕ) → crossings x (on kind element related) ≡ []
crossings-on x kind e None related = refl
crossings-on x kind e (Some y) related = ap (λ bs. cond (eqb y x) bs [] ++ []) e ∙ nothing (eqb y x)

crossings-move_to : (x : ℕ) (moved : Bool) (element : Option ℕ) → crossings x (move_to moved element) ≡ []
crossings-move_to x true element = crossings-on x Move refl element None
crossings-move_to x false element = refl

living-all_alive : (chain : List ℕ) → living chain (all_alive chain) ≡ chain
living-all_alive [] = refl
living-all_alive (x ∷ xs) = ap (λ ys. x ∷ ys) (living-all_alive xs)

-- the crossings from being a member of the kept chain or not to being one of the new chain or not
abbrev pub between : (was is : Bool) → List Bool
between true true = []
between true false = false ∷ []
between false true = true ∷ []
between false false = []

between-counts : (was is : Bool) → replicate (cond (not is) (cond was 1 0) 0) false ++ replicate (cond (not was) (cond is 1 0) 0) true ≡ between was is
between-counts true true = refl
between-counts true false = refl
between-counts false true = refl
between-counts false false = refl

between-same : (b : Bool) → between b b ≡ []
between-same true = refl
between-same false = refl

crossings-change : (x : ℕ) (kept new : List ℕ) → IsDistinct kept → IsDistinct new
    → crossings x (change kept (all_alive kept) new) ≡ between (is_member x kept) (is_member x new)
unfolding change
crossings-change x kept new distinct distinct' =
    let to = target new in
    let from = living_target kept (all_alive kept) in
    let gone = without new (living kept (all_alive kept)) in
    let come = without kept new in
    let left : times x (reverse gone) ≡ cond (not (is_member x new)) (cond (is_member x kept) 1 0) 0 =
    times-reverse x gone ∙ times-without x new (living kept (all_alive kept))
    ∙ ap (λ xs. cond (not (is_member x new)) (times x xs) 0) (living-all_alive kept)
    ∙ ap (λ n. cond (not (is_member x new)) n 0) (times-distinct x kept distinct) in
    let entered : times x come ≡ cond (not (is_member x kept)) (cond (is_member x new) 1 0) 0 =
    times-without x kept new ∙ ap (λ n. cond (not (is_member x kept)) n 0) (times-distinct x new distinct') in
    let leaves = on_each Leave (reverse gone) to in
    let enters = on_each Enter come from in
    crossings-append x (on Out from to) (leaves ++ (on Over to from ++ enters))
    ∙ ap (λ bs. bs ++ crossings x (leaves ++ (on Over to from ++ enters))) (crossings-on x Out refl from to)
    ∙ crossings-append x leaves (on Over to from ++ enters)
    ∙ ap (λ bs. crossings x leaves ++ bs) (crossings-append x (on Over to from) enters)
    ∙ ap (λ bs. crossings x leaves ++ (bs ++ crossings x enters)) (crossings-on x Over refl to from)
    ∙ ap (λ bs. bs ++ crossings x enters) (crossings-on_each x Leave false refl (reverse gone) to)
    ∙ ap (λ n. replicate n false ++ crossings x enters) left
    ∙ ap (λ bs. replicate (cond (not (is_member x new)) (cond (is_member x kept) 1 0) 0) false ++ bs)
    (crossings-on_each x Enter true refl come from ∙ ap (λ n. replicate n true) entered)
    ∙ between-counts (is_member x kept) (is_member x new)

same_element : (a b : Option ℕ) → same_target a b ≡ true → a ≡ b
same_element None None h = refl
same_element None (Some b) h = let no : ⊥ = cc in absurd no
same_element (Some a) None h = let no : ⊥ = cc in absurd no
same_element (Some a) (Some b) h = ap Some (same_number b a h)

changed_case : (x : ℕ) (kept new : List ℕ) (same : Bool) → same_target (target kept) (target new) ≡ same
    → IsDistinct kept → IsDistinct new → (target kept ≡ target new → kept ≡ new)
    → crossings x (cond same [] (change kept (all_alive kept) new)) ≡ between (is_member x kept) (is_member x new)
changed_case x kept new true e distinct distinct' settled =
    let alike : kept ≡ new = settled (same_element (target kept) (target new) e) in
    sym (ap (λ chain. between (is_member x kept) (is_member x chain)) (sym alike) ∙ between-same (is_member x kept))
changed_case x kept new false e distinct distinct' settled = crossings-change x kept new distinct distinct'

crossings-events_between : (x : ℕ) (kept new : List ℕ) (moved : Bool) → IsDistinct kept → IsDistinct new
    → (target kept ≡ target new → kept ≡ new)
    → crossings x (events_between kept (all_alive kept) new moved) ≡ between (is_member x kept) (is_member x new)
crossings-events_between x kept new moved distinct distinct' settled =
    let same = same_target (target kept) (target new) in
    let changes = cond same [] (change kept (all_alive kept) new) in
    crossings-append x changes (move_to moved (target new))
    ∙ ap (λ bs. crossings x changes ++ bs) (crossings-move_to x moved (target new))
    ∙ append-nil (crossings x changes)
    ∙ changed_case x kept new same refl distinct distinct' settled

-- ---- a list of turns

joined : (was is last : Bool) (rest : List Bool) → TakeTurns is rest × (is_inside is rest ≡ last)
    → TakeTurns was (between was is ++ rest) × (is_inside was (between was is ++ rest) ≡ last)
joined true true last rest h = h
joined true false last rest h = ((refl, h.0), h.1)
joined false true last rest h = ((refl, h.0), h.1)
joined false false last rest h = h

balanced_from : (x : ℕ) (kept : List ℕ) (turns : List Turn) → IsDistinct kept → AreSettled kept turns
    → TakeTurns (is_member x kept) (crossings x (events_of kept turns))
    × (is_inside (is_member x kept) (crossings x (events_of kept turns)) ≡ is_member x (kept_after kept turns))
balanced_from x kept [] distinct settled = (tt, refl)
balanced_from x kept (turn ∷ turns) distinct settled =
    let was = is_member x kept in
    let is = is_member x turn.chain in
    let last = is_member x (kept_after turn.chain turns) in
    let rest = crossings x (events_of turn.chain turns) in
    let first = crossings-events_between x kept turn.chain turn.moved distinct settled.0 settled.1 in
    let all = crossings-append x (events_between kept (all_alive kept) turn.chain turn.moved) (events_of turn.chain turns)
    ∙ ap (λ bs. bs ++ rest) first in
    let P : List Bool → Type 0 = λ bs. TakeTurns was bs × (is_inside was bs ≡ last) in
    subst P (sym all) (joined was is last rest (balanced_from x turn.chain turns settled.0 settled.2))

pub crossings_balance : (x : ℕ) (turns : List Turn) → AreSettled [] turns → CrossingsAreBalanced x turns
crossings_balance x turns settled =
    let all = balanced_from x [] turns tt settled in
    record { take_turns = all.0; inside = all.1 }
