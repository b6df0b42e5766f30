-- The events of a change, as they are appended one after another.
use Rattle.std.proofs.Common.{◌≡◌, ℕ, suc, ◌<◌, Option, List, [], ◌∷◌, Bool, true, false, not, cond, ◌&&◌, ◌++◌, length, take, get_or, reverse, refl, sym, ap, ◌∙◌}
use Rattle.std.proofs.lemmas.List.{append_assoc, reverse-append, map-append}
use Rattle.std.proofs.lemmas.List.Elements.{filter-append}
use Rattle.mouse_events.specs.declared.event.EventKind.TheVariants.{Out, Leave, Over, Enter}
use Rattle.mouse_events.specs.declared.event.Event.{Event}
use Rattle.mouse_events.specs.Chain.{is_member, target, living, living_target, without}
use Rattle.mouse_events.specs.Events.{event, on, on_each, change}
use Rattle.mouse_events.proofs.ChainLemmas.{living-more}

-- the four parts of a change
pub change_made : (old a b c d : List Event) (kept : List ℕ) (alive : List Bool) (new : List ℕ) (from to : Option ℕ)
    → from ≡ living_target kept alive → to ≡ target new
    → a ≡ old ++ on Out from to → b ≡ a ++ on_each Leave (reverse (without new (living kept alive))) to
    → c ≡ b ++ on Over to from → d ≡ c ++ on_each Enter (without kept new) from
    → d ≡ old ++ change kept alive new
unfolding change
change_made old a b c d kept alive new from to p q first second third fourth =
    simp (fourth, third, second, first, p, q, append_assoc)

-- the leaves of a chain's living members that aren't in the new chain, deepest first
abbrev pub leaves : List ℕ → List ℕ → List Bool → Option ℕ → List Event
leaves new chain alive related = on_each Leave (reverse (without new (living chain alive))) related

leave_one : (new : List ℕ) (x : ℕ) (flag : Bool) (related : Option ℕ)
    → on_each Leave (reverse (without new (cond flag (x ∷ []) []))) related
    ≡ cond (flag && not (is_member x new)) (event Leave related x ∷ []) []
leave_one new x false related = refl
leave_one new x true related =
    elim (not (is_member x new)) as (λ b. on_each Leave (reverse (cond b (x ∷ []) [])) related ≡ cond b (event Leave related x ∷ []) []) [ true ↦ refl | false ↦ refl ]

-- the leave of the deepest member comes first
pub leaves-more : (new chain : List ℕ) (alive : List Bool) (j : ℕ) (d : Bool) (related : Option ℕ) → j < length chain → length alive ≡ length chain
    → leaves new (take (suc j) chain) (take (suc j) alive) related
    ≡ cond (get_or alive j d && not (is_member (get_or chain j 0) new)) (event Leave related (get_or chain j 0) ∷ []) []
    ++ leaves new (take j chain) (take j alive) related
leaves-more new chain alive j d related h e =
    let more = living-more chain alive j d h e in
    let x = get_or chain j 0 in
    let one = leave_one new x (get_or alive j d) related in
    ap (λ xs. on_each Leave (reverse (without new xs)) related) more
    ∙ simp (filter-append, reverse-append, map-append) (ap (λ es. es ++ leaves new (take j chain) (take j alive) related) one)

-- a step of the loop over the kept chain, from its deepest member up
pub leaves_pushed : (items pushed : List Event) (new kept : List ℕ) (alive : List Bool) (i j : ℕ) (d : Bool) (related : Option ℕ) (wanted : Bool)
    → i ≡ suc j → j < length kept → length alive ≡ length kept
    → pushed ≡ items ++ cond wanted (event Leave related (get_or kept j 0) ∷ []) []
    → wanted ≡ (get_or alive j d && not (is_member (get_or kept j 0) new))
    → pushed ++ leaves new (take j kept) (take j alive) related ≡ items ++ leaves new (take i kept) (take i alive) related
leaves_pushed items pushed new kept alive i j d related wanted e h f p q =
    let rest = leaves new (take j kept) (take j alive) related in
    let leave = event Leave related (get_or kept j 0) in
    let test = get_or alive j d && not (is_member (get_or kept j 0) new) in
    ap (λ es. es ++ rest) p
    ∙ ap (λ w. (items ++ cond w (leave ∷ []) []) ++ rest) q
    ∙ append_assoc items (cond test (leave ∷ []) []) rest
    ∙ ap (λ es. items ++ es) (sym (leaves-more new kept alive j d related h f))
    ∙ ap (λ n. items ++ leaves new (take n kept) (take n alive) related) (sym e)
