-- Items one after another, as a loop takes them.
use Rattle.std.proofs.Common.{◌≡◌, ℕ, ◌+◌, ◌<◌, List, [], ◌∷◌, ◌++◌, length, drop, get_or, Option, Some, None, option_map, refl, sym, ap, ◌∙◌, append_assoc, All, subst}
use Rattle.std.specs.Option.{option_and_then}
use Rattle.std.proofs.lemmas.List.{at_drop_more}
use Rattle.std.proofs.lemmas.List.Elements.{All-push}
use Rattle.serde_json.specs.Data.{Data, Items, item}
use Rattle.serde_json.specs.View.{view, items_view}
use Rattle.serde_json.specs.declared.value.Value.{Value}

-- the reading of an item and then of more
abbrev then_more : {X : Type 0} → Option (List X) → Option X → Option (List X)
then_more more = option_and_then (λ x. option_and_then (λ xs. Some (x ∷ xs)) more)

-- a reading of items that reads each of them
abbrev ReadsEach : {X : Type 0} → (Data → Option X) → (Items → Option (List X)) → Type 0
ReadsEach one each = (d : Data) (ds : Items) → each (item d ds) ≡ then_more (each ds) (one d)

behind : {X : Type 0} (done : List X) (x : X) (more : Option (List X)) → option_map (λ xs. (done ++ x ∷ []) ++ xs) more ≡ option_map (λ xs. done ++ xs) (then_more more (Some x))
behind done x None = refl
behind done x (Some xs) = ap (λ all. Some all) (append_assoc done (x ∷ []) xs)

-- one step of the loop: what is read so far and what is left
pub each-step : {X : Type 0} (one : Data → Option X) (each : Items → Option (List X)) → ReadsEach one each →
    (vs : List Value) (k : ℕ) (v : Value) → k < length vs → v ≡ get_or vs k v →
    (done grown : List X) (x : X) → Some x ≡ one (view v) → grown ≡ done ++ x ∷ [] →
    option_map (λ xs. grown ++ xs) (each (items_view (drop (k + 1) vs))) ≡ option_map (λ xs. done ++ xs) (each (items_view (drop k vs)))
each-step one each reads vs k v within here done grown x is grows =
    ap (λ front. option_map (λ xs. front ++ xs) (each (items_view (drop (k + 1) vs)))) grows
    ∙ behind done x (each (items_view (drop (k + 1) vs)))
    ∙ ap (λ o. option_map (λ xs. done ++ xs) (then_more (each (items_view (drop (k + 1) vs))) o)) is
    ∙ ap (option_map (λ xs. done ++ xs)) (sym (reads (view v) (items_view (drop (k + 1) vs))))
    ∙ ap (λ w. option_map (λ xs. done ++ xs) (each (item (view w) (items_view (drop (k + 1) vs))))) here
    ∙ sym (ap (option_map (λ xs. done ++ xs)) (at_drop_more (λ some. each (items_view some)) vs k v within))

-- what holds of each one that is read so far
pub each-holds : {X : Type 0} (P : X → Type 0) (done grown : List X) (x : X) → All P done → P x → grown ≡ done ++ x ∷ [] → All P grown
each-holds P done grown x all here grows = subst (All P) (sym grows) (All-push P _ _ all here)
