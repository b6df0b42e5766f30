use Rattle.std.proofs.Common.{◌≢◌, ℕ, [], ◌∷◌, pos, refl, sym, arith}
use Rattle.std.proofs.lemmas.List.Elements.{All-nil, All-cons}
use Rattle.fractions.specs.declared.rect.Rect.{Rect}
use Rattle.spatial_index.specs.declared.change.Change.{Change}
use Rattle.spatial_index.specs.Contents.{GridState, StandsBy, AreOfOthers}
use Rattle.spatial_index.proofs.ChangeLemmas.{StandsBy-nowhere, StandsBy-same, StandsNowhere-same, apart}
use Rattle.spatial_index.proofs.grid.tests.rebuild_and_change.Goals as goal

abbrev nowhere : Rect
nowhere = record { l = pos 0; t = pos 0; r = pos 0; b = pos 0 }

abbrev first : Rect
first = record { l = pos 0; t = pos 0; r = pos 100; b = pos 100 }

abbrev last : Rect
last = record { l = pos 19000; t = pos 8200; r = pos 20001; b = pos 9001 }

abbrev change : ℕ → Rect → Rect → Change
change item old new = record { item = item; old = old; new = new }

items_of_others : AreOfOthers 3 (change 4294967295 last first ∷ change 2 nowhere first ∷ [])
items_of_others =
    let Other : Change → Type 0 = λ c. c.item ≢ 3 in
    All-cons Other (change 4294967295 last first) (change 2 nowhere first ∷ []) (λ same. apart 3 4294967295 (omega arith) (sym same))
    (All-cons Other (change 2 nowhere first) [] (apart 2 3 (omega arith)) (All-nil Other))

pub apply-requires-clause-there : goal.apply-requires-clause-there
apply-requires-clause-there g c =
    let now : GridState = c.reserve.new.self in
    let Stands : Change → Type 0 = λ change. StandsBy now change.item change.old in
    All-cons Stands (change 4294967295 first last) (change 2 first nowhere ∷ change 3 nowhere last ∷ [])
    (StandsBy-same c.in_ok-grid.grid now 4294967295 first c.reserve.ensures.same (c.in_ok-grid.ensures.items 0 (change 4294967295 last first) (omega arith)))
    (All-cons Stands (change 2 first nowhere) (change 3 nowhere last ∷ [])
    (StandsBy-same c.in_ok-grid.grid now 2 first c.reserve.ensures.same (c.in_ok-grid.ensures.items 1 (change 4294967295 last first) (omega arith)))
    (All-cons Stands (change 3 nowhere last) []
    (StandsBy-nowhere now 3 nowhere refl (StandsNowhere-same c.in_ok-grid.grid now 3 c.reserve.ensures.same (c.in_ok-grid.ensures.no_other 3 items_of_others))) (All-nil Stands)))
