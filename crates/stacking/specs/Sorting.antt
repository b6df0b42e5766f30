-- A stable sort.
use Rattle.std.specs.Prelude.{List, [], ◌∷◌, Bool, if◌then◌else◌}

-- x put before the first of the elements that isn't below it
abbrev pub put_in_order : {X : Type 0} → (X → X → Bool) → X → List X → List X
put_in_order is_below x [] = x ∷ []
put_in_order is_below x (y ∷ ys) = if is_below y x then y ∷ put_in_order is_below x ys else x ∷ (y ∷ ys)

-- the elements from the lowest to the highest, those of which none is below the other in the order that they had
abbrev pub sorted_by : {X : Type 0} → (X → X → Bool) → List X → List X
sorted_by is_below [] = []
sorted_by is_below (x ∷ xs) = put_in_order is_below x (sorted_by is_below xs)
