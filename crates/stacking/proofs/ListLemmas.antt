-- Facts on each element of a list, by recursion on it, and lists joined from others.
use Rattle.std.proofs.Common.{◌≡◌, List, [], ◌∷◌, ◌++◌, map, Bool, true, false, refl, ap, ◌∙◌}
use Rattle.std.specs.Prelude.{if◌then◌else◌}
use Rattle.std.specs.List.{filter, flat_map, AllByRecursion}
use Rattle.std.proofs.lemmas.List.{map-append}
use Rattle.stacking.specs.Sorting.{put_in_order, sorted_by}

pub each-append : {X : Type 0} (P : X → Type 0) (xs ys : List X) → AllByRecursion P xs → AllByRecursion P ys → AllByRecursion P (xs ++ ys)
each-append P [] ys all all' = all'
each-append P (x ∷ xs) ys all all' = (all.0, each-append P xs ys all.1 all')

pub each-flat_map : {X Y : Type 0} (P : Y → Type 0) (f : X → List Y) (xs : List X) → AllByRecursion (λ x. AllByRecursion P (f x)) xs → AllByRecursion P (flat_map f xs)
each-flat_map P f [] all = tt
each-flat_map P f (x ∷ xs) all = each-append P (f x) (flat_map f xs) all.0 (each-flat_map P f xs all.1)

pub each-weaken : {X : Type 0} (P Q : X → Type 0) (xs : List X) → ((x : X) → P x → Q x) → AllByRecursion P xs → AllByRecursion Q xs
each-weaken P Q [] weaker all = tt
each-weaken P Q (x ∷ xs) weaker all = (weaker x all.0, each-weaken P Q xs weaker all.1)

pub each-if : {X : Type 0} (P : X → Type 0) (b : Bool) (xs ys : List X) → AllByRecursion P xs → AllByRecursion P ys → AllByRecursion P (if b then xs else ys)
each-if P true xs ys all all' = all
each-if P false xs ys all all' = all'

pub each-filter : {X : Type 0} (P : X → Type 0) (p : X → Bool) (xs : List X) → AllByRecursion P xs → AllByRecursion P (filter p xs)
each-filter P p [] all = tt
each-filter P p (x ∷ xs) all = each-if P (p x) (x ∷ filter p xs) (filter p xs) (all.0, each-filter P p xs all.1) (each-filter P p xs all.1)

each-put : {X : Type 0} (P : X → Type 0) (lt : X → X → Bool) (x : X) (ys : List X) → P x → AllByRecursion P ys → AllByRecursion P (put_in_order lt x ys)
each-put P lt x [] one all = (one, tt)
each-put P lt x (y ∷ ys) one all = each-if P (lt y x) (y ∷ put_in_order lt x ys) (x ∷ (y ∷ ys)) (all.0, each-put P lt x ys one all.1) (one, all)

pub each-sorted : {X : Type 0} (P : X → Type 0) (lt : X → X → Bool) (xs : List X) → AllByRecursion P xs → AllByRecursion P (sorted_by lt xs)
each-sorted P lt [] all = tt
each-sorted P lt (x ∷ xs) all = each-put P lt x (sorted_by lt xs) all.0 (each-sorted P lt xs all.1)

-- the same lists joined
pub flat_map-same : {X Y : Type 0} (P : X → Type 0) (f g : X → List Y) (xs : List X) → ((x : X) → P x → f x ≡ g x) → AllByRecursion P xs → flat_map f xs ≡ flat_map g xs
flat_map-same P f g [] same all = refl
flat_map-same P f g (x ∷ xs) same all = ap (λ ys. ys ++ flat_map f xs) (same x all.0) ∙ ap (λ ys. g x ++ ys) (flat_map-same P f g xs same all.1)

-- a map over joined lists
pub map-flat_map : {X Y Z : Type 0} (h : Y → Z) (f : X → List Y) (xs : List X) → map h (flat_map f xs) ≡ flat_map (λ x. map h (f x)) xs
map-flat_map h f [] = refl
map-flat_map h f (x ∷ xs) = map-append h (f x) (flat_map f xs) ∙ ap (λ ys. map h (f x) ++ ys) (map-flat_map h f xs)
