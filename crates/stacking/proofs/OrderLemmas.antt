-- Sorts of lists that were made from others.
use Rattle.std.proofs.Common.{◌≡◌, ℕ, List, [], ◌∷◌, map, Bool, true, false, refl, ap, ◌∙◌}
use Rattle.std.specs.Prelude.{if◌then◌else◌, ℤ, int_lt, nat_lt, cond, ◌==◌}
use Rattle.std.proofs.Common.{Less, Equal, Greater}
use Rattle.std.specs.Ordering.{is_lt, nat_cmp, int_cmp}
use Rattle.std.specs.List.Sorted.{IsSortedByKey, IsStableByKey}
use Rattle.std.specs.Cmp.{nat_cmp_total, int_cmp_total}
use Rattle.std.proofs.lemmas.List.Sorted.{ranks_by}
use Rattle.box_tree.specs.Forest.{Placed}
use Rattle.stacking.specs.declared.pieces.LinePart.{LinePart}
use Rattle.stacking.specs.declared.members.Member.{Member}
use Rattle.stacking.specs.Painting.{LinePiece, is_on_lower_line, is_on_lower_level, level_of}
use Rattle.stacking.specs.OnPage.{part_of, member_of}
use Rattle.stacking.specs.Sorting.{put_in_order, sorted_by}
use Rattle.stacking.proofs.SortLemmas.{sorted_by-is}

-- the same order, and another by which the same elements are below one another
put-same : {X : Type 0} (lt lt' : X → X → Bool) → ((x y : X) → lt x y ≡ lt' x y) → (x : X) (ys : List X) → put_in_order lt x ys ≡ put_in_order lt' x ys
put-same lt lt' same x [] = refl
put-same lt lt' same x (y ∷ ys) = ap (λ b. if b then y ∷ put_in_order lt x ys else x ∷ (y ∷ ys)) (same y x) ∙ ap (λ zs. if lt' y x then y ∷ zs else x ∷ (y ∷ ys)) (put-same lt lt' same x ys)

pub sorted-same : {X : Type 0} (lt lt' : X → X → Bool) → ((x y : X) → lt x y ≡ lt' x y) → (xs : List X) → sorted_by lt xs ≡ sorted_by lt' xs
sorted-same lt lt' same [] = refl
sorted-same lt lt' same (x ∷ xs) = put-same lt lt' same x (sorted_by lt xs) ∙ ap (put_in_order lt' x) (sorted-same lt lt' same xs)

put-map : {X Y : Type 0} (f : X → Y) (lt : Y → Y → Bool) (x : X) (ys : List X) → put_in_order lt (f x) (map f ys) ≡ map f (put_in_order (λ a b. lt (f a) (f b)) x ys)
put-map f lt x [] = refl
put-map f lt x (y ∷ ys) = by_test (put-map f lt x ys) (lt (f y) (f x))
  where
    by_test : put_in_order lt (f x) (map f ys) ≡ map f (put_in_order (λ a b. lt (f a) (f b)) x ys) → (b : Bool) → (if b then f y ∷ put_in_order lt (f x) (map f ys) else f x ∷ (f y ∷ map f ys)) ≡ map f (if b then y ∷ put_in_order (λ a b. lt (f a) (f b)) x ys else x ∷ (y ∷ ys))
    by_test rest true = ap (λ zs. f y ∷ zs) rest
    by_test rest false = refl

pub sorted-map : {X Y : Type 0} (f : X → Y) (lt : Y → Y → Bool) (xs : List X) → sorted_by lt (map f xs) ≡ map f (sorted_by (λ a b. lt (f a) (f b)) xs)
sorted-map f lt [] = refl
sorted-map f lt (x ∷ xs) = ap (put_in_order lt (f x)) (sorted-map f lt xs) ∙ put-map f lt x (sorted_by (λ a b. lt (f a) (f b)) xs)

pub nat-below : (x y : ℕ) → is_lt (nat_cmp x y) ≡ nat_lt x y
nat-below x y = by_test (nat_lt x y) (x == y)
  where
    by_test : (b e : Bool) → is_lt (cond b Less (cond e Equal Greater)) ≡ b
    by_test true e = refl
    by_test false true = refl
    by_test false false = refl

pub int-below : (x y : ℤ) → is_lt (int_cmp x y) ≡ int_lt x y
int-below x y = by_test (int_lt x y) (int_lt y x)
  where
    by_test : (b e : Bool) → is_lt (cond b Less (cond e Greater Equal)) ≡ b
    by_test true e = refl
    by_test false true = refl
    by_test false false = refl

-- the pieces of lines after a sort
pub sorted-parts : (xs ys : List LinePart) (ps : List LinePiece) → xs ≡ map part_of ps → IsSortedByKey (λ (p : LinePart). p.line) nat_cmp ys → IsStableByKey (λ (p : LinePart). p.line) nat_cmp xs ys → ys ≡ map part_of (sorted_by is_on_lower_line ps)
sorted-parts xs ys ps is sorted stable =
    let lt = λ (a : LinePart) (b : LinePart). is_lt (nat_cmp a.line b.line) in
    sorted_by-is lt (ranks_by nat_cmp_total (λ (p : LinePart). p.line)) xs ys sorted stable
    ∙ ap (sorted_by lt) is
    ∙ sorted-map part_of lt ps
    ∙ ap (map part_of) (sorted-same (λ a b. lt (part_of a) (part_of b)) is_on_lower_line (λ a b. nat-below a.line b.line) ps)

-- the members after a sort
pub sorted-members : (xs ys : List Member) (ms : List Placed) → xs ≡ map member_of ms → IsSortedByKey (λ (m : Member). m.level) int_cmp ys → IsStableByKey (λ (m : Member). m.level) int_cmp xs ys → ys ≡ map member_of (sorted_by is_on_lower_level ms)
sorted-members xs ys ms is sorted stable =
    let lt = λ (a : Member) (b : Member). is_lt (int_cmp a.level b.level) in
    sorted_by-is lt (ranks_by int_cmp_total (λ (m : Member). m.level)) xs ys sorted stable
    ∙ ap (sorted_by lt) is
    ∙ sorted-map member_of lt ms
    ∙ ap (map member_of) (sorted-same (λ a b. lt (member_of a) (member_of b)) is_on_lower_level (λ a b. int-below (level_of a) (level_of b)) ms)
