-- The lists along which a walk goes: each node of them is found on the page, with fewer levels below it.
use Rattle.std.proofs.Common.{◌≡◌, ℕ, zero, suc, ◌+◌, ◌<◌, ◌≤◌, List, [], ◌∷◌, ◌++◌, length, get_or, drop, map, Option, Some, None, Bool, true, false, is_some, refl, sym, ap, ◌∙◌, subst, arith, append_assoc}
use Rattle.std.specs.Prelude.{if◌then◌else◌, cond}
use Rattle.std.specs.List.{filter, flat_map, AllByRecursion}
use Rattle.std.specs.Option.{option_map_or}
use Rattle.std.proofs.lemmas.List.{append-nil}
use Rattle.box_tree.specs.declared.item.Item.{Item}
use Rattle.box_tree.specs.Forest.{Label, Forest, End, Grow, Placed, height_of}
use Rattle.box_tree.specs.Contents.{Contents, placed_of, has_id, below_of, IsValid}
use Rattle.box_tree.proofs.PlacedLemmas.{AreAtPlaces, found-at_places}
use Rattle.stacking.specs.declared.pieces.Painted.TheVariants as painted
use Rattle.stacking.specs.declared.members.Member.{Member}
use Rattle.stacking.specs.Painting.{Paint, OneBox, Whole, LinePiece, OneItem, SubContext, at, blocks, floats, flat, painted_piece, listed_member, context_members}
use Rattle.box_tree.specs.Used.{is_real_context}
use Rattle.stacking.specs.OnPage.{of_node, part_of, line_pieces, member_of}
use Rattle.stacking.proofs.ShareLemmas.{Throughout, HoldsOfPaint, HoldsOfPiece, of-blocks, of-floats, of-pieces, of-members}

-- a node that is found on the page, with fewer levels below it
pub record IsFoundBelow (page : Contents) (h : ℕ) (m : Placed) : Type 0 where
  pub found : placed_of page m.label.id ≡ Some m
  pub lower : height_of m.below < h

all_found : (page : Contents) (h : ℕ) (above : List Label) (f : Forest) → AreAtPlaces page above f → height_of f ≤ h → Throughout (IsFoundBelow page h) above f
all_found page h above End places within = tt
all_found page h above (Grow n below others) places within =
    (record { found = places.0; lower = omega arith }, (all_found page h (n ∷ above) below places.1.0 (omega arith), all_found page h above others places.1.1 (omega arith)))

-- how many levels are below a node
abbrev pub levels : Contents → ℕ → ℕ
levels page id = height_of (below_of page id)

module _ (page : Contents) (valid : IsValid page) (id : ℕ) where
  each_of : {X : Type 0} (list : Placed → List X) (P : ℕ → X → Type 0) → ((p : Placed) → Throughout (IsFoundBelow page (height_of p.below)) (p.label ∷ p.above) p.below → AllByRecursion (P (height_of p.below)) (list p)) → AllByRecursion (P (levels page id)) (of_node list page id)
  each_of list P each = by_place (placed_of page id) refl
    where
      by_place : (o : Option Placed) → placed_of page id ≡ o → AllByRecursion (P (height_of (option_map_or (λ p. p.below) o End))) (option_map_or list o [])
      by_place None is = tt
      by_place (Some p) is = each p (all_found page (height_of p.below) (p.label ∷ p.above) p.below (found-at_places page id p valid is) (omega arith))

  pub each_block : AllByRecursion (IsFoundBelow page (levels page id)) (of_node blocks page id)
  each_block = each_of blocks (IsFoundBelow page) (λ p all. of-blocks (IsFoundBelow page (height_of p.below)) p all)

  pub each_float : AllByRecursion (IsFoundBelow page (levels page id)) (of_node floats page id)
  each_float = each_of floats (IsFoundBelow page) (λ p all. of-floats (IsFoundBelow page (height_of p.below)) p all)

  pub each_piece : AllByRecursion (HoldsOfPiece (IsFoundBelow page (levels page id))) (of_node line_pieces page id)
  each_piece = each_of line_pieces (λ h. HoldsOfPiece (IsFoundBelow page h)) (λ p all. of-pieces (IsFoundBelow page (height_of p.below)) p all)

  pub each_member : AllByRecursion (IsFoundBelow page (levels page id)) (of_node context_members page id)
  each_member = each_of context_members (IsFoundBelow page) (λ p all. of-members (IsFoundBelow page (height_of p.below)) p all)

-- the element of a list at a place, where another list has what is made of it
pub record IsNth {X Y : Type 0} (P : X → Type 0) (f : X → Y) (xs : List X) (ys : List Y) (k : ℕ) : Type 0 where
  pub element : X
  pub is : (d : Y) → get_or ys k d ≡ f element
  pub holds : P element
  pub left : drop k xs ≡ element ∷ drop (k + 1) xs

nth_of : {X Y : Type 0} (P : X → Type 0) (f : X → Y) (xs : List X) (k : ℕ) → AllByRecursion P xs → k < length (map f xs) → IsNth P f xs (map f xs) k
nth_of P f [] k all within = absurd (omega arith)
nth_of P f (x ∷ xs) zero all within = record { element = x; is = λ d. refl; holds = all.0; left = refl }
nth_of P f (x ∷ xs) (suc k) all within =
    let next = nth_of P f xs k all.1 (omega arith) in
    record { element = next.element; is = next.is; holds = next.holds; left = next.left ∙ ap (λ (j : ℕ). next.element ∷ drop j (x ∷ xs)) (same k) }
  where
    same : (k : ℕ) → suc (k + 1) ≡ suc k + 1
    same k = omega arith

pub nth : {X Y : Type 0} (P : X → Type 0) (f : X → Y) (xs : List X) (ys : List Y) (k : ℕ) → AllByRecursion P xs → ys ≡ map f xs → k < length ys → IsNth P f xs ys k
nth {X} {Y} P f xs ys k all is within =
    subst (λ (zs : List Y). IsNth P f xs zs k) (sym is) (nth_of P f xs k all (subst (λ (zs : List Y). k < length zs) is within))

drop_none : {X Y : Type 0} (f : X → Y) (xs : List X) (k : ℕ) → length (map f xs) ≤ k → drop k xs ≡ []
drop_none f [] zero all = refl
drop_none f [] (suc k) all = refl
drop_none f (x ∷ xs) zero all = absurd (omega arith)
drop_none f (x ∷ xs) (suc k) all = drop_none f xs k (omega arith)

-- a loop that appends what each element gives
pub walk-more : {X A : Type 0} (w : X → List A) (xs : List X) (k : ℕ) (x : X) (out out' all : List A) → drop k xs ≡ x ∷ drop (k + 1) xs → out' ≡ out ++ w x → out ++ flat_map w (drop k xs) ≡ all → out' ++ flat_map w (drop (k + 1) xs) ≡ all
walk-more w xs k x out out' all left more known =
    ap (λ ys. ys ++ flat_map w (drop (k + 1) xs)) more ∙ append_assoc out (w x) (flat_map w (drop (k + 1) xs)) ∙ ap (λ ys. out ++ flat_map w ys) (sym left) ∙ known

pub walk-all : {X Y A : Type 0} (w : X → List A) (f : X → Y) (xs : List X) (ys : List Y) (k : ℕ) (out all : List A) → ys ≡ map f xs → length ys ≤ k → out ++ flat_map w (drop k xs) ≡ all → out ≡ all
walk-all {X} {Y} w f xs ys k out all is last known =
    sym (append-nil out) ∙ ap (λ zs. out ++ flat_map w zs) (sym (drop_none f xs k (subst (λ (zs : List Y). length zs ≤ k) is last))) ∙ known

-- a loop that appends what each element gives that passes a test
pub walk-some : {X A : Type 0} (w : X → List A) (test : X → Bool) (xs : List X) (k : ℕ) (x : X) (b : Bool) (out out' all : List A) → b ≡ test x → drop k xs ≡ x ∷ drop (k + 1) xs → out' ≡ out ++ (if b then w x else []) → out ++ flat_map w (filter test (drop k xs)) ≡ all → out' ++ flat_map w (filter test (drop (k + 1) xs)) ≡ all
walk-some w test xs k x b out out' all b_is left more known =
    ap (λ ys. ys ++ flat_map w (filter test (drop (k + 1) xs))) more
    ∙ append_assoc out (if b then w x else []) (flat_map w (filter test (drop (k + 1) xs)))
    ∙ ap (λ ys. out ++ ys) (by_test b)
    ∙ ap (λ c. out ++ flat_map w (cond c (x ∷ filter test (drop (k + 1) xs)) (filter test (drop (k + 1) xs)))) b_is
    ∙ ap (λ ys. out ++ flat_map w (filter test ys)) (sym left) ∙ known
  where
    by_test : (c : Bool) → (if c then w x else []) ++ flat_map w (filter test (drop (k + 1) xs)) ≡ flat_map w (cond c (x ∷ filter test (drop (k + 1) xs)) (filter test (drop (k + 1) xs)))
    by_test true = refl
    by_test false = refl

pub walk-some_all : {X Y A : Type 0} (w : X → List A) (test : X → Bool) (f : X → Y) (xs : List X) (ys : List Y) (k : ℕ) (out all : List A) → ys ≡ map f xs → length ys ≤ k → out ++ flat_map w (filter test (drop k xs)) ≡ all → out ≡ all
walk-some_all {X} {Y} w test f xs ys k out all is last known =
    sym (append-nil out) ∙ ap (λ zs. out ++ flat_map w (filter test zs)) (sym (drop_none f xs k (subst (λ (zs : List Y). length zs ≤ k) is last))) ∙ known

-- a node of a list by its id
module _ (page : Contents) (h : ℕ) (m : Placed) (holds : IsFoundBelow page h m) (id : ℕ) (is : id ≡ m.label.id) where
  found_at : placed_of page id ≡ Some m
  found_at = ap (placed_of page) is ∙ holds.found

  pub there : has_id page id ≡ true
  there = ap is_some found_at

  pub gives : {A : Type 0} (walk : Placed → List A) → of_node walk page id ≡ walk m
  gives walk = ap (λ o. option_map_or walk o []) found_at

  pub deeper : levels page id < h
  deeper = omega (arith, holds.lower, ap (λ (o : Option Placed). height_of (option_map_or (λ p. p.below) o End)) found_at)

-- an atomic node as a piece of a line
pub record IsAtom (page : Contents) (h : ℕ) (piece : LinePiece) (id : ℕ) : Type 0 where
  pub place : Placed
  pub holds : IsFoundBelow page h place
  pub id_is : id ≡ place.label.id
  pub painted_is : painted_piece flat piece ≡ flat place

pub atom_of : (page : Contents) (h : ℕ) (piece : LinePiece) (id : ℕ) → HoldsOfPiece (IsFoundBelow page h) piece → (part_of piece).what ≡ painted.Whole id → IsAtom page h piece id
atom_of page h piece id holds is = of_paint piece.line piece.paint holds is
  where
    of_paint : (line : ℕ) (paint : Paint) → HoldsOfPaint (IsFoundBelow page h) paint → (part_of (record { line = line; paint = paint })).what ≡ painted.Whole id → IsAtom page h (record { line = line; paint = paint }) id
    of_paint line (OneBox item) holds is = absurd cc
    of_paint line (Whole p) holds is = record { place = p; holds = holds; id_is = cc; painted_is = refl }

pub box_of : (piece : LinePiece) (item : Item) → (part_of piece).what ≡ painted.OneBox item → painted_piece flat piece ≡ item ∷ []
box_of piece item is = of_paint piece.line piece.paint is
  where
    of_paint : (line : ℕ) (paint : Paint) → (part_of (record { line = line; paint = paint })).what ≡ painted.OneBox item → painted_piece flat (record { line = line; paint = paint }) ≡ item ∷ []
    of_paint line (OneBox item') is = let same : item' ≡ item = cc in ap (λ (i : Item). i ∷ []) same
    of_paint line (Whole p) is = absurd cc

-- what entries a member gives
pub member-lists : (page : Contents) (h : ℕ) (m : Placed) (y : Member) → IsFoundBelow page h m → y ≡ member_of m → (if y.is_context then SubContext y.node ∷ [] else map OneItem (of_node flat page y.node)) ≡ listed_member m
member-lists page h m y holds is =
    ap (λ (z : Member). if z.is_context then SubContext z.node ∷ [] else map OneItem (of_node flat page z.node)) is
    ∙ ap (λ xs. if at is_real_context m then SubContext m.label.id ∷ [] else map OneItem xs) (gives page h m holds m.label.id refl flat)
