-- Elements of items one after the other, each at its first place only.
use Rattle.std.proofs.Common.{◌≡◌, ℕ, ◌+◌, ◌<◌, ◌==◌, ℤ, length, get_or, take, drop, slice_get, List, [], ◌∷◌, ◌++◌, map, Option, Some, None, is_some, Bool, true, false, not, if◌then◌else◌, refl, sym, ap, ◌∙◌, arith}
use Rattle.std.specs.Prelude.{◌||◌, ◌&&◌, unwrap_or}
use Rattle.std.specs.Option.{option_to_list}
use Rattle.std.specs.List.{filter}
use Rattle.std.proofs.lemmas.Bool.Decides.{nat_tests}
use Rattle.std.proofs.lemmas.List.{append-nil, map-append, take_more, take-append-drop}
use Rattle.std.proofs.lemmas.List.Elements.{filter-append}
use Rattle.std.proofs.lemmas.Option.{get_or_from_slice_get}
use Rattle.box_tree.specs.declared.item.Item.{Item}
use Rattle.box_tree.specs.Contents.{Contents}
use Rattle.box_tree.specs.Numbers.{ItemsState, Names}
use Rattle.paint_order.specs.Order.{is_member}
use Rattle.point_query.specs.Elements.{each_once, ends_with, then_root, admits, element_of, elements_of}
use Rattle.point_query.specs.Topmost.{item_named, items_named, if_new}
use Rattle.point_query.proofs.OrderLemmas.{member-filter}

-- one more id comes at the end where it isn't there already
each_once-more : (xs : List ℕ) (x : ℕ) → each_once (xs ++ x ∷ []) ≡ each_once xs ++ (if not (is_member x xs) then x ∷ [] else [])
each_once-more [] x = refl
each_once-more (y ∷ ys) x =
    ap (λ zs. y ∷ filter (λ other. not (other == y)) zs) (each_once-more ys x)
    ∙ ap (λ zs. y ∷ zs) (filter-append (λ other. not (other == y)) (each_once ys) (if not (is_member x ys) then x ∷ [] else []))
    ∙ ap (λ zs. y ∷ (filter (λ other. not (other == y)) (each_once ys) ++ zs)) (last (is_member x ys))
  where
    last : (there : Bool) → filter (λ other. not (other == y)) (if not there then x ∷ [] else []) ≡ (if not ((y == x) || there) then x ∷ [] else [])
    last true = grind (arith, nat_tests)
    last false = grind (arith, nat_tests)

-- an id is there once where it was there
member-once : (x : ℕ) (xs : List ℕ) → is_member x (each_once xs) ≡ is_member x xs
member-once x [] = refl
member-once x (y ∷ ys) = by_test (y == x) refl (is_member x ys) (member-filter (λ other. not (other == y)) x (each_once ys) ∙ ap (λ (b : Bool). b && not (x == y)) (member-once x ys))
  where
    by_test : (b : Bool) → (y == x) ≡ b → (there : Bool) → is_member x (filter (λ other. not (other == y)) (each_once ys)) ≡ (there && not (x == y)) → (b || is_member x (filter (λ other. not (other == y)) (each_once ys))) ≡ (b || there)
    by_test true is there kept = refl
    by_test false is there kept = let other : (x == y) ≡ false = grind (arith, nat_tests) in kept ∙ ap (λ (b : Bool). there && not b) other ∙ all there
      where
        all : (there : Bool) → (there && true) ≡ there
        all true = refl
        all false = refl

-- what is written of one more
pub once-written : (xs : List ℕ) (o : Option ℕ) → each_once (xs ++ option_to_list o) ≡ each_once xs ++ if_new (each_once xs) o
once-written xs None = ap each_once (append-nil xs) ∙ sym (append-nil (each_once xs))
once-written xs (Some x) = each_once-more xs x ∙ ap (λ (ids : List ℕ). each_once xs ++ ids) (by_test (is_member x xs) ∙ ap (λ (b : Bool). if b then [] else x ∷ []) (sym (member-once x xs)))
  where
    by_test : (b : Bool) → (if not b then x ∷ [] else []) ≡ (if b then [] else x ∷ [])
    by_test true = refl
    by_test false = refl

elements_of-append : (page : Contents) (x y : ℤ) (items others : List Item) → elements_of page x y (items ++ others) ≡ elements_of page x y items ++ elements_of page x y others
elements_of-append page x y items others = ap (map (element_of page x y)) (filter-append (admits page x y) items others) ∙ map-append (element_of page x y) (filter (admits page x y) items) (filter (admits page x y) others)

module _ (page : Contents) (x y : ℤ) (s : ItemsState) (numbers : List ℕ) (k : ℕ) (item : Item) (within : k < length numbers) (names : Names s (get_or numbers k 0) item) where
  -- the elements of some items and of one more
  pub elements-more : elements_of page x y (items_named s (take (k + 1) numbers)) ≡ elements_of page x y (items_named s (take k numbers)) ++ elements_of page x y (item ∷ [])
  elements-more =
      ap (λ (ns : List ℕ). elements_of page x y (items_named s ns)) (take_more numbers k 0 within)
      ∙ ap (elements_of page x y) (map-append (item_named s) (take k numbers) (get_or numbers k 0 ∷ []))
      ∙ elements_of-append page x y (items_named s (take k numbers)) (item_named s (get_or numbers k 0) ∷ [])
      ∙ ap (λ (i : Item). elements_of page x y (items_named s (take k numbers)) ++ elements_of page x y (i ∷ [])) (get_or_from_slice_get s.given (get_or numbers k 0) item _ names.given_to)

  -- where none of them is admitted, but this one is, its element is the first of all
  pub elements-first : (o : Option ℕ) → elements_of page x y (items_named s (take k numbers)) ≡ [] → option_to_list o ≡ elements_of page x y (item ∷ []) → is_some o ≡ true → o ≡ slice_get (elements_of page x y (items_named s numbers)) 0
  elements-first None none is some = absurd cc
  elements-first (Some e) none is some =
      let rest = elements_of page x y (items_named s (drop (k + 1) numbers)) in
      let all : elements_of page x y (items_named s numbers) ≡ e ∷ rest =
      ap (λ (ns : List ℕ). elements_of page x y (items_named s ns)) (sym (take-append-drop (k + 1) numbers))
      ∙ ap (elements_of page x y) (map-append (item_named s) (take (k + 1) numbers) (drop (k + 1) numbers))
      ∙ elements_of-append page x y (items_named s (take (k + 1) numbers)) (items_named s (drop (k + 1) numbers))
      ∙ ap (λ (ids : List ℕ). ids ++ rest) (elements-more ∙ ap (λ (ids : List ℕ). ids ++ elements_of page x y (item ∷ [])) none ∙ sym is) in
      sym (ap (λ (ids : List ℕ). slice_get ids 0) all)

  -- where this one isn't admitted either, none is
  pub elements-none : (o : Option ℕ) → elements_of page x y (items_named s (take k numbers)) ≡ [] → option_to_list o ≡ elements_of page x y (item ∷ []) → is_some o ≡ false → elements_of page x y (items_named s (take (k + 1) numbers)) ≡ []
  elements-none None none is nothing = elements-more ∙ ap (λ (ids : List ℕ). ids ++ elements_of page x y (item ∷ [])) none ∙ sym is
  elements-none (Some e) none is nothing = absurd cc

-- the first of some elements, each once, and then of the root
pub first-then_root : (root : ℕ) (ids : List ℕ) → Some (unwrap_or (slice_get ids 0) root) ≡ slice_get (then_root root (each_once ids)) 0
first-then_root root [] = refl
first-then_root root (id ∷ ids) = by_test (ends_with root (each_once (id ∷ ids)))
  where
    by_test : (b : Bool) → Some id ≡ slice_get (if b then each_once (id ∷ ids) else each_once (id ∷ ids) ++ root ∷ []) 0
    by_test true = refl
    by_test false = refl
