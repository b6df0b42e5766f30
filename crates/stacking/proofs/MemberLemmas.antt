-- What the members of a stacking context are to the page, and so what stands in its list.
use Rattle.std.proofs.Common.{◌≡◌, ℕ, zero, suc, ◌<◌, ◌≤◌, List, [], ◌∷◌, ◌++◌, map, Option, Some, None, slice_get, Bool, true, false, refl, ap, ◌∙◌, subst, arith}
use Rattle.std.proofs.lemmas.Bool.{false≢true}
use Rattle.std.proofs.lemmas.Option.{none-some, same_Some}
use Rattle.std.specs.Option.{option_map_or}
use Rattle.std.specs.Prelude.{if◌then◌else◌, not, ◌&&◌, int_lt, pos}
use Rattle.std.specs.List.{filter, flat_map, AllByRecursion}
use Rattle.box_tree.specs.declared.item.Item.{Item}
use Rattle.box_tree.specs.Forest.{Label, Forest, End, Grow, height_of, Placed}
use Rattle.box_tree.specs.Contents.{Contents, placed_of, IsValid}
use Rattle.box_tree.specs.Containing.{parent_of, makes_context}
use Rattle.box_tree.specs.Used.{is_real_context}
use Rattle.box_tree.proofs.PlacedLemmas.{AreAtPlaces, found-at_places}
use Rattle.stacking.specs.Painting.{at, is_member, shares_of, shares_in, head, body, flat, level_of, is_on_lower_level, context_members, context_list, ContextEntry, OneItem, SubContext, listed_member, entries}
use Rattle.stacking.specs.OnPage.{of_node}
use Rattle.stacking.specs.Contexts.{nearest_context}
use Rattle.stacking.proofs.ListLemmas.{each-append, each-flat_map, each-weaken, each-if, each-filter, each-sorted}

-- a stacking context of the page in its place
pub record IsContextAt (page : Contents) (id : ℕ) : Type 0 where
  pub place : Placed
  pub found : placed_of page id ≡ Some place
  pub real : at is_real_context place ≡ true

pub context_at : (page : Contents) (id : ℕ) → makes_context page id ≡ true → IsContextAt page id
context_at page id real = by_place (placed_of page id) refl real
  where
    by_place : (o : Option Placed) → placed_of page id ≡ o → option_map_or (λ p. is_real_context (parent_of p.above) p.label) o false ≡ true → IsContextAt page id
    by_place None found real' = absurd (false≢true real')
    by_place (Some p) found real' = record { place = p; found = found; real = real' }

module _ (page : Contents) (id : ℕ) (c : IsContextAt page id) where
  pub makes-context : makes_context page id ≡ true
  makes-context = ap (λ (o : Option Placed). option_map_or (λ p. is_real_context (parent_of p.above) p.label) o false) c.found ∙ c.real

  pub of_node-context : {A : Type 0} (walk : Placed → List A) → of_node walk page id ≡ walk c.place
  of_node-context walk = ap (λ (o : Option Placed). option_map_or walk o []) c.found

-- a node that stands in the page with fewer levels below it than so many, and with the node of an id as the nearest stacking
-- context above it
pub record IsWithin (page : Contents) (levels context : ℕ) (m : Placed) : Type 0 where
  pub stands : placed_of page m.label.id ≡ Some m
  pub lower : height_of m.below < levels
  pub nearest : nearest_context m.above ≡ context

-- the members that trees give to the stacking context around them
in-trees : (page : Contents) (levels context : ℕ) (above : List Label) (f : Forest) → AreAtPlaces page above f → height_of f ≤ levels → nearest_context above ≡ context → AllByRecursion (IsWithin page levels context) (flat_map (λ s. s.members) (shares_of above f))
in-trees page levels context above End known within near = tt
in-trees page levels context above (Grow n below others) known within near =
    let P = IsWithin page levels context in
    let p : Placed = record { label = n; above = above; below = below } in
    let inner : List Placed = flat_map (λ s. s.members) (shares_of (n ∷ above) below) in
    each-append P ((if at is_member p then p ∷ [] else []) ++ (if at is_real_context p then [] else inner)) (flat_map (λ s. s.members) (shares_of above others))
    (each-append P (if at is_member p then p ∷ [] else []) (if at is_real_context p then [] else inner)
    (each-if P (at is_member p) (p ∷ []) [] (record { stands = known.0; lower = omega (arith, within); nearest = near }, tt) tt)
    (by_test (at is_real_context p) refl (λ plain. in-trees page levels context (n ∷ above) below known.1.0 (omega (arith, within)) (ap (λ b. if b then n.id else nearest_context above) plain ∙ near))))
    (in-trees page levels context above others known.1.1 (omega (arith, within)) near)
  where
    by_test : (b : Bool) → is_real_context (parent_of above) n ≡ b → (is_real_context (parent_of above) n ≡ false → AllByRecursion (IsWithin page levels context) (flat_map (λ s. s.members) (shares_of (n ∷ above) below))) →
        AllByRecursion (IsWithin page levels context) (if b then [] else flat_map (λ s. s.members) (shares_of (n ∷ above) below))
    by_test true is deeper = tt
    by_test false is deeper = deeper is

-- the members of a stacking context of a valid page
pub are-within : (page : Contents) (id : ℕ) (c : IsContextAt page id) → IsValid page → AllByRecursion (IsWithin page (height_of c.place.below) c.place.label.id) (context_members c.place)
are-within page id c valid =
    each-sorted (IsWithin page (height_of c.place.below) c.place.label.id) is_on_lower_level (flat_map (λ s. s.members) (shares_in c.place))
    (in-trees page (height_of c.place.below) c.place.label.id (c.place.label ∷ c.place.above) c.place.below (found-at_places page id c.place valid c.found) (omega arith) (ap (λ b. if b then c.place.label.id else nearest_context c.place.above) c.real))

-- what holds of all that the parts of a list become holds in the list
module _ {E : Type 0} (P : E → Type 0) (given : List Item → List E) (member : Placed → List E) (p : Placed) where
  each-side : AllByRecursion (λ m. AllByRecursion P (member m)) (context_members p) → (test : Placed → Bool) → AllByRecursion P (flat_map member (filter test (context_members p)))
  each-side all test = each-flat_map P member (filter test (context_members p)) (each-filter (λ m. AllByRecursion P (member m)) test (context_members p) all)

  pub each-listed : AllByRecursion P (given (head p)) → AllByRecursion P (given (body p)) → AllByRecursion (λ m. AllByRecursion P (member m)) (context_members p) → AllByRecursion P (context_list given member p)
  each-listed of_head of_body all =
      each-append P (given (head p)) _ of_head
      (each-append P (flat_map member (filter (λ m. int_lt (level_of m) (pos 0)) (context_members p))) _ (each-side all (λ m. int_lt (level_of m) (pos 0)))
      (each-append P (given (body p)) _ of_body
      (each-append P (flat_map member (filter (λ m. not (int_lt (level_of m) (pos 0)) && not (int_lt (pos 0) (level_of m))) (context_members p))) _ (each-side all (λ m. not (int_lt (level_of m) (pos 0)) && not (int_lt (pos 0) (level_of m))))
      (each-side all (λ m. int_lt (pos 0) (level_of m))))))

-- what holds of each element holds of the one at a place
pub each-at : {X : Type 0} (P : X → Type 0) (xs : List X) (k : ℕ) (x : X) → AllByRecursion P xs → slice_get xs k ≡ Some x → P x
each-at P [] k x all is = absurd (none-some x is)
each-at P (y ∷ ys) zero x all is = subst P (same_Some y x is) all.0
each-at P (y ∷ ys) (suc k) x all is = each-at P ys k x all.1 is

-- a stacking context that stands in the list of one: it is a member of that one
pub record IsListed (page : Contents) (levels context id : ℕ) : Type 0 where
  pub at_place : IsContextAt page id
  pub within : IsWithin page levels context at_place.place

abbrev pub IsListedEntry : Contents → (levels context : ℕ) → ContextEntry → Type 0
IsListedEntry page levels context (OneItem item) = Unit {0}
IsListedEntry page levels context (SubContext id) = IsListed page levels context id

module _ (page : Contents) (levels context : ℕ) where
  abbrev P : ContextEntry → Type 0
  P = IsListedEntry page levels context

  of-items : (items : List Item) → AllByRecursion P (map OneItem items)
  of-items [] = tt
  of-items (item ∷ items) = (tt, of-items items)

  of-member : (m : Placed) → IsWithin page levels context m → AllByRecursion P (listed_member m)
  of-member m within = by_test (at is_real_context m) refl
    where
      by_test : (b : Bool) → at is_real_context m ≡ b → AllByRecursion P (if b then SubContext m.label.id ∷ [] else map OneItem (flat m))
      by_test true is = (record { at_place = record { place = m; found = within.stands; real = is }; within = within }, tt)
      by_test false is = of-items (flat m)

  -- each entry of the list of a stacking context, by its members
  pub each-entry : (p : Placed) → AllByRecursion (IsWithin page levels context) (context_members p) → AllByRecursion (IsListedEntry page levels context) (entries p)
  each-entry p members = each-listed P (map OneItem) listed_member p (of-items (head p)) (of-items (body p)) (each-weaken (IsWithin page levels context) (λ m. AllByRecursion P (listed_member m)) (context_members p) of-member members)

-- what stands as a stacking context in the list of one of a valid page
pub listed-at : (page : Contents) (id : ℕ) (c : IsContextAt page id) → IsValid page → (k sub : ℕ) → slice_get (entries c.place) k ≡ Some (SubContext sub) → IsListed page (height_of c.place.below) c.place.label.id sub
listed-at page id c valid k sub is =
    each-at (IsListedEntry page (height_of c.place.below) c.place.label.id) (entries c.place) k (SubContext sub) (each-entry page (height_of c.place.below) c.place.label.id c.place (are-within page id c valid)) is
