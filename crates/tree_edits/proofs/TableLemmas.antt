-- Tables of lists as lists are put into them and dropped, one after another.
use Rattle.std.proofs.Common.{◌≡◌, ℕ, zero, suc, ◌+◌, ◌<◌, ◌≤◌, ◌==◌, List, [], ◌∷◌, length, get_or, drop, set, map, Option, None, IsSome, is_some, Bool, true, false, if◌then◌else◌, refl, sym, ap, ◌∙◌, subst, inl, inr, arith, drop-cons}
use Rattle.std.specs.Prelude.{◌||◌, All}
use Rattle.std.specs.List.{AllByRecursion}
use Rattle.std.proofs.lemmas.Bool.{cases_eq, cases_lt, false≢true}
use Rattle.std.proofs.lemmas.Bool.Decides.{nat_tests}
use Rattle.std.proofs.lemmas.List.{get_or-set_same, get_or-set_other, get_or_past, map-id}
use Rattle.std.proofs.lemmas.List.Folds.{list_any_at}
use Rattle.box_tree.specs.Planned.{is_among, times_in}
use Rattle.paint_order.specs.declared.entry.Entry.{Entry}
use Rattle.paint_order.specs.declared.entry.Entry.TheVariants.{Item, Sub}
use Rattle.paint_order.specs.Lists.{Lists, list_under, IsInRoom}

abbrev pub Slot : Type 0
Slot = Option (List Entry)

-- a list in its place
pub under-set : (lists : Lists) (id x : ℕ) (o : Slot) → id < length lists → list_under (set lists id o) x ≡ (if id == x then o else list_under lists x)
under-set lists id x o within = elim (cases_eq id x) [
  | inl here ↦
      let same : (id == x) ≡ true = grind (arith, nat_tests) in
      ap (λ (k : ℕ). list_under (set lists id o) k) (sym here) ∙ get_or-set_same lists id o None within ∙ sym (ap (λ (b : Bool). if b then o else list_under lists x) same)
  | inr other ↦
      let apart : (id == x) ≡ false = grind (arith, nat_tests) in
      get_or-set_other lists id x o None (λ e. other (sym e)) ∙ sym (ap (λ (b : Bool). if b then o else list_under lists x) apart)
]

-- what stands is within the room
pub stands-within : (lists : Lists) (id : ℕ) → IsSome (list_under lists id) → id < length lists
stands-within lists id stands = elim (cases_lt id (length lists)) [
  | inl within ↦ within
  | inr past ↦ absurd (false≢true (sym (ap is_some (get_or_past lists id None past)) ∙ stands))
]

-- what comes of the list under a number, where each of some changes in turn makes something of the one under its own
abbrev pub all_made : {X : Type 0} → (X → ℕ) → (X → Slot → Slot) → List X → ℕ → Slot → Slot
all_made key make [] n before = before
all_made key make (x ∷ xs) n before = all_made key make xs n (if key x == n then make x before else before)

pub all_made-step : {X : Type 0} (key : X → ℕ) (make : X → Slot → Slot) (xs : List X) (k n : ℕ) (d : X) (before after : Slot) → k < length xs →
    after ≡ (if key (get_or xs k d) == n then make (get_or xs k d) before else before) → all_made key make (drop (k + 1) xs) n after ≡ all_made key make (drop k xs) n before
all_made-step key make xs k n d before after within is =
    let next : suc k ≡ k + 1 = omega arith in
    let left : drop k xs ≡ get_or xs k d ∷ drop (k + 1) xs = drop-cons xs k d within ∙ ap (λ (i : ℕ). get_or xs k d ∷ drop i xs) next in
    ap (all_made key make (drop (k + 1) xs) n) is ∙ sym (ap (λ ys. all_made key make ys n before) left)

-- where those under one number all make the same of a list, once or again
pub all_made-is : {X : Type 0} (key : X → ℕ) (make : X → Slot → Slot) (n : ℕ) (same : Slot → Slot) → ((o : Slot) → same (same o) ≡ same o) →
    (xs : List X) (before : Slot) → AllByRecursion (λ x. key x ≡ n → (o : Slot) → make x o ≡ same o) xs → all_made key make xs n before ≡ (if is_among (map key xs) n then same before else before)
all_made-is key make n same again [] before all = refl
all_made-is key make n same again (x ∷ xs) before all = elim (cases_eq (key x) n) [
  | inl here ↦
      let is : (key x == n) ≡ true = grind (arith, nat_tests) in
      ap (λ (b : Bool). all_made key make xs n (if b then make x before else before)) is
      ∙ ap (all_made key make xs n) (all.0 here before)
      ∙ all_made-is key make n same again xs (same before) all.1
      ∙ by_test (is_among (map key xs) n)
      ∙ sym (ap (λ (b : Bool). if b || is_among (map key xs) n then same before else before) is)
  | inr other ↦
      let is : (key x == n) ≡ false = grind (arith, nat_tests) in
      ap (λ (b : Bool). all_made key make xs n (if b then make x before else before)) is
      ∙ all_made-is key make n same again xs before all.1
      ∙ sym (ap (λ (b : Bool). if b || is_among (map key xs) n then same before else before) is)
]
  where
    by_test : (b : Bool) → (if b then same (same before) else same before) ≡ same before
    by_test true = again before
    by_test false = refl

-- the same, where the changes are known by their numbers
pub made-of_ids : (make : ℕ → Slot → Slot) (n : ℕ) → ((o : Slot) → make n (make n o) ≡ make n o) → (ids : List ℕ) (before : Slot) →
    all_made (λ x. x) make ids n before ≡ (if is_among ids n then make n before else before)
made-of_ids make n again ids before =
    all_made-is (λ x. x) make n (make n) again ids before (each ids) ∙ ap (λ (xs : List ℕ). if is_among xs n then make n before else before) (map-id ids)
  where
    each : (xs : List ℕ) → AllByRecursion (λ x. x ≡ n → (o : Slot) → make x o ≡ make n o) xs
    each [] = tt
    each (x ∷ xs) = (λ is o. ap (λ (i : ℕ). make i o) is, each xs)

-- the id at a place is among the ids, and also where those before it are left out
pub among-at : (ids : List ℕ) (k : ℕ) → k < length ids → is_among ids (get_or ids k 0) ≡ true
among-at ids k within = list_any_at (λ other. other == get_or ids k 0) ids k 0 within (grind (arith, nat_tests))

-- an id that stands once isn't among those after it
pub once-tail : (x : ℕ) (xs : List ℕ) → times_in x (x ∷ xs) ≤ 1 → is_among xs x ≡ false
once-tail x xs once = by_count xs (grind (arith, nat_tests, once))
  where
    by_count : (ys : List ℕ) → times_in x ys ≡ 0 → is_among ys x ≡ false
    by_count [] none = refl
    by_count (y ∷ ys) none = elim (cases_eq y x) [
      | inl here ↦ let is : (y == x) ≡ true = grind (arith, nat_tests) in absurd (omega (arith, none, ap {B = ℕ} (λ b. if b then 1 else 0) is))
      | inr other ↦
          let is : (y == x) ≡ false = grind (arith, nat_tests) in
          let rest : times_in x ys ≡ 0 = omega (arith, none) in
          ap (λ b. b || is_among ys x) is ∙ by_count ys rest
    ]

times-drop : (x k : ℕ) (xs : List ℕ) → times_in x (drop k xs) ≤ times_in x xs
times-drop x zero xs = omega arith
times-drop x (suc k) [] = omega arith
times-drop x (suc k) (y ∷ xs) = omega (arith, times-drop x k xs)

pub left-after : {X : Type 0} (xs : List X) (k : ℕ) (d : X) → k < length xs → drop k xs ≡ get_or xs k d ∷ drop (k + 1) xs
left-after xs k d within = let next : suc k ≡ k + 1 = omega arith in drop-cons xs k d within ∙ ap (λ (i : ℕ). get_or xs k d ∷ drop i xs) next

-- the one at a place is among those that are left there
pub among-left : (ids : List ℕ) (k : ℕ) → k < length ids → is_among (drop k ids) (get_or ids k 0) ≡ true
among-left ids k within =
    let same : (get_or ids k 0 == get_or ids k 0) ≡ true = grind (arith, nat_tests) in
    ap (λ (xs : List ℕ). is_among xs (get_or ids k 0)) (left-after ids k 0 within) ∙ ap (λ b. b || is_among (drop (k + 1) ids) (get_or ids k 0)) same

-- where each id stands once, what is made of one under its number leaves those under the ids that are left
pub stand-step : (ids : List ℕ) (k : ℕ) (made : ℕ → Slot) (before after : Lists) → k < length ids → ((id : ℕ) → times_in id ids ≤ 1) →
    ((n : ℕ) → list_under after n ≡ (if get_or ids k 0 == n then made n else list_under before n)) →
    ((id : ℕ) → is_among (drop k ids) id ≡ true → IsSome (list_under before id)) → (id : ℕ) → is_among (drop (k + 1) ids) id ≡ true → IsSome (list_under after id)
stand-step ids k made before after within once is stand id among = elim (cases_eq (get_or ids k 0) id) [
  | inl here ↦
      let few = times-drop id k ids in
      let left = ap (times_in id) (left-after ids k 0 within) in
      let one : times_in (get_or ids k 0) (get_or ids k 0 ∷ drop (k + 1) ids) ≤ 1 = subst (λ (x : ℕ). times_in x (get_or ids k 0 ∷ drop (k + 1) ids) ≤ 1) (sym here) (omega (arith, few, left, once id)) in
      absurd (false≢true (sym (once-tail (get_or ids k 0) (drop (k + 1) ids) one) ∙ ap (is_among (drop (k + 1) ids)) here ∙ among))
  | inr other ↦
      let apart : (get_or ids k 0 == id) ≡ false = grind (arith, nat_tests) in
      let there : is_among (drop k ids) id ≡ true = ap (λ (xs : List ℕ). is_among xs id) (left-after ids k 0 within) ∙ ap (λ b. b || is_among (drop (k + 1) ids) id) apart ∙ among in
      ap is_some (is id ∙ ap (λ (b : Bool). if b then made id else list_under before id) apart) ∙ stand id there
]

-- what holds of each holds of the one at a place
pub each-at : {X : Type 0} (P : X → Type 0) (xs : List X) (k : ℕ) (d : X) → AllByRecursion P xs → k < length xs → P (get_or xs k d)
each-at P [] k d all within = absurd (omega arith)
each-at P (x ∷ xs) zero d all within = all.0
each-at P (x ∷ xs) (suc k) d all within = each-at P xs k d all.1 (omega arith)

-- more room for lists
room-more : (items lists lists' : ℕ) (entry : Entry) → lists ≤ lists' → IsInRoom items lists entry → IsInRoom items lists' entry
room-more items lists lists' (Item i) more within = within
room-more items lists lists' (Sub l) more within = omega (arith, more, within)

pub all-room-more : (items lists lists' : ℕ) (entries : List Entry) → lists ≤ lists' → All (IsInRoom items lists) entries → All (IsInRoom items lists') entries
all-room-more items lists lists' entries more all = λ k none within. room-more items lists lists' (get_or entries k none) more (all k none within)
