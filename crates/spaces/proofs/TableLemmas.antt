-- Entries in the slots of a table, and those of a change.
use Rattle.std.proofs.Common.{◌≡◌, ◌≢◌, ℕ, zero, suc, ◌<◌, ◌==◌, ◌++◌, List, [], ◌∷◌, length, replicate, set, Option, Some, None, is_some, Bool, true, false, if◌then◌else◌, refl, sym, ap, ◌∙◌, inl, inr, arith}
use Rattle.std.specs.Prelude.{◌||◌}
use Rattle.std.specs.Ordering.{nat_cmp}
use Rattle.std.specs.Cmp.{unsigned_tied, nat_cmp_total, eq_by_cmp_equiv}
use Rattle.std.specs.BTreeMap.{is_at}
use Rattle.std.specs.List.Sorted.{IsStrictlySortedBy}
use Rattle.std.specs.Map.{keys_of}
use Rattle.std.specs.Option.{option_or}
use Rattle.std.proofs.lemmas.Bool.{cases_eq}
use Rattle.std.proofs.lemmas.Bool.Decides.{nat_tests}
use Rattle.std.proofs.lemmas.List.{get_or-set_same, get_or-set_other}
use Rattle.std.proofs.lemmas.Map.{lookup-none}
use Rattle.std.proofs.lemmas.Map.Entries.{lookup_head, lookup_tail, none_past_head}
use Rattle.std.proofs.lemmas.Map.Keys.{IsDistinct-from_sorted, sorted_tail}
use Rattle.box_tree.specs.Planned.{is_among}
use Rattle.spaces.specs.declared.table.entry.Entry.{Entry}
use Rattle.spaces.specs.Table.{entry_under, new_entry, FitsIn}

-- ids without an entry at the end of a table
under-none : (n id : ℕ) → entry_under (replicate n None) id ≡ None
under-none zero id = refl
under-none (suc n) zero = refl
under-none (suc n) (suc id) = under-none n id

pub under-longer : (table : List (Option Entry)) (n id : ℕ) → entry_under (table ++ replicate n None) id ≡ entry_under table id
under-longer [] n id = under-none n id
under-longer (entry ∷ table) n zero = refl
under-longer (entry ∷ table) n (suc id) = under-longer table n id

-- an entry in its slot
pub under-set : (table : List (Option Entry)) (id x : ℕ) (entry : Option Entry) → id < length table → entry_under (set table id entry) x ≡ (if id == x then entry else entry_under table x)
under-set table id x entry within = elim (cases_eq id x) [
  | inl here ↦
      let same : (id == x) ≡ true = grind (arith, nat_tests) in
      ap (λ (k : ℕ). entry_under (set table id entry) k) (sym here) ∙ get_or-set_same table id entry None within ∙ sym (ap (λ (b : Bool). if b then entry else entry_under table x) same)
  | inr other ↦
      let apart : (id == x) ≡ false = grind (arith, nat_tests) in
      get_or-set_other table id x entry None (λ e. other (sym e)) ∙ sym (ap (λ (b : Bool). if b then entry else entry_under table x) apart)
]

-- an id is at itself alone
pub at-id : (id x : ℕ) → is_at (nat_cmp id) x ≡ (id == x)
at-id id x = unsigned_tied id x

-- one pair, and then the others
pub new_entry-head : (x : ℕ) (e : ℕ × Entry) (change : List (ℕ × Entry)) → x ≡ e.0 → new_entry (e ∷ change) x ≡ Some e.1
new_entry-head x e change here = lookup_head (is_at (nat_cmp x)) e change (at-id x e.0 ∙ grind (arith, nat_tests))

pub new_entry-tail : (x : ℕ) (e : ℕ × Entry) (change : List (ℕ × Entry)) → x ≢ e.0 → new_entry (e ∷ change) x ≡ new_entry change x
new_entry-tail x e change other = lookup_tail (is_at (nat_cmp x)) e change (at-id x e.0 ∙ grind (arith, nat_tests))

-- what pairs make of the entry of an id, one after another
abbrev pub put_all : List (ℕ × Entry) → ℕ → Option Entry → Option Entry
put_all [] x before = before
put_all (e ∷ change) x before = put_all change x (if e.0 == x then Some e.1 else before)

-- the new entry where ids differ, and else the one before
pub put_all-is : (change : List (ℕ × Entry)) (x : ℕ) (before : Option Entry) → IsStrictlySortedBy nat_cmp (keys_of change) → put_all change x before ≡ option_or (new_entry change x) before
put_all-is [] x before sorted = refl
put_all-is (e ∷ change) x before sorted = elim (cases_eq x e.0) [
  | inl here ↦
      let same : (e.0 == x) ≡ true = grind (arith, nat_tests) in
      let none : new_entry change x ≡ None = lookup-none (is_at (nat_cmp x)) change (none_past_head (eq_by_cmp_equiv nat_cmp_total) x e change (IsDistinct-from_sorted nat_cmp (keys_of (e ∷ change)) sorted) (at-id x e.0 ∙ grind (arith, nat_tests))) in
      ap (λ (b : Bool). put_all change x (if b then Some e.1 else before)) same
      ∙ put_all-is change x (Some e.1) (sorted_tail nat_cmp e.0 (keys_of change) sorted)
      ∙ ap (λ (o : Option Entry). option_or o (Some e.1)) none
      ∙ sym (ap (λ (o : Option Entry). option_or o before) (new_entry-head x e change here))
  | inr other ↦
      let apart : (e.0 == x) ≡ false = grind (arith, nat_tests) in
      ap (λ (b : Bool). put_all change x (if b then Some e.1 else before)) apart
      ∙ put_all-is change x before (sorted_tail nat_cmp e.0 (keys_of change) sorted)
      ∙ sym (ap (λ (o : Option Entry). option_or o before) (new_entry-tail x e change other))
]

-- the ids of pairs that are left are below the room too
pub fits-head : (room : ℕ) (e : ℕ × Entry) (change : List (ℕ × Entry)) → FitsIn room (e ∷ change) → e.0 < room
fits-head room e change fits = fits e.0 (ap is_some (new_entry-head e.0 e change refl))

pub fits-tail : (room : ℕ) (e : ℕ × Entry) (change : List (ℕ × Entry)) → FitsIn room (e ∷ change) → FitsIn room change
fits-tail room e change fits = λ x there. elim (cases_eq x e.0) [
  | inl here ↦ rw here (fits-head room e change fits)
  | inr other ↦ fits x (ap is_some (new_entry-tail x e change other) ∙ there)
]

-- one entry more in its slot
pub put_all-step : (table : List (Option Entry)) (left rest : List (ℕ × Entry)) (id : ℕ) (entry : Entry) → left ≡ (id, entry) ∷ rest → id < length table → (x : ℕ) →
    put_all rest x (entry_under (set table id (Some entry)) x) ≡ put_all left x (entry_under table x)
put_all-step table left rest id entry left_is within x =
    ap (put_all rest x) (under-set table id x (Some entry) within) ∙ sym (ap (λ (change : List (ℕ × Entry)). put_all change x (entry_under table x)) left_is)

-- what is left of an entry once the ids are taken out one after another
abbrev pub cleared : List ℕ → ℕ → Option Entry → Option Entry
cleared [] x before = before
cleared (id ∷ ids) x before = cleared ids x (if id == x then None else before)

pub cleared-is : (ids : List ℕ) (x : ℕ) (before : Option Entry) → cleared ids x before ≡ (if is_among ids x then None else before)
cleared-is [] x before = refl
cleared-is (id ∷ ids) x before = cleared-is ids x (if id == x then None else before) ∙ by_tests (id == x) (is_among ids x)
  where
    by_tests : (first others : Bool) → (if others then None else (if first then None else before)) ≡ (if first || others then None else before)
    by_tests true true = refl
    by_tests true false = refl
    by_tests false others = refl
