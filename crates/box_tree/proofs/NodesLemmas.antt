-- Nodes in slots are looked up through the table, and a slot that is filled or cleared changes what is looked up of one id.
use Rattle.std.proofs.Common.{◌≡◌, ◌≢◌, ℕ, zero, suc, ◌<◌, ◌≤◌, ◌++◌, ◌==◌, if◌then◌else◌, cond, List, [], ◌∷◌, length, Option, Some, None, IsSome, is_some, count_by, set, take, replicate, refl, sym, ap, subst, ◌∙◌, inl, inr, arith}
use Rattle.std.specs.List.{filter_map}
use Rattle.std.specs.Option.{option_map}
use Rattle.std.proofs.lemmas.Bool.{cases_eq}
use Rattle.std.proofs.lemmas.Bool.Decides.{nat_tests}
use Rattle.std.proofs.lemmas.List.{get_or-set_same, get_or-set_other, take_all}
use Rattle.std.proofs.lemmas.List.Sums.{sum_by-cons}
use Rattle.std.proofs.lemmas.Option.{none-some, same_Some}
use Rattle.slab.specs.Slab.{Slab, get, values, Updates}
use Rattle.box_tree.specs.declared.node.Node.{Node}
use Rattle.box_tree.specs.Kept.{node_with}
use Rattle.box_tree.specs.Slots.{slot_of, node_in_slot, AreLedTo}

-- the nodes that slots hold
abbrev pub held : List (Option Node) → List Node
held slots = filter_map (λ slot. slot) slots

-- the id of a node, if it is there
abbrev id_of : Option Node → Option ℕ
id_of o = option_map (λ n. n.id) o

-- there are as many nodes as slots that hold one
pub length-held : (slots : List (Option Node)) → length (held slots) ≡ count_by is_some slots
length-held [] = refl
length-held (None ∷ rest) = omega (arith, length-held rest, sum_by-cons (λ o. cond (is_some o) 1 0) None rest)
length-held (Some n ∷ rest) = omega (arith, length-held rest, sum_by-cons (λ o. cond (is_some o) 1 0) (Some n) rest)

-- a node in a slot is looked up by its id, where no other has that id
node_with-held : (slots : List (Option Node)) (id slot : ℕ) (n : Node) → node_in_slot slots slot ≡ Some n → n.id ≡ id → ((k : ℕ) (m : Node) → node_in_slot slots k ≡ Some m → m.id ≡ id → m ≡ n) → node_with (held slots) id ≡ Some n
node_with-held [] id slot n is same only = absurd cc
node_with-held (None ∷ rest) id zero n is same only = absurd cc
node_with-held (None ∷ rest) id (suc slot) n is same only = node_with-held rest id slot n is same (λ k m. only (suc k) m)
node_with-held (Some first ∷ rest) id zero n is same only = grind (arith, nat_tests)
node_with-held (Some first ∷ rest) id (suc slot) n is same only =
    grind (arith, nat_tests, only 0 first refl, node_with-held rest id slot n is same (λ k m. only (suc k) m))

-- and nothing is looked up of an id that no node has
node_with-none_held : (slots : List (Option Node)) (id : ℕ) → ((k : ℕ) (m : Node) → node_in_slot slots k ≡ Some m → m.id ≢ id) → node_with (held slots) id ≡ None
node_with-none_held [] id none = refl
node_with-none_held (None ∷ rest) id none = node_with-none_held rest id (λ k m. none (suc k) m)
node_with-none_held (Some first ∷ rest) id none = grind (arith, nat_tests, none 0 first refl, node_with-none_held rest id (λ k m. none (suc k) m))

module _ (places : List (Option ℕ)) (slots : List (Option Node)) (led : AreLedTo places slots) where
  -- two ids do not lead to the same slot
  leads_once : (x y slot : ℕ) → slot_of places x ≡ Some slot → slot_of places y ≡ Some slot → x ≡ y
  leads_once x y slot first second = same_Some x y (sym (led.leads x slot first) ∙ led.leads y slot second)

  -- no id leads to a free slot
  leads_full : (x slot : ℕ) → slot_of places x ≡ Some slot → node_in_slot slots slot ≡ None → ⊥
  leads_full x slot is free = none-some x (sym (ap id_of free) ∙ led.leads x slot is)

  -- an id that leads nowhere has no node
  pub found-nowhere : (id : ℕ) → slot_of places id ≡ None → node_with (held slots) id ≡ None
  found-nowhere id is = node_with-none_held slots id (λ k m holds same. none-some k (sym is ∙ ap (slot_of places) (sym same) ∙ led.back k m holds))

  -- and one that leads to a slot has the node there
  pub found-at : (id slot : ℕ) → slot_of places id ≡ Some slot → node_with (held slots) id ≡ node_in_slot slots slot
  found-at id slot is = by_node (node_in_slot slots slot) refl (led.leads id slot is)
    where
      by_node : (o : Option Node) → node_in_slot slots slot ≡ o → id_of o ≡ Some id → node_with (held slots) id ≡ o
      by_node None read leads = absurd cc
      by_node (Some n) read leads = node_with-held slots id slot n read (same_Some n.id id leads) only
        where
          only : (k : ℕ) (m : Node) → node_in_slot slots k ≡ Some m → m.id ≡ id → m ≡ n
          only k m holds same =
              let to_k : slot_of places id ≡ Some k = ap (slot_of places) (sym same) ∙ led.back k m holds in
              let k_is : k ≡ slot = same_Some k slot (sym to_k ∙ is) in
              same_Some m n (sym holds ∙ ap (node_in_slot slots) k_is ∙ read)

  -- an id without a node leads nowhere
  leads-nowhere : (id : ℕ) → node_with (held slots) id ≡ None → slot_of places id ≡ None
  leads-nowhere id absent = by_slot (slot_of places id) refl
    where
      by_slot : (o : Option ℕ) → slot_of places id ≡ o → o ≡ None
      by_slot None is = refl
      by_slot (Some slot) is = absurd (leads_full id slot is (sym (found-at id slot is) ∙ absent))

  -- an id with a node leads to a slot
  pub leads-somewhere : (id : ℕ) → IsSome (node_with (held slots) id) → IsSome (slot_of places id)
  leads-somewhere id some = by_slot (slot_of places id) refl
    where
      by_slot : (o : Option ℕ) → slot_of places id ≡ o → IsSome o
      by_slot None is = subst IsSome (found-nowhere id is) some
      by_slot (Some slot) is = refl

  -- and that slot holds a node
  pub holds-some : (id slot : ℕ) → slot_of places id ≡ Some slot → IsSome (node_with (held slots) id) → IsSome (node_in_slot slots slot)
  holds-some id slot is some = subst IsSome (found-at id slot is) some

slot_of-more : (places : List (Option ℕ)) (m x : ℕ) → slot_of (places ++ replicate m None) x ≡ slot_of places x
slot_of-more [] zero x = refl
slot_of-more [] (suc m) zero = refl
slot_of-more [] (suc m) (suc x) = slot_of-more [] m x
slot_of-more (p ∷ places) m zero = refl
slot_of-more (p ∷ places) m (suc x) = slot_of-more places m x

pub slot_of-resized : (places : List (Option ℕ)) (n m x : ℕ) → length places ≤ n → slot_of (take n places ++ replicate m None) x ≡ slot_of places x
slot_of-resized places n m x enough = rw (take_all n places enough) (slot_of-more places m x)

-- an id that has a slot has a place in the table
within-places : (places : List (Option ℕ)) (id slot : ℕ) → slot_of places id ≡ Some slot → id < length places
within-places [] id slot is = absurd cc
within-places (p ∷ places) zero slot is = omega arith
within-places (p ∷ places) (suc id) slot is = omega (arith, within-places places id slot is)

module _ (places : List (Option ℕ)) (old new : Slab Node) (led : AreLedTo places old.slots) where
  -- an id that does not lead to the slot that changes is looked up as before
  found-elsewhere : (slot x : ℕ) (o : Option Node) (after : List (Option ℕ)) → AreLedTo after new.slots → slot_of after x ≡ slot_of places x → Updates old new slot o → slot_of places x ≢ Some slot → node_with (values new) x ≡ node_with (values old) x
  found-elsewhere slot x o after led_after same updates apart = by_slot (slot_of places x) refl
    where
      by_slot : (p : Option ℕ) → slot_of places x ≡ p → node_with (values new) x ≡ node_with (values old) x
      by_slot None is = found-nowhere after new.slots led_after x (same ∙ is) ∙ sym (found-nowhere places old.slots led x is)
      by_slot (Some k) is =
          found-at after new.slots led_after x k (same ∙ is) ∙ updates.others k (λ e. apart (is ∙ ap Some e)) ∙ sym (found-at places old.slots led x k is)

  -- a node is put into a free slot
  module _ (slot : ℕ) (n : Node) (placed : n.id < length places) (absent : node_with (values old) n.id ≡ None) (free : get old slot ≡ None) (updates : Updates old new slot (Some n)) where
    apart-put : (x : ℕ) → slot_of places x ≢ Some slot
    apart-put x is = leads_full places old.slots led x slot is free

    leads-put : (x k : ℕ) → slot_of (set places n.id (Some slot)) x ≡ Some k → id_of (get new k) ≡ Some x
    leads-put x k is = elim (cases_eq x n.id) [
      | inl same ↦
          let k_is : slot ≡ k = same_Some slot k (sym (get_or-set_same places n.id (Some slot) None placed) ∙ ap (slot_of (set places n.id (Some slot))) (sym same) ∙ is) in
          ap (λ (y : ℕ). id_of (get new y)) (sym k_is) ∙ ap id_of updates.changed ∙ ap Some (sym same)
      | inr differs ↦
          let before : slot_of places x ≡ Some k = sym (get_or-set_other places n.id x (Some slot) None differs) ∙ is in
          ap id_of (updates.others k (λ e. apart-put x (before ∙ ap Some e))) ∙ led.leads x k before
    ]

    back-put : (k : ℕ) (m : Node) → get new k ≡ Some m → slot_of (set places n.id (Some slot)) m.id ≡ Some k
    back-put k m holds = elim (cases_eq k slot) [
      | inl same ↦
          let m_is : m ≡ n = same_Some m n (sym holds ∙ ap (get new) same ∙ updates.changed) in
          ap (λ (y : Node). slot_of (set places n.id (Some slot)) y.id) m_is ∙ get_or-set_same places n.id (Some slot) None placed ∙ ap Some (sym same)
      | inr differs ↦
          let before : slot_of places m.id ≡ Some k = led.back k m (sym (updates.others k differs) ∙ holds) in
          get_or-set_other places n.id m.id (Some slot) None (λ e. none-some k (sym (leads-nowhere places old.slots led n.id absent) ∙ ap (slot_of places) (sym e) ∙ before)) ∙ before
    ]

    pub led-put : AreLedTo (set places n.id (Some slot)) new.slots
    led-put = record { leads = leads-put; back = back-put }

    pub found-put : (x : ℕ) → node_with (values new) x ≡ (if n.id == x then Some n else node_with (values old) x)
    found-put x = elim (cases_eq x n.id) [
      | inl same ↦
          let here : node_with (values new) n.id ≡ Some n = found-at _ new.slots led-put n.id slot (get_or-set_same places n.id (Some slot) None placed) ∙ updates.changed in
          let there : node_with (values new) x ≡ Some n = ap (node_with (values new)) same ∙ here in
          grind (arith, nat_tests)
      | inr differs ↦
          let there : node_with (values new) x ≡ node_with (values old) x = found-elsewhere slot x (Some n) _ led-put (get_or-set_other places n.id x (Some slot) None differs) updates (apart-put x) in
          grind (arith, nat_tests)
    ]

  -- the node of an id is taken out of its slot
  module _ (id slot : ℕ) (is : slot_of places id ≡ Some slot) (updates : Updates old new slot None) where
    pub placed-take : id < length places
    placed-take = within-places places id slot is

    apart-take : (x : ℕ) → x ≢ id → slot_of places x ≢ Some slot
    apart-take x differs to_slot = differs (leads_once places old.slots led x id slot to_slot is)

    leads-take : (x k : ℕ) → slot_of (set places id None) x ≡ Some k → id_of (get new k) ≡ Some x
    leads-take x k leads = elim (cases_eq x id) [
      | inl same ↦ absurd (none-some k (sym (get_or-set_same places id None None placed-take) ∙ ap (slot_of (set places id None)) (sym same) ∙ leads))
      | inr differs ↦
          let before : slot_of places x ≡ Some k = sym (get_or-set_other places id x None None differs) ∙ leads in
          ap id_of (updates.others k (λ e. apart-take x differs (before ∙ ap Some e))) ∙ led.leads x k before
    ]

    back-take : (k : ℕ) (m : Node) → get new k ≡ Some m → slot_of (set places id None) m.id ≡ Some k
    back-take k m holds = elim (cases_eq k slot) [
      | inl same ↦ absurd (none-some m (sym updates.changed ∙ ap (get new) (sym same) ∙ holds))
      | inr differs ↦
          let before : slot_of places m.id ≡ Some k = led.back k m (sym (updates.others k differs) ∙ holds) in
          get_or-set_other places id m.id None None (λ e. differs (same_Some k slot (sym before ∙ ap (slot_of places) e ∙ is))) ∙ before
    ]

    pub led-take : AreLedTo (set places id None) new.slots
    led-take = record { leads = leads-take; back = back-take }

    pub found-take : (x : ℕ) → node_with (values new) x ≡ (if id == x then None else node_with (values old) x)
    found-take x = elim (cases_eq x id) [
      | inl same ↦
          let here : node_with (values new) id ≡ None = found-nowhere _ new.slots led-take id (get_or-set_same places id None None placed-take) in
          let there : node_with (values new) x ≡ None = ap (node_with (values new)) same ∙ here in
          grind (arith, nat_tests)
      | inr differs ↦
          let there : node_with (values new) x ≡ node_with (values old) x = found-elsewhere slot x None _ led-take (get_or-set_other places id x None None differs) updates (apart-take x differs) in
          grind (arith, nat_tests)
    ]
