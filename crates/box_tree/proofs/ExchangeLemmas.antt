-- One node after another is changed, taken out or put back: what each step leaves.
use Rattle.std.proofs.Common.{◌≡◌, ◌≢◌, ℕ, zero, suc, ◌<◌, ◌≤◌, ◌+◌, ◌==◌, List, [], ◌∷◌, ◌++◌, length, drop, get_or, Option, Some, None, IsSome, is_some, Bool, true, false, if◌then◌else◌, refl, sym, ap, ◌∙◌, subst, add-one, append_assoc, inl, inr, arith}
use mathlib.Core.Bool.{false≢true}
use Rattle.std.specs.Prelude.{Vec, vec_len, vec_capacity}
use Rattle.std.specs.declared.alloc.Global.{Global}
use Rattle.std.specs.Option.{option_or, option_map}
use Rattle.std.proofs.lemmas.Bool.{cases_eq}
use Rattle.std.proofs.lemmas.Bool.Decides.{nat_tests}
use Rattle.box_tree.specs.declared.node.Node.{Node}
use Rattle.box_tree.specs.declared.plan.Change.{Change}
use Rattle.box_tree.specs.declared.plan.Change.TheVariants.{Layout, Style, Form, Scroll}
use Rattle.box_tree.specs.declared.plan.Relocation.{Relocation}
use Rattle.box_tree.specs.Change.{changed}
use Rattle.box_tree.specs.Kept.{node_with, with_children, with_label}
use Rattle.box_tree.specs.Nodes.{NodesState, HasSameRoom, changed_at, ChangesAt}
use Rattle.box_tree.specs.Planned.{is_among, times_in, relocated, relocated_at, MayRelocate, MayRelocateAll}
use Rattle.box_tree.specs.Taken.{ids_of, AreFrom, CanBePut, CanTakeAdded}
use Rattle.box_tree.proofs.CountLemmas.{among-times, times_in-append, length-ids_of}
use Rattle.box_tree.proofs.KeptLemmas.{node_with-push, changed-none, changed-here, changed-other, relocated-among, relocated-apart}

-- no node is looked up where one was taken
pub absent_at : (taken look : ℕ → Option Node) (id id' : ℕ) → ((k : ℕ) → taken k ≡ (if id == k then None else look k)) → id' ≡ id → taken id' ≡ None
absent_at taken look id id' takes same =
    let here : (id == id') ≡ true = grind (arith, nat_tests) in
    takes id' ∙ ap (λ (b : Bool). if b then None else look id') here

-- the parent of a node that came has a child at its place once the node is taken
pub child_within : (taken look : ℕ → Option Node) (id parent place : ℕ) → CanTakeAdded id parent place look → ((k : ℕ) → taken k ≡ (if id == k then None else look k)) → (n : Node) → taken parent ≡ Some n → place < length n.children
child_within taken look id parent place can takes n found = elim (cases_eq id parent) [
  | inl here ↦ absurd (none_some (sym (absent_at taken look id parent takes (sym here)) ∙ found))
  | inr other ↦
      let is : (id == parent) ≡ false = grind (arith, nat_tests) in
      can.within other n (sym (takes parent ∙ ap (λ (b : Bool). if b then None else look parent) is) ∙ found)
]
  where
    none_some : None ≡ Some n → ⊥
    none_some is' = cc

-- a node that is taken, changed and put back is changed
pub changed_by : (old taken new : NodesState) (id : ℕ) (node node' : Node) (change : Node → Node) → Some node ≡ node_with old.nodes id →
    ((k : ℕ) → node_with taken.nodes k ≡ (if id == k then None else node_with old.nodes k)) → length taken.nodes + 1 ≡ length old.nodes → taken.room ≡ old.room → taken.ids ≡ old.ids →
    node' ≡ change node → node'.id ≡ id →
    ((k : ℕ) → node_with new.nodes k ≡ (if node'.id == k then Some node' else node_with taken.nodes k)) → length new.nodes ≡ length taken.nodes + 1 → new.room ≡ taken.room → new.ids ≡ taken.ids →
    ChangesAt old new id change
changed_by old taken new id node node' change found takes count room ids node_is id_is puts count' room' ids' = record {
  looked_up = λ k. puts k ∙ ap (λ i. if i == k then Some node' else node_with taken.nodes k) id_is ∙ ap (λ o. if id == k then Some node' else o) (takes k) ∙ at k;
  count = omega (arith, count, count');
  same_room = record { room = room' ∙ room; ids = ids' ∙ ids };
}
  where
    at : (k : ℕ) → (if id == k then Some node' else (if id == k then None else node_with old.nodes k)) ≡ changed_at id change k (node_with old.nodes k)
    at k = elim (cases_eq id k) [
      | inl here ↦
          let is : (id == k) ≡ true = grind (arith, nat_tests) in
          rw is (ap Some node_is ∙ ap (option_map change) (found ∙ ap (node_with old.nodes) here))
      | inr other ↦ let is : (id == k) ≡ false = grind (arith, nat_tests) in rw is refl
    ]

-- a changed node keeps its id
pub id-changed : (c : Change) (n : Node) → (with_label (changed c) n).id ≡ n.id
id-changed (Layout l) n = refl
id-changed (Style s) n = refl
id-changed (Form f) n = refl
id-changed (Scroll s) n = refl

-- the numbers from a place on begin with that at the place
pub drop_at : (xs : List ℕ) (i x d : ℕ) → i < length xs → get_or xs i d ≡ x → drop i xs ≡ x ∷ drop (i + 1) xs
drop_at [] i x d within is = absurd (omega arith)
drop_at (y ∷ ys) zero x d within is = ap (λ z. z ∷ ys) is
drop_at (y ∷ ys) (suc i) x d within is = drop_at ys i x d (omega arith) is ∙ ap (λ zs. x ∷ zs) one_more
  where
    one_more : drop (i + 1) ys ≡ drop (suc i + 1) (y ∷ ys)
    one_more = rw (add-one i, add-one (suc i)) refl

pub drop_all : (xs : List ℕ) (i : ℕ) → length xs ≤ i → drop i xs ≡ []
drop_all [] zero all = refl
drop_all [] (suc i) all = refl
drop_all (y ∷ ys) zero all = absurd (omega arith)
drop_all (y ∷ ys) (suc i) all = drop_all ys i (omega arith)

-- the first of numbers that stand once is not among the others
first_once : (x : ℕ) (rest : List ℕ) → ((k : ℕ) → times_in k (x ∷ rest) ≤ 1) → is_among rest x ≡ false
first_once x rest once = among-times rest x ∙ grind (arith, nat_tests, once x)

rest_once : (x : ℕ) (rest : List ℕ) → ((k : ℕ) → times_in k (x ∷ rest) ≤ 1) → (k : ℕ) → times_in k rest ≤ 1
rest_once x rest once k = omega (arith, once k)

-- nodes of these ids are relocated, but for the rest
pub record RelocatesUpTo (old now : NodesState) (r : Relocation) (ids rest : List ℕ) : Type 0 where
  pub looked_up : (k : ℕ) → relocated_at r rest k (node_with now.nodes k) ≡ relocated_at r ids k (node_with old.nodes k)
  pub count : length now.nodes ≡ length old.nodes
  pub same_room : HasSameRoom old now
  pub may : MayRelocateAll r rest (node_with now.nodes)

pub relocates_none : (old : NodesState) (r : Relocation) (ids : List ℕ) → MayRelocateAll r ids (node_with old.nodes) → RelocatesUpTo old old r ids ids
relocates_none old r ids may = record { looked_up = λ k. refl; count = refl; same_room = record { room = refl; ids = refl }; may = may }

-- the next node may be relocated
pub relocates_next : (old now : NodesState) (r : Relocation) (ids rest : List ℕ) (id : ℕ) → RelocatesUpTo old now r ids (id ∷ rest) → (n : Node) → node_with now.nodes id ≡ Some n → MayRelocate r n
relocates_next old now r ids rest id so n found = so.may.each id (grind (arith, nat_tests)) n found

-- other children change nothing of that
pub may_relocate_changed : (r : Relocation) (ids : List ℕ) (look look' : ℕ → Option Node) (parent : ℕ) (children : List ℕ) → MayRelocateAll r ids look → ((k : ℕ) → look' k ≡ changed_at parent (with_children children) k (look k)) → MayRelocateAll r ids look'
may_relocate_changed r ids look look' parent children may known = record {
  once = may.once;
  each = λ k among n found. by_look k among n (look k) refl (sym (known k) ∙ found);
}
  where
    by_look : (k : ℕ) → is_among ids k ≡ true → (n : Node) → (o : Option Node) → look k ≡ o → changed_at parent (with_children children) k o ≡ Some n → MayRelocate r n
    by_look k among n None is found = absurd (none_some (sym (changed-none parent (with_children children) k) ∙ found))
      where
        none_some : None ≡ Some n → ⊥
        none_some is' = cc
    by_look k among n (Some m) is found = by_test (parent == k) found
      where
        was : MayRelocate r m
        was = may.each k among m is

        by_test : (b : Bool) → (if b then option_map (with_children children) (Some m) else Some m) ≡ Some n → MayRelocate r n
        by_test true same =
            let depth_is : m.depth ≡ n.depth = (let n_is : with_children children m ≡ n = cc in ap (λ (x : Node). x.depth) n_is) in
            record { least = omega (arith, was.least, depth_is); most = omega (arith, was.most, depth_is); new_most = was.new_most }
        by_test false same = let n_is : m ≡ n = cc in subst (MayRelocate r) n_is was

pub relocates_more : (old now new : NodesState) (r : Relocation) (ids rest : List ℕ) (id : ℕ) → RelocatesUpTo old now r ids (id ∷ rest) → ChangesAt now new id (relocated r) → RelocatesUpTo old new r ids rest
relocates_more old now new r ids rest id so changes = record {
  looked_up = λ k. ap (relocated_at r rest k) (changes.looked_up k) ∙ one_more k ∙ so.looked_up k;
  count = changes.count ∙ so.count;
  same_room = record { room = changes.same_room.room ∙ so.same_room.room; ids = changes.same_room.ids ∙ so.same_room.ids };
  may = record {
    once = rest_once id rest so.may.once;
    each = λ k among n found.
        let other : id ≢ k = (λ here. false≢true (sym (first_once id rest so.may.once) ∙ ap (is_among rest) here ∙ among)) in
        let among' : is_among (id ∷ rest) k ≡ true = grind (arith, nat_tests) in
        so.may.each k among' n (sym (changed-other id (relocated r) k (node_with now.nodes k) other) ∙ sym (changes.looked_up k) ∙ found);
  };
}
  where
    one_more : (k : ℕ) → relocated_at r rest k (changed_at id (relocated r) k (node_with now.nodes k)) ≡ relocated_at r (id ∷ rest) k (node_with now.nodes k)
    one_more k = elim (cases_eq id k) [
      | inl here ↦
          let apart : is_among rest k ≡ false = ap (is_among rest) (sym here) ∙ first_once id rest so.may.once in
          let among : is_among (id ∷ rest) k ≡ true = grind (arith, nat_tests) in
          relocated-apart r rest k (changed_at id (relocated r) k (node_with now.nodes k)) apart ∙ changed-here id (relocated r) k (node_with now.nodes k) here ∙ sym (relocated-among r (id ∷ rest) k (node_with now.nodes k) among)
      | inr other ↦
          let same : is_among rest k ≡ is_among (id ∷ rest) k = grind (arith, nat_tests) in
          ap (relocated_at r rest k) (changed-other id (relocated r) k (node_with now.nodes k) other) ∙ ap (λ (b : Bool). if b then option_map (relocated r) (node_with now.nodes k) else node_with now.nodes k) same
    ]

-- nodes of these ids are taken out into a list, but for the rest
pub record TakesUpTo (old now : NodesState) (gone : Vec Node Global) (ids rest : List ℕ) : Type 0 where
  pub looked_up : (k : ℕ) → (if is_among rest k then None else node_with now.nodes k) ≡ (if is_among ids k then None else node_with old.nodes k)
  pub there : (k : ℕ) → is_among rest k ≡ true → (node_with now.nodes k ≡ node_with old.nodes k) × IsSome (node_with now.nodes k)
  pub count : length now.nodes + length gone.items ≡ length old.nodes
  pub same_room : HasSameRoom old now
  pub once : (k : ℕ) → times_in k rest ≤ 1
  pub ids_are : ids_of gone.items ++ rest ≡ ids
  pub from : AreFrom (node_with old.nodes) gone.items
  pub fits : vec_len gone + length rest ≤ vec_capacity gone

pub takes_none : (old : NodesState) (gone : Vec Node Global) (ids : List ℕ) → ((k : ℕ) → is_among ids k ≡ true → IsSome (node_with old.nodes k)) → ((k : ℕ) → times_in k ids ≤ 1) → gone.items ≡ [] → vec_len gone + length ids ≤ vec_capacity gone → TakesUpTo old old gone ids ids
takes_none old gone ids there once none fits = record {
  looked_up = λ k. refl;
  there = λ k among. (refl, there k among);
  count = omega (arith, ap (λ (ns : List Node). length ns) none);
  same_room = record { room = refl; ids = refl };
  once = once;
  ids_are = ap (λ ns. ids_of ns ++ ids) none;
  from = subst (AreFrom (node_with old.nodes)) (sym none) tt;
  fits = fits;
}

ids_of-push : (nodes : List Node) (n : Node) → ids_of (nodes ++ n ∷ []) ≡ ids_of nodes ++ n.id ∷ []
ids_of-push [] n = refl
ids_of-push (m ∷ nodes) n = ap (λ ids. m.id ∷ ids) (ids_of-push nodes n)

from-push : (look : ℕ → Option Node) (nodes : List Node) (n : Node) → AreFrom look nodes → look n.id ≡ Some n → AreFrom look (nodes ++ n ∷ [])
from-push look [] n from is = (is, tt)
from-push look (m ∷ nodes) n from is = (from.0, from-push look nodes n from.1 is)

-- the next id is there
pub takes_next : (old now : NodesState) (gone : Vec Node Global) (ids rest : List ℕ) (id : ℕ) → TakesUpTo old now gone ids (id ∷ rest) → IsSome (node_with now.nodes id)
takes_next old now gone ids rest id so = (so.there id (grind (arith, nat_tests))).1

pub takes_more : (old now new : NodesState) (gone gone' : Vec Node Global) (ids rest : List ℕ) (id : ℕ) (node : Node) → TakesUpTo old now gone ids (id ∷ rest) → Some node ≡ node_with now.nodes id → node.id ≡ id →
    ((k : ℕ) → node_with new.nodes k ≡ (if id == k then None else node_with now.nodes k)) → length new.nodes + 1 ≡ length now.nodes → new.room ≡ now.room → new.ids ≡ now.ids →
    gone'.items ≡ gone.items ++ node ∷ [] → vec_len gone' ≡ vec_len gone + 1 → vec_capacity gone' ≡ vec_capacity gone → TakesUpTo old new gone' ids rest
takes_more old now new gone gone' ids rest id node so found same takes count room ids_same items len capacity = record {
  looked_up = λ k. ap (λ o. if is_among rest k then None else o) (takes k) ∙ one_more k ∙ so.looked_up k;
  there = λ k among.
      let other : id ≢ k = (λ here. false≢true (sym (first_once id rest so.once) ∙ ap (is_among rest) here ∙ among)) in
      let stays : node_with new.nodes k ≡ node_with now.nodes k = takes k ∙ (let is : (id == k) ≡ false = grind (arith, nat_tests) in ap (λ (b : Bool). if b then None else node_with now.nodes k) is) in
      let was = so.there k (among_more k among) in
      (stays ∙ was.0, ap is_some stays ∙ was.1);
  count = omega (arith, count, so.count, ap (λ (ns : List Node). length ns) items, length-push gone.items node);
  same_room = record { room = room ∙ so.same_room.room; ids = ids_same ∙ so.same_room.ids };
  once = rest_once id rest so.once;
  ids_are = ap (λ ns. ids_of ns ++ rest) items ∙ ap (λ xs. xs ++ rest) (ids_of-push gone.items node ∙ ap (λ i. ids_of gone.items ++ i ∷ []) same) ∙ append_assoc (ids_of gone.items) (id ∷ []) rest ∙ so.ids_are;
  from = subst (AreFrom (node_with old.nodes)) (sym items) (from-push (node_with old.nodes) gone.items node so.from (ap (node_with old.nodes) same ∙ sym (so.there id (grind (arith, nat_tests))).0 ∙ sym found));
  fits = omega (arith, so.fits, len, capacity);
}
  where
    length-push : (nodes : List Node) (n : Node) → length (nodes ++ n ∷ []) ≡ length nodes + 1
    length-push [] n = refl
    length-push (m ∷ nodes) n = omega (arith, length-push nodes n)

    among_more : (k : ℕ) → is_among rest k ≡ true → is_among (id ∷ rest) k ≡ true
    among_more k among = grind (arith, nat_tests)

    one_more : (k : ℕ) → (if is_among rest k then None else (if id == k then None else node_with now.nodes k)) ≡ (if is_among (id ∷ rest) k then None else node_with now.nodes k)
    one_more k = elim (cases_eq id k) [
      | inl here ↦
          let is : (id == k) ≡ true = grind (arith, nat_tests) in
          let among : is_among (id ∷ rest) k ≡ true = grind (arith, nat_tests) in
          ap (λ (b : Bool). if is_among rest k then None else (if b then None else node_with now.nodes k)) is ∙ none_either (is_among rest k) ∙ ap (λ (b : Bool). if b then None else node_with now.nodes k) (sym among)
      | inr other ↦
          let is : (id == k) ≡ false = grind (arith, nat_tests) in
          let same' : is_among rest k ≡ is_among (id ∷ rest) k = grind (arith, nat_tests) in
          ap (λ (b : Bool). if is_among rest k then None else (if b then None else node_with now.nodes k)) is ∙ ap (λ (b : Bool). if b then None else node_with now.nodes k) same'
    ]
      where
        none_either : (b : Bool) → ◌≡◌ {A = Option Node} (if b then None else None) None
        none_either true = refl
        none_either false = refl

-- all are taken
pub record TakesAll (old new : NodesState) (gone : Vec Node Global) (ids : List ℕ) : Type 0 where
  pub looked_up : (k : ℕ) → node_with new.nodes k ≡ (if is_among ids k then None else node_with old.nodes k)
  pub count : length new.nodes + length ids ≡ length old.nodes
  pub ids_are : ids_of gone.items ≡ ids

pub takes_all : (old new : NodesState) (gone : Vec Node Global) (ids rest : List ℕ) → TakesUpTo old new gone ids rest → rest ≡ [] → TakesAll old new gone ids
takes_all old new gone ids rest so none =
    let ids_are : ids_of gone.items ≡ ids = sym (append-none (ids_of gone.items)) ∙ ap (λ xs. ids_of gone.items ++ xs) (sym none) ∙ so.ids_are in
    record {
      looked_up = λ k. ap (λ xs. if is_among xs k then None else node_with new.nodes k) (sym none) ∙ so.looked_up k;
      count = omega (arith, so.count, ap (λ (xs : List ℕ). length xs) ids_are, length-ids_of gone.items);
      ids_are = ids_are;
    }
  where
    append-none : (xs : List ℕ) → xs ++ [] ≡ xs
    append-none [] = refl
    append-none (x ∷ xs) = ap (λ ys. x ∷ ys) (append-none xs)

-- nodes of a list are put beside the others, but for the rest
pub record PutsUpTo (old now : NodesState) (gone rest : List Node) : Type 0 where
  pub looked_up : (k : ℕ) → option_or (node_with now.nodes k) (node_with rest k) ≡ option_or (node_with old.nodes k) (node_with gone k)
  pub count : length now.nodes + length rest ≡ length old.nodes + length gone
  pub same_room : HasSameRoom old now
  pub can : CanBePut rest (node_with now.nodes) (length now.nodes) now.room (λ k. k < now.ids)

pub puts_none : (old : NodesState) (gone : List Node) → CanBePut gone (node_with old.nodes) (length old.nodes) old.room (λ k. k < old.ids) → PutsUpTo old old gone gone
puts_none old gone can = record { looked_up = λ k. refl; count = refl; same_room = record { room = refl; ids = refl }; can = can }

-- the last of the nodes can be put
pub record CanPut (now : NodesState) (node : Node) : Type 0 where
  pub absent : node_with now.nodes node.id ≡ None
  pub fits : length now.nodes < now.room
  pub placed : node.id < now.ids

last_found : (rest : List Node) (node : Node) → IsSome (node_with (rest ++ node ∷ []) node.id)
last_found rest node = ap is_some (node_with-push rest node node.id) ∙ by_option (node_with rest node.id) (let here : (node.id == node.id) ≡ true = grind (arith, nat_tests) in here)
  where
    by_option : (o : Option Node) → (node.id == node.id) ≡ true → is_some (option_or o (if node.id == node.id then Some node else None)) ≡ true
    by_option None here = ap (λ (b : Bool). is_some (if b then Some node else None)) here
    by_option (Some n) here = refl

length-last : (nodes : List Node) (n : Node) → length (nodes ++ n ∷ []) ≡ length nodes + 1
length-last [] n = refl
length-last (m ∷ nodes) n = omega (arith, length-last nodes n)

pub puts_next : (old now : NodesState) (gone all rest : List Node) (node : Node) → PutsUpTo old now gone all → all ≡ rest ++ node ∷ [] → CanPut now node
puts_next old now gone all rest node so all_is =
    let found : IsSome (node_with all node.id) = ap (λ ns. is_some (node_with ns node.id)) all_is ∙ last_found rest node in
    record {
      absent = so.can.apart node.id found;
      fits = omega (arith, so.can.fits, ap (λ (ns : List Node). length ns) all_is, length-last rest node);
      placed = so.can.placed node.id found;
    }

-- 1 for true and 0 for false
abbrev one_if : Bool → ℕ
one_if b = if b then 1 else 0

pub puts_more : (old now new : NodesState) (gone all rest : List Node) (node : Node) → PutsUpTo old now gone all → all ≡ rest ++ node ∷ [] →
    ((k : ℕ) → node_with new.nodes k ≡ (if node.id == k then Some node else node_with now.nodes k)) → length new.nodes ≡ length now.nodes + 1 → new.room ≡ now.room → new.ids ≡ now.ids → PutsUpTo old new gone rest
puts_more old now new gone all rest node so all_is puts count room ids_same = record {
  looked_up = λ k. ap (λ o. option_or o (node_with rest k)) (puts k) ∙ at k ∙ so.looked_up k;
  count = omega (arith, count, so.count, ap (λ (ns : List Node). length ns) all_is, length-last rest node);
  same_room = record { room = room ∙ so.same_room.room; ids = ids_same ∙ so.same_room.ids };
  can = record {
    apart = λ k some. puts k ∙ apart k some;
    distinct = λ k. omega (arith, once k);
    fits = omega (arith, so.can.fits, count, room, ap (λ (ns : List Node). length ns) all_is, length-last rest node);
    placed = λ k some. omega (arith, so.can.placed k (in_all k some), ids_same);
  };
}
  where
    all_at : (k : ℕ) → node_with all k ≡ option_or (node_with rest k) (if node.id == k then Some node else None)
    all_at k = ap (λ ns. node_with ns k) all_is ∙ node_with-push rest node k

    in_all : (k : ℕ) → IsSome (node_with rest k) → IsSome (node_with all k)
    in_all k some = ap is_some (all_at k) ∙ by_option (node_with rest k) some
      where
        by_option : (o : Option Node) → is_some o ≡ true → is_some (option_or o (if node.id == k then Some node else None)) ≡ true
        by_option None is = absurd (false≢true is)
        by_option (Some n) is = refl

    once : (k : ℕ) → times_in k (ids_of rest) + one_if (node.id == k) ≤ 1
    once k = omega (arith, so.can.distinct k, ap (λ ns. times_in k (ids_of ns)) all_is, ap (times_in k) (ids_of-push rest node), times_in-append k (ids_of rest) (node.id ∷ []))

    -- a node of the rest stands among its ids
    stands : (nodes : List Node) (k : ℕ) → IsSome (node_with nodes k) → 0 < times_in k (ids_of nodes)
    stands [] k some = absurd (false≢true some)
    stands (n ∷ nodes) k some = elim (cases_eq n.id k) [
      | inl here ↦ grind (arith, nat_tests)
      | inr other ↦
          let is : (n.id == k) ≡ false = grind (arith, nat_tests) in
          let deeper : IsSome (node_with nodes k) = ap (λ (b : Bool). is_some (if b then Some n else node_with nodes k)) (sym is) ∙ some in
          omega (arith, stands nodes k deeper)
    ]

    apart : (k : ℕ) → IsSome (node_with rest k) → (if node.id == k then Some node else node_with now.nodes k) ≡ None
    apart k some =
        let other : (node.id == k) ≡ false = elim (cases_eq node.id k) [
          | inl here ↦
              let is : one_if (node.id == k) ≡ 1 = (let same : (node.id == k) ≡ true = grind (arith, nat_tests) in ap one_if same) in
              absurd (omega (arith, once k, is, stands rest k some))
          | inr other' ↦ grind (arith, nat_tests)
        ] in
        ap (λ (b : Bool). if b then Some node else node_with now.nodes k) other ∙ so.can.apart k (in_all k some)

    at : (k : ℕ) → option_or (if node.id == k then Some node else node_with now.nodes k) (node_with rest k) ≡ option_or (node_with now.nodes k) (node_with all k)
    at k = by_test (node.id == k) refl (all_at k) (node_with now.nodes k) refl
      where
        by_test : (b : Bool) → (node.id == k) ≡ b → node_with all k ≡ option_or (node_with rest k) (if b then Some node else None) → (o : Option Node) → node_with now.nodes k ≡ o → option_or (if b then Some node else o) (node_with rest k) ≡ option_or o (node_with all k)
        by_test true is all_is' (Some n) now_is = absurd (some_none (sym now_is ∙ (let here : node.id ≡ k = grind (arith, nat_tests) in ap (node_with now.nodes) (sym here) ∙ (puts_next old now gone all rest node so all_is).absent)))
          where
            some_none : Some n ≡ None → ⊥
            some_none is' = cc
        by_test true is all_is' None now_is = sym (all_is' ∙ ap (λ o. option_or o (Some node)) (none_of (node_with rest k) refl))
          where
            none_of : (o : Option Node) → node_with rest k ≡ o → o ≡ None
            none_of None seen = refl
            none_of (Some n) seen =
                let is_one : one_if (node.id == k) ≡ 1 = ap one_if is in
                absurd (omega (arith, once k, is_one, stands rest k (ap is_some seen)))
        by_test false is all_is' o now_is = ap (option_or o) (sym (all_is' ∙ or-nothing (node_with rest k)))
          where
            or-nothing : (p : Option Node) → option_or p None ≡ p
            or-nothing None = refl
            or-nothing (Some n) = refl
