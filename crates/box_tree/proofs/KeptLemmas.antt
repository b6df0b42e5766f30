-- Looking an id up in nodes: what an exchange does to it, and how it goes back.
use Rattle.std.proofs.Common.{◌≡◌, ◌≢◌, ℕ, zero, suc, ◌<◌, ◌≤◌, ◌==◌, List, [], ◌∷◌, ◌++◌, length, Option, Some, None, is_some, Bool, true, false, if◌then◌else◌, refl, sym, ap, ◌∙◌, inl, inr, arith}
use Rattle.std.specs.Option.{option_or, option_map, option_map_or}
use Rattle.std.specs.List.{insert, remove}
use Rattle.std.proofs.lemmas.List.Edits.{length-insert}
use Rattle.std.proofs.lemmas.Bool.{cases_eq}
use Rattle.std.proofs.lemmas.Bool.Decides.{nat_tests}
use Rattle.box_tree.specs.declared.node.Node.{Node}
use Rattle.box_tree.specs.declared.plan.Change.{Change}
use Rattle.box_tree.specs.declared.plan.Change.TheVariants.{Layout, Style, Form, Scroll}
use Rattle.box_tree.specs.declared.plan.Relocation.{Relocation}
use Rattle.box_tree.specs.Change.{changed, given_up}
use Rattle.box_tree.specs.Kept.{node_with, label_of, with_children, with_label}
use Rattle.box_tree.specs.Nodes.{changed_at}
use Rattle.box_tree.specs.Planned.{with_child_at, is_among, relocated, relocated_at}
use Rattle.box_tree.specs.Taken.{without_child_at, ids_of, AreFrom}
use Rattle.box_tree.proofs.ForestLemmas.{with_child}

-- looking an id up where a node follows
pub node_with-push : (nodes : List Node) (n : Node) (id : ℕ) → node_with (nodes ++ n ∷ []) id ≡ option_or (node_with nodes id) (if n.id == id then Some n else None)
node_with-push [] n id = refl
node_with-push (first ∷ nodes) n id = grind (arith, nat_tests, node_with-push nodes n id)

-- the node that is found has the id
pub id-node_with : (nodes : List Node) (id : ℕ) (n : Node) → node_with nodes id ≡ Some n → n.id ≡ id
id-node_with [] id n is = absurd cc
id-node_with (first ∷ nodes) id n is = grind (arith, nat_tests, id-node_with nodes id n)

-- nodes that were taken are looked up as they were before
pub node_with-from : (nodes : List Node) (look : ℕ → Option Node) (k : ℕ) → AreFrom look nodes → node_with nodes k ≡ (if is_among (ids_of nodes) k then look k else None)
node_with-from [] look k from = refl
node_with-from (n ∷ nodes) look k from = elim (cases_eq n.id k) [
  | inl here ↦ let found : look k ≡ Some n = ap look (sym here) ∙ from.0 in grind (arith, nat_tests)
  | inr other ↦ grind (arith, nat_tests, node_with-from nodes look k from.1)
]

-- no node, and another one, are not changed
pub changed-none : (id : ℕ) (change : Node → Node) (k : ℕ) → changed_at id change k None ≡ None
changed-none id change k = by_test (id == k)
  where
    by_test : (b : Bool) → (if b then option_map change None else None) ≡ None
    by_test true = refl
    by_test false = refl

pub changed-other : (id : ℕ) (change : Node → Node) (k : ℕ) (o : Option Node) → id ≢ k → changed_at id change k o ≡ o
changed-other id change k o other = let is : (id == k) ≡ false = grind (arith, nat_tests) in rw is refl

pub changed-here : (id : ℕ) (change : Node → Node) (k : ℕ) (o : Option Node) → id ≡ k → changed_at id change k o ≡ option_map change o
changed-here id change k o here = let is : (id == k) ≡ true = grind (arith, nat_tests) in rw is refl

pub is_some-changed : (id : ℕ) (change : Node → Node) (k : ℕ) (o : Option Node) → is_some (changed_at id change k o) ≡ is_some o
is_some-changed id change k None = ap is_some (changed-none id change k)
is_some-changed id change k (Some n) = by_test (id == k)
  where
    by_test : (b : Bool) → is_some (if b then option_map change (Some n) else Some n) ≡ true
    by_test true = refl
    by_test false = refl

-- a change goes back where it does so for the node that was there
pub changed-back : (id : ℕ) (change back : Node → Node) (look : ℕ → Option Node) → ((n : Node) → look id ≡ Some n → back (change n) ≡ n) → (k : ℕ) → changed_at id back k (changed_at id change k (look k)) ≡ look k
changed-back id change back look goes k = elim (cases_eq id k) [
  | inl here ↦ changed-here id back k _ here ∙ ap (option_map back) (changed-here id change k (look k) here) ∙ by_look (look k) refl here
  | inr other ↦ changed-other id back k _ other ∙ changed-other id change k (look k) other
]
  where
    by_look : (o : Option Node) → look k ≡ o → id ≡ k → option_map back (option_map change o) ≡ o
    by_look None is here = refl
    by_look (Some n) is here = ap Some (goes n (ap look here ∙ is))

-- an id that is put at a place and taken out there
remove-insert : (ids : List ℕ) (place id : ℕ) → place ≤ length ids → remove (insert ids place id) place ≡ ids
remove-insert [] zero id within = refl
remove-insert [] (suc place) id within = absurd (omega arith)
remove-insert (first ∷ ids) zero id within = refl
remove-insert (first ∷ ids) (suc place) id within = ap (λ rest. first ∷ rest) (remove-insert ids place id (omega (arith, within)))

-- a child goes back from its place
pub child-back : (place child : ℕ) (n : Node) → place ≤ length n.children → without_child_at place (with_child_at place child n) ≡ n
child-back place child n within = rw (remove-insert n.children place child within) refl

-- a node with one child more has a child at its place
pub child_at : (place child : ℕ) (o : Option Node) (n : Node) → place ≤ option_map_or (λ (m : Node). length m.children) o place → option_map (with_child_at place child) o ≡ Some n → place < length n.children
child_at place child None n within is = absurd cc
child_at place child (Some m) n within is =
    let n_is : with_child_at place child m ≡ n = cc in
    omega (arith, within, length-insert m.children place child within, ap (λ (x : Node). length x.children) n_is)

-- and so do children, by those that were there
pub children-back : (parent : ℕ) (children had : List ℕ) (look : ℕ → Option Node) → had ≡ option_map_or (λ (n : Node). n.children) (look parent) children → (k : ℕ) → changed_at parent (with_children had) k (changed_at parent (with_children children) k (look k)) ≡ look k
children-back parent children had look had_is k = changed-back parent (with_children children) (with_children had) look (λ n is. goes n (had_is ∙ ap (λ o. option_map_or (λ (m : Node). m.children) o children) is)) k
  where
    goes : (n : Node) → had ≡ n.children → with_children had (with_children children n) ≡ n
    goes n is = rw is refl

-- and a change of what a node has
pub change-back : (id : ℕ) (change had : Change) (look : ℕ → Option Node) → had ≡ option_map_or (λ (n : Node). given_up change (label_of n)) (look id) change → (k : ℕ) → changed_at id (with_label (changed had)) k (changed_at id (with_label (changed change)) k (look k)) ≡ look k
change-back id change had look had_is k = changed-back id (with_label (changed change)) (with_label (changed had)) look (λ n is. goes change n (had_is ∙ ap (λ o. option_map_or (λ (m : Node). given_up change (label_of m)) o change) is)) k
  where
    goes : (c : Change) (n : Node) → had ≡ given_up c (label_of n) → with_label (changed had) (with_label (changed c) n) ≡ n
    goes (Layout l) n is = rw is refl
    goes (Style s) n is = rw is refl
    goes (Form f) n is = rw is refl
    goes (Scroll s) n is = rw is refl

-- a node that gets one more child
pub child_more : (parent at child : ℕ) (children : List ℕ) (k : ℕ) (o : Option Node) → ((n : Node) → o ≡ Some n → n.id ≡ k) → (parent ≡ k → children ≡ option_map_or (λ (n : Node). insert n.children at child) o []) → changed_at parent (with_children children) k o ≡ option_map (with_child parent at child) o
child_more parent at child children k None id_is children_are = changed-none parent (with_children children) k
child_more parent at child children k (Some n) id_is children_are = elim (cases_eq parent k) [
  | inl here ↦
      let is : children ≡ insert n.children at child = children_are here in
      let same : n.id ≡ parent = id_is n refl ∙ sym here in
      changed-here parent (with_children children) k (Some n) here ∙ ap (λ c. Some (with_children c n)) is ∙ (let more : Some (with_children (insert n.children at child) n) ≡ Some (with_child parent at child n) = grind (arith, nat_tests) in more)
  | inr other ↦
      let apart : n.id ≢ parent = (λ same. other (sym same ∙ id_is n refl)) in
      changed-other parent (with_children children) k (Some n) other ∙ (let none : Some n ≡ Some (with_child parent at child n) = grind (arith, nat_tests) in none)
]

-- the same, by the children that it has
pub child_put : (parent at child : ℕ) (k : ℕ) (o : Option Node) → ((n : Node) → o ≡ Some n → n.id ≡ k) → changed_at parent (with_child_at at child) k o ≡ option_map (with_child parent at child) o
child_put parent at child k None id_is = changed-none parent (with_child_at at child) k
child_put parent at child k (Some n) id_is = child_more parent at child (insert n.children at child) k (Some n) id_is (λ here. refl)

-- relocated nodes are changed as the others
pub relocated-among : (r : Relocation) (ids : List ℕ) (k : ℕ) (o : Option Node) → is_among ids k ≡ true → relocated_at r ids k o ≡ option_map (relocated r) o
relocated-among r ids k o among = rw among refl

pub relocated-apart : (r : Relocation) (ids : List ℕ) (k : ℕ) (o : Option Node) → is_among ids k ≡ false → relocated_at r ids k o ≡ o
relocated-apart r ids k o apart = rw apart refl

pub relocated-changed : (r : Relocation) (ids : List ℕ) (parent : ℕ) (children : List ℕ) (k : ℕ) (o : Option Node) → changed_at parent (with_children children) k (relocated_at r ids k o) ≡ relocated_at r ids k (changed_at parent (with_children children) k o)
relocated-changed r ids parent children k o = by_tests (parent == k) (is_among ids k) o
  where
    by_tests : (a b : Bool) (o' : Option Node) →
        (let inner = (if b then option_map (relocated r) o' else o') in if a then option_map (with_children children) inner else inner)
        ≡ (let inner = (if a then option_map (with_children children) o' else o') in if b then option_map (relocated r) inner else inner)
    by_tests true true None = refl
    by_tests true true (Some n) = refl
    by_tests true false o' = refl
    by_tests false b o' = refl
