-- What the items of a node are made of, where nodes are exchanged.
use Rattle.std.proofs.Common.{◌≡◌, ℕ, ◌==◌, List, Option, Some, None, Bool, true, false, if◌then◌else◌, refl, ◌∙◌}
use Rattle.std.specs.Option.{option_map}
use Rattle.box_tree.specs.declared.node.Node.{Node}
use Rattle.box_tree.specs.declared.plan.Relocation.{Relocation}
use Rattle.box_tree.specs.Kept.{with_children}
use Rattle.box_tree.specs.Nodes.{changed_at}
use Rattle.box_tree.specs.Planned.{is_among, relocated, moved_at, with_child_at}
use Rattle.box_tree.specs.Touched.{seen_of}

-- a change that leaves the kind and the boxes
pub seen-changed : (id : ℕ) (change : Node → Node) → ((n : Node) → seen_of (Some (change n)) ≡ seen_of (Some n)) → (k : ℕ) (o : Option Node) → seen_of (changed_at id change k o) ≡ seen_of o
seen-changed id change leaves k o = by_test (id == k) o
  where
    by_test : (b : Bool) (o : Option Node) → seen_of (if b then option_map change o else o) ≡ seen_of o
    by_test true None = refl
    by_test true (Some n) = leaves n
    by_test false o = refl

pub seen-children : (id : ℕ) (children : List ℕ) (k : ℕ) (o : Option Node) → seen_of (changed_at id (with_children children) k o) ≡ seen_of o
seen-children id children k o = seen-changed id (with_children children) (λ n. refl) k o

pub seen-child_at : (id place child k : ℕ) (o : Option Node) → seen_of (changed_at id (with_child_at place child) k o) ≡ seen_of o
seen-child_at id place child k o = seen-changed id (with_child_at place child) (λ n. refl) k o

pub seen-moved : (r : Relocation) (siblings children ids : List ℕ) (k : ℕ) (o : Option Node) → seen_of (moved_at r siblings children ids k o) ≡ seen_of o
seen-moved r siblings children ids k o =
    by_test (is_among ids k) (changed_at r.parent (with_children children) k (changed_at r.from (with_children siblings) k o))
    ∙ seen-children r.parent children k (changed_at r.from (with_children siblings) k o) ∙ seen-children r.from siblings k o
  where
    by_test : (b : Bool) (o : Option Node) → seen_of (if b then option_map (relocated r) o else o) ≡ seen_of o
    by_test true None = refl
    by_test true (Some n) = refl
    by_test false o = refl

-- a node that comes, and nodes that go
pub seen-added : (node : Node) (k : ℕ) (o o' : Option Node) → seen_of o' ≡ seen_of o → seen_of (if node.id == k then Some node else o') ≡ (if node.id == k then seen_of (Some node) else seen_of o)
seen-added node k o o' same = by_test (node.id == k)
  where
    by_test : (b : Bool) → seen_of (if b then Some node else o') ≡ (if b then seen_of (Some node) else seen_of o)
    by_test true = refl
    by_test false = same

pub seen-gone : (ids : List ℕ) (k : ℕ) (o o' : Option Node) → seen_of o' ≡ seen_of o → seen_of (if is_among ids k then None else o') ≡ (if is_among ids k then None else seen_of o)
seen-gone ids k o o' same = by_test (is_among ids k)
  where
    by_test : (b : Bool) → seen_of (if b then None else o') ≡ (if b then None else seen_of o)
    by_test true = refl
    by_test false = same
