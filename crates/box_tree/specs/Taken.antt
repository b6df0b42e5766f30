-- What an edit took out of the page or replaced, and the page before the edit by the page after it.
use Rattle.std.specs.Prelude.{◌≡◌, ◌≢◌, ℕ, ◌+◌, ◌-◌, ◌<◌, ◌≤◌, List, [], ◌∷◌, length, Option, None, Some, IsSome, if◌then◌else◌, ◌==◌}
use Rattle.std.specs.Option.{option_or, option_to_list}
use Rattle.std.specs.List.{remove}
use Rattle.box_tree.specs.declared.node.Node.{Node}
use Rattle.box_tree.specs.declared.edit.Done.{Done}
use Rattle.box_tree.specs.declared.edit.Done.TheVariants.{Node as NodeAdded, Done as EditDone}
use Rattle.box_tree.specs.declared.plan.Frame.{Frame}
use Rattle.box_tree.specs.declared.plan.Taken.{Taken}
use Rattle.box_tree.specs.declared.plan.Taken.TheVariants.{Added, Removed, Moved, Changed, Untouched}
use Rattle.box_tree.specs.Change.{changed}
use Rattle.box_tree.specs.Contents.{Contents, node_of}
use Rattle.box_tree.specs.Forest.{roots_of, node_count}
use Rattle.box_tree.specs.Kept.{node_with, with_children, with_label}
use Rattle.box_tree.specs.Nodes.{changed_at}
use Rattle.box_tree.specs.Planned.{times_in, moved_at, MayRelocateAll}
use Rattle.box_tree.specs.Totals.{sums_in}

-- a node without the child at a place
abbrev pub without_child_at : ℕ → Node → Node
without_child_at place n = with_children (remove n.children place) n

-- what is looked up of an id before an edit, by what is looked up after it
abbrev pub back_at : Taken → ℕ → Option Node → Option Node
back_at (Added id parent place) k o = if id == k then None else changed_at parent (without_child_at place) k o
back_at (Removed parent siblings nodes) k o = changed_at parent (with_children siblings) k (option_or o (node_with nodes.items k))
back_at (Moved place siblings children ids) k o = moved_at place siblings children ids k o
back_at (Changed id change) k o = changed_at id (with_label (changed change)) k o
back_at Untouched k o = o

-- how many nodes there are before an edit, by how many there are after it
abbrev pub count_back : Taken → ℕ → ℕ
count_back (Added id parent place) count = count - 1
count_back (Removed parent siblings nodes) count = count + length nodes.items
count_back (Moved place siblings children ids) count = count
count_back (Changed id change) count = count
count_back Untouched count = count

-- the ids of nodes
abbrev pub ids_of : List Node → List ℕ
ids_of [] = []
ids_of (n ∷ nodes) = n.id ∷ ids_of nodes

-- each of these nodes is looked up so by its id
abbrev pub AreFrom : (ℕ → Option Node) → List Node → Type 0
AreFrom look [] = Unit {0}
AreFrom look (n ∷ nodes) = (look n.id ≡ Some n) × AreFrom look nodes

-- nodes can be put beside those that are looked up so: they have other ids, each once, there is room, and each id has a place
pub record CanBePut (nodes : List Node) (look : ℕ → Option Node) (count room : ℕ) (HasPlace : ℕ → Type 0) : Type 0 where
  pub apart : (k : ℕ) → IsSome (node_with nodes k) → look k ≡ None
  pub distinct : (k : ℕ) → times_in k (ids_of nodes) ≤ 1
  pub fits : count + length nodes ≤ room
  pub placed : (k : ℕ) → IsSome (node_with nodes k) → HasPlace k

-- a node that came is there, and its parent, where another node is that, has a child at this place
pub record CanTakeAdded (id parent place : ℕ) (look : ℕ → Option Node) : Type 0 where
  pub there : IsSome (look id)
  pub within : id ≢ parent → (n : Node) → look parent ≡ Some n → place < length n.children

-- what was taken can go back
abbrev pub CanGoBack : Taken → (ℕ → Option Node) → ℕ → ℕ → (ℕ → Type 0) → Type 0
CanGoBack (Added id parent place) look count room HasPlace = CanTakeAdded id parent place look
CanGoBack (Removed parent siblings nodes) look count room HasPlace = CanBePut nodes.items look count room HasPlace
CanGoBack (Moved place siblings children ids) look count room HasPlace = MayRelocateAll place ids look
CanGoBack (Changed id change) look count room HasPlace = Unit {0}
CanGoBack Untouched look count room HasPlace = Unit {0}

-- what a page is beside its nodes
pub record IsFrame (frame : Frame) (page : Contents) : Type 0 where
  pub sums : frame.sums ≡ sums_in page.tree
  pub root : option_to_list frame.root ≡ roots_of page.tree
  pub viewport : frame.viewport ≡ page.viewport
  pub next : frame.next ≡ page.next

-- what was taken from a page, after which it is another one, in so much room
pub record IsTaken (taken : Taken) (before after : Contents) (room : ℕ) : Type 0 where
  pub looked_up : (k : ℕ) → node_of before k ≡ back_at taken k (node_of after k)
  pub count : node_count before.tree ≡ count_back taken (node_count after.tree)
  pub can_go_back : CanGoBack taken (node_of after) (node_count after.tree) room (λ k. (0 < k) × (k < after.next))
  pub fits : node_count before.tree ≤ room
  pub next : before.next ≤ after.next

-- what an edit answers, by what it took
abbrev pub answer_by : Taken → Done
answer_by (Added id parent place) = NodeAdded id
answer_by (Removed parent siblings nodes) = EditDone
answer_by (Moved place siblings children ids) = EditDone
answer_by (Changed id change) = EditDone
answer_by Untouched = EditDone
