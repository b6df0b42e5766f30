-- Which nodes an edit gives other items.
use Rattle.std.specs.Prelude.{◌≡◌, ℕ, ◌+◌, ◌<◌, ◌≤◌, ◌==◌, if◌then◌else◌, List, [], length, Option, Some, None, IfSome, sum_by, vec_len, vec_capacity}
use Rattle.std.specs.Option.{option_map}
use Rattle.box_tree.specs.declared.items.Spare.{Spare}
use Rattle.box_tree.specs.declared.kind.Kind.{Kind}
use Rattle.box_tree.specs.declared.kind.Kind.TheVariants.{Image, Shape}
use Rattle.box_tree.specs.declared.node.Node.{Node}
use Rattle.box_tree.specs.declared.page.numbers.Touched.{Touched}
use Rattle.box_tree.specs.declared.piece.Piece.{Piece}
use Rattle.box_tree.specs.declared.plan.Layout.{Layout as Laid}
use Rattle.box_tree.specs.declared.plan.Change.TheVariants.{Layout}
use Rattle.box_tree.specs.declared.plan.Plan.{Plan}
use Rattle.box_tree.specs.declared.plan.Plan.TheVariants.{AddNode, RemoveNodes, ChangeNode}
use Rattle.box_tree.specs.Change.{changed}
use Rattle.box_tree.specs.Contents.{Contents, node_of}
use Rattle.box_tree.specs.Kept.{with_label}
use Rattle.box_tree.specs.Nodes.{changed_at}
use Rattle.box_tree.specs.Planned.{is_among}
use Rattle.box_tree.specs.Numbers.{ItemsState, numbers_of}
use Rattle.box_tree.specs.Renumbered.{IsResized, IsTakenFrom}

-- how many items a node of a kind has that suits it with so many boxes
abbrev pub item_count_of : Kind → ℕ → ℕ
item_count_of Image boxes = if boxes == 0 then 0 else 2
item_count_of Shape boxes = 1
item_count_of kind boxes = boxes

-- a node that is laid out
abbrev pub touched_as : ℕ → Laid → Node → Touched
touched_as id l n = record { id = id; kind = n.kind; count = item_count_of n.kind (length l.boxes) }

-- the node that gets other items and is not gone: one that comes, or one that is placed
abbrev pub touched : Plan → (ℕ → Option Node) → Option Touched
touched (AddNode node place spare) look = Some (record { id = node.id; kind = node.kind; count = item_count_of node.kind (length node.boxes) })
touched (ChangeNode id (Layout l)) look = option_map (λ n. touched_as id l n) (look id)
touched plan look = None

-- the ids of the nodes that go
abbrev pub gone_ids : Plan → List ℕ
gone_ids (RemoveNodes parent siblings ids gone) = ids
gone_ids plan = []

-- what the items of a node are made of: its kind and its boxes
abbrev pub seen_of : Option Node → Option (Kind × List Piece)
seen_of o = option_map (λ n. (n.kind, n.boxes)) o

-- the same of the node of an id once a plan is carried out, by the node that it has before
abbrev pub seen_after : Plan → ℕ → Option Node → Option (Kind × List Piece)
seen_after (AddNode node place spare) id o = if node.id == id then seen_of (Some node) else seen_of o
seen_after (RemoveNodes parent siblings ids gone) id o = if is_among ids id then None else seen_of o
seen_after (ChangeNode id' change) id o = seen_of (changed_at id' (with_label (changed change)) id o)
seen_after plan id o = seen_of o

-- with its items a page has no more than it may have
pub record HasRoomAmong (s : ItemsState) (t : Touched) : Type 0 where
  pub most : sum_by (λ list. length list) s.lists + t.count ≤ 327680 + length (numbers_of s t.id)
  pub few : t.count ≤ 1025

-- there is room for the numbers of a node that is touched
pub record CanTouch (s : ItemsState) (room : ℕ) (spare : Spare) (t : Touched) : Type 0 where
  pub placed : t.id < length s.lists
  pub among : HasRoomAmong s t
  pub fits : length s.given + t.count ≤ room
  pub list_room : t.count ≤ spare.list.capacity
  pub one : 1 ≤ vec_capacity spare.earlier

-- there is all that giving and taking numbers takes for a plan
pub record CanRenumber (plan : Plan) (page : Contents) (items : ItemsState) (room : ℕ) (spare : Spare) : Type 0 where
  pub list_none : spare.list.items ≡ []
  pub earlier_none : spare.earlier.items ≡ []
  pub earlier_len : vec_len spare.earlier ≡ 0
  pub touch : IfSome (touched plan (node_of page)) (CanTouch items room spare)
  pub gone : length (gone_ids plan) ≤ vec_capacity spare.earlier

-- the numbers that a plan leaves
abbrev pub IsRenumberedBy : Option Touched → List ℕ → ItemsState → ItemsState → Type 0
IsRenumberedBy (Some t) ids old new = IsResized t.id t.kind t.count old new
IsRenumberedBy None ids old new = IsTakenFrom ids old new

abbrev pub IsRenumbered : Plan → (ℕ → Option Node) → ItemsState → ItemsState → Type 0
IsRenumbered plan look old new = IsRenumberedBy (touched plan look) (gone_ids plan) old new
