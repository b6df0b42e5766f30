-- What a prepared edit holds, and an edit that was carried out.
use Rattle.std.specs.Prelude.{◌≡◌, ℕ, ◌+◌, ◌-◌, ◌<◌, ◌≤◌, ◌==◌, if◌then◌else◌, List, [], ◌∷◌, length, Bool, true, not, Option, None, Some, ℤ, Vec, vec_len, vec_capacity}
use Rattle.std.specs.declared.alloc.Global.{Global}
use Rattle.std.specs.Option.{option_map, option_map_or}
use Rattle.std.specs.List.{insert, filter, list_any}
use Rattle.fractions.specs.declared.rect.Spot.{Spot}
use Rattle.computed_style.specs.declared.style.Style.{Style}
use Rattle.box_tree.specs.declared.kind.Kind.{Kind}
use Rattle.box_tree.specs.declared.piece.Piece.{Piece}
use Rattle.box_tree.specs.declared.node.Node.{Node}
use Rattle.box_tree.specs.declared.edit.Edit.{Edit}
use Rattle.box_tree.specs.declared.edit.Edit.TheVariants.{Add, Remove, Move, Place, Restyle, Reshape, Scroll, Resize, ScrollView}
use Rattle.box_tree.specs.declared.plan.Plan.{Plan}
use Rattle.box_tree.specs.declared.plan.Change.{Change}
use Rattle.box_tree.specs.declared.plan.Relocation.{Relocation}
use Rattle.box_tree.specs.declared.plan.Plan.TheVariants.{AddNode, RemoveNodes, MoveNodes, ChangeNode, ResizeViewport, ScrollViewport}
use Rattle.box_tree.specs.Forest.{Label, End, node_count, ids_in}
use Rattle.box_tree.specs.Contents.{Contents, depth_below, new_label, node_at, node_of, tree_of}
use Rattle.box_tree.specs.Change.{changed}
use Rattle.box_tree.specs.Edited.{IsInRange, first_fault, ancestors_below, laid_out, restyled, reshaped, scrolled_node}
use Rattle.box_tree.specs.Kept.{with_children, with_label}
use Rattle.box_tree.specs.Nodes.{changed_at}
use Rattle.box_tree.specs.Room.{IsSpareFor}
use Rattle.box_tree.specs.Numbers.{ItemsState}
use Rattle.box_tree.specs.PageState.{PageState}
use Rattle.box_tree.specs.TreeState.{TreeState}

-- the node that an add makes
abbrev pub node_added : Contents → ℕ → Kind → Style → List Piece → Node
node_added page parent kind style boxes = node_at (record { label = new_label page.next kind style boxes; above = ancestors_below page parent; below = End })

-- a node with one more child at a place
abbrev pub with_child_at : ℕ → ℕ → Node → Node
with_child_at place child n = with_children (insert n.children place child) n

-- the node, where it is there, can take one more child with this spare room
abbrev pub HasSpareFor : Option Node → Option (Vec ℕ Global) → Type 0
HasSpareFor None spare = Unit {0}
HasSpareFor (Some n) spare = IsSpareFor (length n.children) spare

-- the node, where it is there, can take one more child at this place with this spare room
pub record MayInsertAt (parent : Option Node) (place : ℕ) (spare : Option (Vec ℕ Global)) : Type 0 where
  pub within : place ≤ option_map_or (λ n. length n.children) parent place
  pub spare_fits : HasSpareFor parent spare

-- a node, its place among the children of its parent, and spare room for them, as an add needs them
pub record IsAddPlan (page : TreeState) (parent at : ℕ) (kind : Kind) (style : Style) (boxes : List Piece) (node : Node) (place : ℕ) (spare : Option (Vec ℕ Global)) : Type 0 where
  pub node_is : node ≡ node_added page.contents parent kind style boxes
  pub place_is : place ≡ at
  pub may_insert : MayInsertAt (node_of page.contents parent) place spare
  pub room : node_count page.contents.tree < page.room
  pub placed : page.contents.next < page.ids

-- the ids without one of them
abbrev pub ids_without : ℕ → List ℕ → List ℕ
ids_without id ids = filter (λ other. not (other == id)) ids

-- the children of `parent` without one of them
abbrev pub children_without : Contents → ℕ → ℕ → List ℕ
children_without page parent id = option_map_or (λ n. ids_without id n.children) (node_of page parent) []

-- whether an id is one of these
abbrev pub is_among : List ℕ → ℕ → Bool
is_among ids id = list_any (λ other. other == id) ids

-- how often a number stands in a list
abbrev pub times_in : ℕ → List ℕ → ℕ
times_in k [] = 0
times_in k (x ∷ xs) = (if x == k then 1 else 0) + times_in k xs

-- the parent of a node, its children without the node, the ids of the nodes that go, and room for so many nodes, as a
-- remove needs them
pub record IsRemovePlan (page : Contents) (id parent : ℕ) (siblings ids : List ℕ) (gone : Vec Node Global) : Type 0 where
  pub parent_is : option_map (λ n. n.parent) (node_of page id) ≡ Some parent
  pub siblings_are : siblings ≡ children_without page parent id
  pub ids_are : ids ≡ ids_in (tree_of page id)
  pub gone_none : gone.items ≡ []
  pub gone_room : vec_len gone + length ids ≤ vec_capacity gone

-- a node of a moved tree at its new depth, the moved node itself below its new parent
abbrev pub relocated : Relocation → Node → Node
relocated r n = record n { parent = if n.id == r.id then r.parent else n.parent; depth = n.depth - r.old_depth + r.depth }

-- a node is at most as deep as a page, and at least as deep as the moved node was, which then is at most so deep too
pub record MayRelocate (r : Relocation) (n : Node) : Type 0 where
  pub least : r.old_depth ≤ n.depth
  pub most : n.depth ≤ 256
  pub new_most : r.depth ≤ 256

-- each of these ids stands there once, and the nodes that are looked up of them may be relocated
pub record MayRelocateAll (r : Relocation) (ids : List ℕ) (look : ℕ → Option Node) : Type 0 where
  pub once : (k : ℕ) → times_in k ids ≤ 1
  pub each : (k : ℕ) → is_among ids k ≡ true → (n : Node) → look k ≡ Some n → MayRelocate r n

-- the way back
abbrev pub back_from : Relocation → Relocation
back_from r = record { id = r.id; from = r.parent; parent = r.from; old_depth = r.depth; depth = r.old_depth }

-- what is looked up of an id, relocated where it is one of the moved nodes
abbrev pub relocated_at : Relocation → List ℕ → ℕ → Option Node → Option Node
relocated_at r ids k o = if is_among ids k then option_map (relocated r) o else o

-- what is looked up of an id once the old parent has the children `siblings`, then the new one `children`, and the nodes
-- of these ids are relocated
abbrev pub moved_at : Relocation → List ℕ → List ℕ → List ℕ → ℕ → Option Node → Option Node
moved_at r siblings children ids k o =
    relocated_at r ids k (changed_at r.parent (with_children children) k (changed_at r.from (with_children siblings) k o))

-- where a node of the page goes that is moved below `parent`
pub record IsPlaceFor (page : Contents) (id parent : ℕ) (r : Relocation) : Type 0 where
  pub id_is : r.id ≡ id
  pub parent_is : r.parent ≡ parent
  pub from_is : option_map (λ n. n.parent) (node_of page id) ≡ Some r.from
  pub old_depth_is : option_map (λ n. n.depth) (node_of page id) ≡ Some r.old_depth
  pub depth_is : r.depth ≡ depth_below (ancestors_below page parent)

-- where a node goes, the children of the old parent without it, those of the new parent with it, and the ids of the
-- moved tree, as a move needs them
pub record IsMovePlan (page : Contents) (id parent at : ℕ) (r : Relocation) (siblings children ids : List ℕ) : Type 0 where
  pub place_is : IsPlaceFor page id parent r
  pub siblings_are : siblings ≡ children_without page r.from id
  pub children_are : children ≡ insert (children_without page parent id) at id
  pub ids_are : ids ≡ ids_in (tree_of page id)

-- a node and what it gets, which makes of it what the edit makes of its label
pub record IsChangePlan (page : Contents) (id : ℕ) (relabel : Label → Label) (id' : ℕ) (change : Change) : Type 0 where
  pub id_is : id' ≡ id
  pub change_is : option_map (with_label (changed change)) (node_of page id) ≡ option_map (with_label relabel) (node_of page id)

-- where the viewport is scrolled to
pub record IsScrollViewPlan (x y : ℤ) (to : Spot) : Type 0 where
  pub across_is : to.x ≡ x
  pub down_is : to.y ≡ y

-- the sides of the viewport and its greatest scroll
pub record IsResizePlan (w h : ℤ) (max : Spot) (w' h' : ℤ) (max' : Spot) : Type 0 where
  pub width_is : w' ≡ w
  pub height_is : h' ≡ h
  pub max_is : max' ≡ max

-- the plan is one for the edit on the page
abbrev pub IsPlanFor : Plan → Edit → TreeState → Type 0
IsPlanFor (AddNode node place spare) (Add parent at kind boxes style) page = IsAddPlan page parent at kind style boxes node place spare
IsPlanFor (RemoveNodes parent siblings ids gone) (Remove id) page = IsRemovePlan page.contents id parent siblings ids gone
IsPlanFor (MoveNodes place siblings children ids) (Move id parent at) page = IsMovePlan page.contents id parent at place siblings children ids
IsPlanFor (ChangeNode id' change) (Place id anchor boxes max) page = IsChangePlan page.contents id (laid_out anchor boxes max) id' change
IsPlanFor (ChangeNode id' change) (Restyle id style) page = IsChangePlan page.contents id (restyled style) id' change
IsPlanFor (ChangeNode id' change) (Reshape id form) page = IsChangePlan page.contents id (reshaped form) id' change
IsPlanFor (ChangeNode id' change) (Scroll id x y) page = IsChangePlan page.contents id (scrolled_node x y) id' change
IsPlanFor (ResizeViewport w' h' max') (Resize w h max) page = IsResizePlan w h max w' h' max'
IsPlanFor (ScrollViewport to) (ScrollView x y) page = IsScrollViewPlan x y to
IsPlanFor plan edit page = ⊥

-- an edit that may be carried out, and its plan
pub record IsPlanned (plan : Plan) (edit : Edit) (page : TreeState) : Type 0 where
  pub in_range : IsInRange edit
  pub faultless : first_fault page.contents edit ≡ None
  pub plan_is : IsPlanFor plan edit page

-- a prepared edit as contracts see it: the edit, and the page that it was prepared from
pub record PreparedState : Type 0 where
  pub edit : Edit
  pub page : PageState

-- an edit that was carried out as contracts see it: the contents and the numbers of the items before and after it, and the
-- room that it left
pub record UndoState : Type 0 where
  pub edit : Edit
  pub before : Contents
  pub after : Contents
  pub items_before : ItemsState
  pub items_after : ItemsState
  pub room : ℕ
