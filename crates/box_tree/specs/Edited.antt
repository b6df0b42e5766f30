-- What an edit makes of a page, and why it may be refused.
use Rattle.std.specs.Prelude.{ℕ, zero, suc, ◌+◌, ◌<◌, List, [], ◌∷◌, length, Option, Some, None, Bool, false, not, ◌&&◌, ◌||◌, if◌then◌else◌, ◌==◌, nat_lt, nat_le, All, codes, ℤ, pos, ◌^◌, ◌≤ℤ◌}
use Rattle.std.specs.Option.{option_map_or}
use Rattle.std.specs.Int.{int_min, int_max}
use Rattle.std.specs.List.{list_any}
use Rattle.fractions.specs.declared.rect.Spot.{Spot}
use Rattle.computed_style.specs.Ranges.{IsStyleInRange}
use Rattle.computed_style.specs.declared.style.Style.{Style}
use Rattle.box_tree.specs.declared.form.Form.{Form}
use Rattle.box_tree.specs.declared.piece.Piece.{Piece}
use Rattle.box_tree.specs.declared.viewport.Viewport.{Viewport}
use Rattle.box_tree.specs.declared.edit.Edit.{Edit}
use Rattle.box_tree.specs.declared.edit.Edit.TheVariants.{Add, Remove, Move, Place, Restyle, Reshape, Scroll, Resize, ScrollView}
use Rattle.box_tree.specs.declared.edit.Done.{Done}
use Rattle.box_tree.specs.declared.edit.Done.TheVariants.{Node as NodeAdded, Done as EditDone}
use Rattle.box_tree.specs.declared.edit.EditFault.{EditFault}
use Rattle.box_tree.specs.declared.edit.EditFault.TheVariants as fault
use Rattle.box_tree.specs.Forest.{Label, Forest, End, Grow, roots_of, node_count, height_of, occurrences}
use Rattle.box_tree.specs.Suits.{has_no_parent, kind_suits, box_count_suits, takes_place, takes_style, takes_form, takes_scroll, node_suits}
use Rattle.box_tree.specs.Totals.{box_count, vertex_count}
use Rattle.box_tree.specs.Forms.{IsFormInRange, vertices_of_form}
use Rattle.box_tree.specs.Contents.{Contents, placed_of, tree_of, has_id, depth_below, new_label, IsWithin, IsBoxInRange, IsSpotInRange, IsMaxInRange}

-- an id is from 1 to 4,294,967,295
abbrev pub IsId : ℕ → Type 0
IsId id = (0 < id) × (id < 2 ^ 32)

-- the numbers of an add are within their limits
pub record IsAddInRange (boxes : List Piece) (style : Style) : Type 0 where
  pub boxes_in_range : All IsBoxInRange boxes
  pub style_in_range : IsStyleInRange style

-- the numbers of a place are within their limits
pub record IsPlaceInRange (id : ℕ) (anchor : Spot) (boxes : List Piece) (max : Spot) : Type 0 where
  pub id_in_range : IsId id
  pub anchor_in_range : IsSpotInRange anchor
  pub boxes_in_range : All IsBoxInRange boxes
  pub max_in_range : IsMaxInRange max

-- the numbers of a restyle are within their limits
pub record IsRestyleInRange (id : ℕ) (style : Style) : Type 0 where
  pub id_in_range : IsId id
  pub style_in_range : IsStyleInRange style

-- the numbers of a reshape are within their limits
pub record IsReshapeInRange (id : ℕ) (form : Form) : Type 0 where
  pub id_in_range : IsId id
  pub form_in_range : IsFormInRange form

-- the numbers of a scroll are within their limits
pub record IsScrollInRange (id : ℕ) (x y : ℤ) : Type 0 where
  pub id_in_range : IsId id
  pub across : IsWithin 26 x
  pub down : IsWithin 26 y

-- the numbers of a resize are within their limits
pub record IsResizeInRange (w h : ℤ) (max : Spot) : Type 0 where
  pub width : (pos 1 ≤ℤ w) × (w ≤ℤ pos (2 ^ 20))
  pub height : (pos 1 ≤ℤ h) × (h ≤ℤ pos (2 ^ 20))
  pub max_in_range : IsMaxInRange max

-- the numbers of a scroll of the viewport are within their limits
pub record IsScrollViewInRange (x y : ℤ) : Type 0 where
  pub across : IsWithin 26 x
  pub down : IsWithin 26 y

-- the numbers of an edit are within their limits
abbrev pub IsInRange : Edit → Type 0
IsInRange (Add parent at kind boxes style) = IsAddInRange boxes style
IsInRange (Remove id) = IsId id
IsInRange (Move id parent at) = IsId id
IsInRange (Place id anchor boxes max) = IsPlaceInRange id anchor boxes max
IsInRange (Restyle id style) = IsRestyleInRange id style
IsInRange (Reshape id form) = IsReshapeInRange id form
IsInRange (Scroll id x y) = IsScrollInRange id x y
IsInRange (Resize w h max) = IsResizeInRange w h max
IsInRange (ScrollView x y) = IsScrollViewInRange x y

-- the trees with one more at place `at`
abbrev pub put_in : ℕ → Label → Forest → Forest → Forest
put_in zero n below trees = Grow n below trees
put_in (suc at) n below End = Grow n below End
put_in (suc at) n below (Grow first firsts others) = Grow first firsts (put_in at n below others)

-- the trees with one more, as child number `at` of the node `parent`
abbrev pub put_below : ℕ → ℕ → Label → Forest → Forest → Forest
put_below parent at n below End = End
put_below parent at n below (Grow first firsts others) =
    if first.id == parent then Grow first (put_in at n below firsts) others
    else Grow first (put_below parent at n below firsts) (put_below parent at n below others)

-- the tree with one more, as a child of `parent`, or as the tree itself where `parent` is 0
abbrev pub planted : ℕ → ℕ → Label → Forest → Forest → Forest
planted parent at n below tree = if parent == 0 then Grow n below End else put_below parent at n below tree

-- the trees without that of the node `id`: the node goes with all below it
abbrev pub taken_out : ℕ → Forest → Forest
taken_out id End = End
taken_out id (Grow first firsts others) =
    if first.id == id then taken_out id others else Grow first (taken_out id firsts) (taken_out id others)

-- the trees with that of the node `id` moved: taken out, and then put in as child number `at` of `parent`
abbrev pub moved : Contents → ℕ → ℕ → ℕ → Forest
moved page id parent at = option_map_or (λ p. put_below parent at p.label p.below (taken_out id page.tree)) (placed_of page id) page.tree

-- the trees with another label for the node `id`, which keeps its place
abbrev pub relabelled : ℕ → (Label → Label) → Forest → Forest
relabelled id change End = End
relabelled id change (Grow n below others) =
    Grow (if n.id == id then change n else n) (relabelled id change below) (relabelled id change others)

-- the greater of 0 and the lesser of a coordinate and the greatest one (CSSOM View, `scroll()`)
abbrev pub clamped : ℤ → ℤ → ℤ
clamped most x = int_max (pos 0) (int_min x most)

-- a scroll clamped between 0 and the greatest one
abbrev pub clamped_to : Spot → Spot → Spot
clamped_to max scroll = record { x = clamped max.x scroll.x; y = clamped max.y scroll.y }

-- the scroll to a position: each coordinate is clamped between 0 and the greatest one (CSSOM View, `scroll()`)
abbrev pub scroll_to : (max : Spot) → (x y : ℤ) → Spot
scroll_to max x y = clamped_to max (record { x = x; y = y })

-- a node with this anchor, these boxes and this greatest scroll, to which its scroll is clamped
abbrev pub laid_out : Spot → List Piece → Spot → Label → Label
laid_out anchor boxes max n = record n { anchor = anchor; boxes = boxes; scroll = clamped_to max n.scroll; max = max }

-- a node with this declared style in place of the one that it had
abbrev pub restyled : Style → Label → Label
restyled style n = record n { style = style }

-- a node with this form in place of the one that it had, or of none
abbrev pub reshaped : Form → Label → Label
reshaped form n = record n { form = Some form }

-- a node that is scrolled to a position, whether it clips or not
abbrev pub scrolled_node : ℤ → ℤ → Label → Label
scrolled_node x y n = record n { scroll = scroll_to n.max x y }

-- a viewport of these sides and this greatest scroll, to which its scroll is clamped
abbrev pub resized : ℤ → ℤ → Spot → Viewport → Viewport
resized w h max v = record { w = w; h = h; scroll = clamped_to max v.scroll; max = max }

-- a viewport that is scrolled to a position
abbrev pub scrolled_view : ℤ → ℤ → Viewport → Viewport
scrolled_view x y v = record v { scroll = scroll_to v.max x y }

-- the page that an edit without a fault leaves
abbrev pub edited : Contents → Edit → Contents
edited page (Add parent at kind boxes style) = record page {
  tree = planted parent at (new_label page.next kind style boxes) End page.tree;
  next = page.next + 1;
}
edited page (Remove id) = record page { tree = taken_out id page.tree }
edited page (Move id parent at) = record page { tree = moved page id parent at }
edited page (Place id anchor boxes max) = record page { tree = relabelled id (laid_out anchor boxes max) page.tree }
edited page (Restyle id style) = record page { tree = relabelled id (restyled style) page.tree }
edited page (Reshape id form) = record page { tree = relabelled id (reshaped form) page.tree }
edited page (Scroll id x y) = record page { tree = relabelled id (scrolled_node x y) page.tree }
edited page (Resize w h max) = record page { viewport = resized w h max page.viewport }
edited page (ScrollView x y) = record page { viewport = scrolled_view x y page.viewport }

-- what it answers then
abbrev pub answer_of : Contents → Edit → Done
answer_of page (Add parent at kind boxes style) = NodeAdded page.next
answer_of page (Remove id) = EditDone
answer_of page (Move id parent at) = EditDone
answer_of page (Place id anchor boxes max) = EditDone
answer_of page (Restyle id style) = EditDone
answer_of page (Reshape id form) = EditDone
answer_of page (Scroll id x y) = EditDone
answer_of page (Resize w h max) = EditDone
answer_of page (ScrollView x y) = EditDone

-- the ancestors that a child of `parent` has, from that node on up
abbrev pub ancestors_below : Contents → ℕ → List Label
ancestors_below page parent = option_map_or (λ p. p.label ∷ p.above) (placed_of page parent) []

-- the number of children of `parent`, and 0 for parent 0
abbrev pub child_count : Contents → ℕ → ℕ
child_count page parent = option_map_or (λ p. length (roots_of p.below)) (placed_of page parent) 0

-- the page without the tree of a node
abbrev pub page_without : Contents → ℕ → Contents
page_without page id = record page { tree = taken_out id page.tree }

-- whether a node is the root
abbrev pub is_root : Contents → ℕ → Bool
is_root page id = list_any (λ root. root == id) (roots_of page.tree)

-- the fault of the first test that holds
abbrev pub first_of : List (Bool × EditFault) → Option EditFault
first_of [] = None
first_of ((holds, why) ∷ others) = if holds then Some why else first_of others

-- whether a node has too many boxes, or the page has once an edit is carried out
abbrev pub has_too_many_boxes : (of_node of_page : ℕ) → Bool
has_too_many_boxes of_node of_page = nat_lt 1024 of_node || nat_lt 262144 of_page

-- whether a form has too many vertices, or the page has once an edit is carried out
abbrev pub has_too_many_vertices : (of_form of_page : ℕ) → Bool
has_too_many_vertices of_form of_page = nat_lt 4096 of_form || nat_lt 1048576 of_page

-- whether the page is full for one more node, with so many boxes
abbrev pub is_full_for : Contents → ℕ → Bool
is_full_for page count = nat_le 65536 (node_count page.tree) || (nat_lt 1048576 page.next || has_too_many_boxes count (count + box_count page.tree))

-- whether the node `id` has a kind that may stand below `parent`
abbrev pub kind_may_move : Contents → ℕ → ℕ → Bool
kind_may_move page id parent = option_map_or (λ p. kind_suits (ancestors_below page parent) p.label.kind) (placed_of page id) false

-- whether the node `id` has a kind that may be placed, with so many boxes
abbrev pub kind_may_be_placed : Contents → ℕ → ℕ → Bool
kind_may_be_placed page id count =
    option_map_or (λ p. takes_place p.label.kind && box_count_suits (has_no_parent p.above) p.label.kind count) (placed_of page id) false

-- whether the node `id` has a kind that may be given another style
abbrev pub kind_takes_style : Contents → ℕ → Bool
kind_takes_style page id = option_map_or (λ p. takes_style p.label.kind) (placed_of page id) false

-- whether the node `id` has a kind that may be given this form
abbrev pub kind_takes_form : Contents → ℕ → Form → Bool
kind_takes_form page id form = option_map_or (λ p. takes_form p.label.kind form) (placed_of page id) false

-- whether the node `id` has a kind that may be scrolled
abbrev pub kind_takes_scroll : Contents → ℕ → Bool
kind_takes_scroll page id = option_map_or (λ p. takes_scroll p.label.kind) (placed_of page id) false

-- the table of faults
abbrev pub faults_of : Contents → Edit → List (Bool × EditFault)
faults_of page (Add parent at kind boxes style) =
    (not (parent == 0 || has_id page parent), fault.Absent)
    ∷ (parent == 0 && nat_lt 0 (node_count page.tree), fault.Root)
    ∷ (not (node_suits (ancestors_below page parent) kind style boxes), fault.Kind)
    ∷ (nat_lt (child_count page parent) at, fault.Place)
    ∷ (nat_lt 256 (depth_below (ancestors_below page parent)), fault.Deep)
    ∷ (is_full_for page (length boxes), fault.Full)
    ∷ []
faults_of page (Remove id) = (not (has_id page id), fault.Absent) ∷ []
faults_of page (Move id parent at) =
    (not (has_id page id) || not (parent == 0 || has_id page parent), fault.Absent)
    ∷ (parent == 0 || is_root page id, fault.Root)
    ∷ (not (kind_may_move page id parent), fault.Kind)
    ∷ (nat_lt 0 (occurrences (tree_of page id) parent), fault.Cycle)
    ∷ (nat_lt (child_count (page_without page id) parent) at, fault.Place)
    ∷ (nat_lt 256 (length (ancestors_below page parent) + height_of (tree_of page id)), fault.Deep)
    ∷ []
faults_of page (Place id anchor boxes max) =
    (not (has_id page id), fault.Absent)
    ∷ (not (kind_may_be_placed page id (length boxes)), fault.Kind)
    ∷ (has_too_many_boxes (length boxes) (box_count (relabelled id (laid_out anchor boxes max) page.tree)), fault.Full)
    ∷ []
faults_of page (Restyle id style) =
    (not (has_id page id), fault.Absent)
    ∷ (not (kind_takes_style page id), fault.Kind)
    ∷ []
faults_of page (Reshape id form) =
    (not (has_id page id), fault.Absent)
    ∷ (not (kind_takes_form page id form), fault.Kind)
    ∷ (has_too_many_vertices (vertices_of_form form) (vertex_count (relabelled id (reshaped form) page.tree)), fault.Full)
    ∷ []
faults_of page (Scroll id x y) =
    (not (has_id page id), fault.Absent)
    ∷ (not (kind_takes_scroll page id), fault.Kind)
    ∷ []
faults_of page (Resize w h max) = []
faults_of page (ScrollView x y) = []

-- the first fault of an edit on a page, where it has one
abbrev pub first_fault : Contents → Edit → Option EditFault
first_fault page edit = first_of (faults_of page edit)

-- the number of a fault in replies, and none for want of memory
abbrev pub fault_number : EditFault → Option ℕ
fault_number fault.Absent = Some 4
fault_number fault.Root = Some 5
fault_number fault.Kind = Some 6
fault_number fault.Cycle = Some 7
fault_number fault.Place = Some 8
fault_number fault.Deep = Some 9
fault_number fault.Full = Some 10
fault_number fault.Bound = Some 11
fault_number fault.OutOfMemory = None

-- the name of a fault in replies, as its bytes
abbrev pub fault_name : EditFault → List ℕ
fault_name fault.Absent = codes "absent"
fault_name fault.Root = codes "root"
fault_name fault.Kind = codes "kind"
fault_name fault.Cycle = codes "cycle"
fault_name fault.Place = codes "place"
fault_name fault.Deep = codes "deep"
fault_name fault.Full = codes "full"
fault_name fault.Bound = codes "bound"
fault_name fault.OutOfMemory = codes "memory"
