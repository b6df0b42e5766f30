-- Kept nodes and the page that they are: at the start, and after a node more.
use Rattle.std.proofs.Common.{◌≡◌, ℕ, zero, suc, ◌≤◌, ◌^◌, ℤ, pos, ◌≤ℤ◌, List, [], length, Option, Some, None, IsNone, ◌↔◌, rules, refl, sym, ap, ◌∙◌, subst, arith}
use Rattle.std.specs.Option.{option_to_list}
use Rattle.box_tree.specs.declared.node.Node.{Node}
use Rattle.box_tree.specs.Forest.{Forest, End, Grow, roots_of, node_count}
use Rattle.box_tree.specs.Contents.{Contents, origin, empty_page, IsScrolled}
use Rattle.box_tree.specs.declared.plan.Frame.{Frame}
use Rattle.box_tree.specs.Totals.{sums_in}
use Rattle.box_tree.specs.Counted.{IsCounted}
use Rattle.box_tree.specs.Nodes.{NodesState}
use Rattle.box_tree.specs.Kept.{node_with, grown, levels_at_most, page_of, IsKept}
use Rattle.box_tree.proofs.Grown.{grown-kept}

-- nothing grows from no ids
pub grown-none : (levels : ℕ) (look : ℕ → Option Node) → grown levels look [] ≡ End
unfolding grown
grown-none zero look = refl
grown-none (suc levels) look = refl

-- kept nodes mean the page that they are kept for
pub page_of-kept : (look : ℕ → Option Node) (first : Option ℕ) (page : Contents) → IsKept look first page → page_of look first page.viewport page.next ≡ page
page_of-kept look first page kept =
    ap (λ (tree : Forest). record { tree = tree; viewport = page.viewport; next = page.next })
    (ap (grown levels_at_most look) kept.root ∙ grown-kept look page levels_at_most kept.valid.depth kept.valid.distinct kept.looked_up)

-- and so the invariant of a page holds of them
pub kept-page_of : (look : ℕ → Option Node) (first : Option ℕ) (page : Contents) → IsKept look first page → IsKept look first (page_of look first page.viewport page.next)
kept-page_of look first page kept = subst (IsKept look first) (sym (page_of-kept look first page kept)) kept

-- counted nodes mean the page that they are counted for, and they are those of the page that they mean
pub record Means (nodes : NodesState) (frame : Frame) (page : Contents) : Type 0 where
  pub counted : IsCounted nodes frame.root frame.sums (page_of (node_with nodes.nodes) frame.root frame.viewport frame.next)
  pub is : page_of (node_with nodes.nodes) frame.root frame.viewport frame.next ≡ page

pub means : (nodes : NodesState) (frame : Frame) (page : Contents) → IsCounted nodes frame.root frame.sums page → frame.viewport ≡ page.viewport → frame.next ≡ page.next → Means nodes frame page
means nodes frame page counted viewport next =
    let is : page_of (node_with nodes.nodes) frame.root frame.viewport frame.next ≡ page =
    ap (λ v. page_of (node_with nodes.nodes) frame.root v frame.next) viewport
    ∙ ap (page_of (node_with nodes.nodes) frame.root page.viewport) next
    ∙ page_of-kept (node_with nodes.nodes) frame.root page counted.kept in
    record { counted = subst (IsCounted nodes frame.root frame.sums) (sym is) counted; is = is }

-- more room changes nothing
pub counted-reserved : (nodes new : NodesState) (frame : Frame) → new.nodes ≡ nodes.nodes → nodes.room ≤ new.room → nodes.ids ≤ new.ids → IsCounted nodes frame.root frame.sums (page_of (node_with nodes.nodes) frame.root frame.viewport frame.next) → IsCounted new frame.root frame.sums (page_of (node_with new.nodes) frame.root frame.viewport frame.next)
counted-reserved nodes new frame same room ids counted = record {
  kept = subst (λ (ns : List Node). IsKept (node_with ns) frame.root (page_of (node_with ns) frame.root frame.viewport frame.next)) (sym same) counted.kept;
  count = subst (λ (ns : List Node). length ns ≡ node_count (page_of (node_with ns) frame.root frame.viewport frame.next).tree) (sym same) counted.count;
  sums_are = subst (λ (ns : List Node). frame.sums ≡ sums_in (page_of (node_with ns) frame.root frame.viewport frame.next).tree) (sym same) counted.sums_are;
  fits = omega (arith, counted.fits, room, ap (λ (ns : List Node). length ns) same);
  placed = λ id positive below. omega (arith, counted.placed id positive below, ids);
}

-- what can't be scrolled is not scrolled
pub unscrolled : IsScrolled origin origin
unscrolled = record {
  greatest = record { x = (omega arith, omega arith); y = (omega arith, omega arith) };
  x = (omega arith, omega arith);
  y = (omega arith, omega arith);
}

-- no nodes are kept for an empty page
pub empty-kept : (w h : ℤ) → (pos 1 ≤ℤ w) × (w ≤ℤ pos (2 ^ 20)) → (pos 1 ≤ℤ h) × (h ≤ℤ pos (2 ^ 20)) → IsKept (node_with []) None (empty_page w h)
empty-kept w h width height = record {
  valid = record {
    one_tree = omega arith;
    distinct = λ id. omega arith;
    given = tt;
    suited = tt;
    depth = omega arith;
    nodes = omega arith;
    boxes = omega arith;
    vertices = omega arith;
    next = (omega arith, omega arith);
    viewport = record {
      width = width;
      height = height;
      scroll = unscrolled;
    };
  };
  looked_up = λ id. refl;
  root = refl;
}

-- there is a root exactly where there is a node
pub root_with_nodes : (tree : Forest) (first : Option ℕ) → option_to_list first ≡ roots_of tree → IsNone first ↔ (node_count tree ≡ 0)
root_with_nodes End None is = (λ none. refl, λ none. refl)
root_with_nodes End (Some id) is = absurd cc
root_with_nodes (Grow n below others) None is = absurd cc
root_with_nodes (Grow n below others) (Some id) is = (λ none. absurd (search rules), λ none. absurd (omega arith))
