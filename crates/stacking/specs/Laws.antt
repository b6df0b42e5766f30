-- The rules of the painting order as sentences, each an equation without a count of levels (CSS 2.2, Appendix E).
use Rattle.std.specs.Prelude.{◌≡◌, ◌++◌, if◌then◌else◌}
use Rattle.std.specs.List.{filter, flat_map}
use Rattle.box_tree.specs.Forest.{Placed}
use Rattle.stacking.specs.Sorting.{sorted_by}
use Rattle.stacking.specs.declared.members.Side.TheVariants as side
use Rattle.stacking.specs.Painting.{is_replaced_kind, own, content, head, blocks, floats, pieces, is_on_lower_line, painted_piece, lines, flat, context_members, painted_member, layer}
use Rattle.stacking.specs.OnPage.{on_side}

-- a node painted as one: its head; the boxes of the blocks in it; the floats in it, each painted as one; its lines, and
-- those of the blocks
abbrev pub FlatIsInParts : Type 0
FlatIsInParts =
    (p : Placed) → flat p ≡ head p ++ (flat_map own (blocks p) ++ (flat_map flat (floats p) ++ (lines p ++ flat_map lines (blocks p))))

-- the lines of a node: the content of a replaced one; else its pieces line by line, an atomic node painted as one
abbrev pub LinesAreInOrder : Type 0
LinesAreInOrder =
    (p : Placed) → lines p ≡ (if is_replaced_kind p.label.kind then content p else flat_map (painted_piece flat) (sorted_by is_on_lower_line (pieces p)))

-- the layer of a stacking context: its head; the members of negative levels; the boxes of the blocks; the floats; the
-- lines; the members of level 0; those of positive levels; a member that is a stacking context gives its layer
abbrev pub LayerIsInParts : Type 0
LayerIsInParts =
    (p : Placed) → layer p ≡ head p
    ++ (flat_map (painted_member layer) (filter (on_side side.Below) (context_members p))
    ++ ((flat_map own (blocks p) ++ (flat_map flat (floats p) ++ (lines p ++ flat_map lines (blocks p))))
    ++ (flat_map (painted_member layer) (filter (on_side side.Zero) (context_members p))
    ++ flat_map (painted_member layer) (filter (on_side side.Above) (context_members p)))))
