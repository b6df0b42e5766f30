-- Whatever is counted, a layer has as many of it as the trees.
use Rattle.std.proofs.Common.{◌≡◌, ℕ, ◌+◌, ◌≤◌, List, [], ◌∷◌, ◌++◌, Bool, true, false, not, ◌&&◌, ◌||◌, refl, sym, ap, ◌∙◌, subst, arith}
use Rattle.std.specs.Prelude.{if◌then◌else◌, ◌==◌, Option, Some, None, is_some, length, IsTrue}
use Rattle.std.proofs.lemmas.Bool.{false≢true}
use Rattle.std.proofs.lemmas.Bool.Decides.{nat_tests}
use Rattle.std.specs.List.{filter, flat_map}
use Rattle.box_tree.specs.declared.kind.Kind.{Kind}
use Rattle.box_tree.specs.declared.kind.Kind.TheVariants.{Block, Inline, InlineBlock, Image, Svg, Text, Map, Area, Group, Shape, Inner}
use Rattle.box_tree.specs.declared.piece.Piece.{Piece}
use Rattle.computed_style.specs.declared.style.Position.{Position}
use Rattle.box_tree.specs.declared.item.Item.{Item}
use Rattle.box_tree.specs.Forest.{Label, Forest, End, Grow, Placed}
use Rattle.box_tree.specs.Containing.{parent_of}
use Rattle.box_tree.specs.Used.{is_floating, is_block_level, is_block_level_as, is_block_container, is_block_container_as, is_atomic_as, is_positioned, is_real_context, is_in_flow, position_as, takes_offsets, takes_out, used_position, may_make_context, may_float, has_context_style}
use Rattle.stacking.specs.Painting.{is_inline_kind, is_replaced_kind, is_entered, is_block, is_member, is_float, is_inline, is_atom, has_head, at, own, content, content_as, drawn, drawn_as, outlines, head, Whole, LinePiece, Share, box_items, box_pieces, own_pieces, first_line, pieces_with, shares_of, shares_in, reach, blocks, floats, pieces, is_on_lower_line, painted_piece, flat, lines, body, painted_member, layer, context_list}
use Rattle.stacking.specs.Sorting.{sorted_by}
use Rattle.stacking.specs.Counting.{count, items_in, root_layer, AllItemsArePainted}
use Rattle.computed_style.specs.Defaults.{is_empty, has_initial_flow}
use Rattle.box_tree.specs.Suits.{may_hold, kind_suits, box_count_suits, is_below_root, is_text, is_flow, is_area, is_svg_content, style_suits}
use Rattle.box_tree.specs.Contents.{IsSuited}
use Rattle.box_tree.specs.Forest.{EachNode, roots_of}
use Rattle.stacking.proofs.LevelLemmas.{flat-is, layer-is}
use Rattle.stacking.proofs.WeightLemmas.{total, total-append, total-sorted, total-same, total-list}
use Rattle.stacking.proofs.ShareLemmas.{Throughout}

module _ (test : Item → Bool) where
  abbrev pub n : List Item → ℕ
  n items = count test items

  pub count-append : (xs ys : List Item) → n (xs ++ ys) ≡ n xs + n ys
  count-append [] ys = omega arith
  count-append (x ∷ xs) ys = omega (arith, count-append xs ys)

  pub count-flat_map : {X : Type 0} (f : X → List Item) (xs : List X) → n (flat_map f xs) ≡ total (λ x. n (f x)) xs
  count-flat_map f [] = refl
  count-flat_map f (x ∷ xs) = omega (arith, count-append (f x) (flat_map f xs), count-flat_map f xs)

  count-if : (b : Bool) (xs ys : List Item) → n (if b then xs else ys) ≡ (if b then n xs else n ys)
  count-if true xs ys = refl
  count-if false xs ys = refl

  count-if_some : (b : Bool) (xs : List Item) → n (if b then xs else []) ≡ (if b then n xs else 0)
  count-if_some true xs = refl
  count-if_some false xs = refl

  -- the weight of a node that a walk meets
  abbrev pub W : Placed → ℕ
  W p = (if at is_block p then n (own p) + n (lines p) else 0) + (if at is_float p then n (flat p) else 0)

  abbrev pub Q : LinePiece → ℕ
  Q piece = n (painted_piece flat piece)

  abbrev pub M : Placed → ℕ
  M m = n (painted_member layer m)

  -- the walk of a node: its lines, and what is met
  met : (ms : List Placed) → n (flat_map own (filter (at is_block) ms)) + (n (flat_map flat (filter (at is_float) ms)) + n (flat_map lines (filter (at is_block) ms))) ≡ total W ms
  met [] = refl
  met (m ∷ ms) = by_tests (met ms) (at is_block m) (at is_float m)
    where
      by_tests : n (flat_map own (filter (at is_block) ms)) + (n (flat_map flat (filter (at is_float) ms)) + n (flat_map lines (filter (at is_block) ms))) ≡ total W ms → (b c : Bool) →
          n (flat_map own (if b then m ∷ filter (at is_block) ms else filter (at is_block) ms)) + (n (flat_map flat (if c then m ∷ filter (at is_float) ms else filter (at is_float) ms)) + n (flat_map lines (if b then m ∷ filter (at is_block) ms else filter (at is_block) ms)))
          ≡ ((if b then n (own m) + n (lines m) else 0) + (if c then n (flat m) else 0)) + total W ms
      by_tests rest true true = omega (arith, rest, count-append (own m) (flat_map own (filter (at is_block) ms)), count-append (flat m) (flat_map flat (filter (at is_float) ms)), count-append (lines m) (flat_map lines (filter (at is_block) ms)))
      by_tests rest true false = omega (arith, rest, count-append (own m) (flat_map own (filter (at is_block) ms)), count-append (lines m) (flat_map lines (filter (at is_block) ms)))
      by_tests rest false true = omega (arith, rest, count-append (flat m) (flat_map flat (filter (at is_float) ms)))
      by_tests rest false false = omega (arith, rest)

  count-body : (p : Placed) → n (body p) ≡ total W (reach p) + n (lines p)
  count-body p = rw (
    count-append (flat_map own (blocks p)) (flat_map flat (floats p) ++ (lines p ++ flat_map lines (blocks p))),
    count-append (flat_map flat (floats p)) (lines p ++ flat_map lines (blocks p)),
    count-append (lines p) (flat_map lines (blocks p)),
  ) (omega (arith, met (reach p)))

  -- own boxes, as items and as pieces
  pub own_pieces-count : (id place : ℕ) (boxes : List Piece) → total Q (box_pieces id place boxes) ≡ n (box_items id place boxes)
  own_pieces-count id place [] = refl
  own_pieces-count id place (box ∷ boxes) = omega (arith, own_pieces-count id (place + 1) boxes)

  -- sums over the shares of some children
  abbrev reach_sum : List Share → ℕ
  reach_sum ss = total W (flat_map (λ s. s.reach) ss)

  abbrev piece_sum : List Share → ℕ
  piece_sum ss = total Q (flat_map (λ s. s.pieces) ss)

  abbrev member_sum : List Share → ℕ
  member_sum ss = total M (flat_map (λ s. s.members) ss)

  pub total-if : {X : Type 0} (w : X → ℕ) (b : Bool) (xs : List X) → total w (if b then xs else []) ≡ (if b then total w xs else 0)
  total-if w true xs = refl
  total-if w false xs = refl

  pub total-unless : {X : Type 0} (w : X → ℕ) (b : Bool) (xs : List X) → total w (if b then [] else xs) ≡ (if b then 0 else total w xs)
  total-unless w true xs = refl
  total-unless w false xs = refl

  pub count-lines : (p : Placed) → n (lines p) ≡ (if is_replaced_kind p.label.kind then n (content p) else (if at is_inline p then n (own p) else 0) + piece_sum (shares_in p))
  count-lines p = count-if (is_replaced_kind p.label.kind) (content p) (flat_map (painted_piece flat) (sorted_by is_on_lower_line (pieces p)))
      ∙ ap (λ k. if is_replaced_kind p.label.kind then n (content p) else k) (
      count-flat_map (painted_piece flat) (sorted_by is_on_lower_line (pieces p))
      ∙ total-sorted Q is_on_lower_line (pieces p)
      ∙ total-append Q (if at is_inline p then own_pieces p.label else []) (flat_map (λ s. s.pieces) (shares_in p))
      ∙ ap (λ k. k + piece_sum (shares_in p)) (total-if Q (at is_inline p) (own_pieces p.label) ∙ ap (λ k. if at is_inline p then k else 0) (own_pieces-count p.label.id 0 p.label.boxes)))

  pub count-flat : (p : Placed) → n (flat p) ≡ (if at has_head p then n (own p) else 0) + ((if is_replaced_kind p.label.kind then 0 else reach_sum (shares_in p)) + n (lines p))
  count-flat p =
      ap (λ xs. n xs) (flat-is p) ∙ count-append (head p) (body p)
      ∙ ap (λ k. k + n (body p)) (count-if_some (at has_head p) (own p))
      ∙ ap (λ k. (if at has_head p then n (own p) else 0) + k) (count-body p ∙ ap (λ k. k + n (lines p)) (total-unless W (is_replaced_kind p.label.kind) (flat_map (λ s. s.reach) (shares_in p))))

  abbrev one : Item → ℕ
  one item = if test item then 1 else 0

  count-total : (items : List Item) → total one items ≡ n items
  count-total [] = refl
  count-total (item ∷ items) = omega (arith, count-total items)

  -- in a layer stand the items of the node painted as one, and what its members give
  pub count-layer : (p : Placed) → n (layer p) ≡ n (flat p) + member_sum (shares_in p)
  count-layer p = omega (
    arith,
    ap (λ xs. n xs) (layer-is p),
    count-total (context_list (λ items. items) (painted_member layer) p),
    total-list one (λ items. items) (painted_member layer) p,
    count-total (head p),
    count-total (body p),
    total-same (λ m. total one (painted_member layer m)) M (λ m. count-total (painted_member layer m)) (flat_map (λ s. s.members) (shares_in p)),
    ap (λ xs. n xs) (flat-is p),
    count-append (head p) (body p),
  )

-- what a node adds to the sums over the shares of trees, by what it is: `text`, `replaced` and `inline` by its kind, the
-- words of its style, o of its boxes and c of its content, and the sums over what is below it
abbrev pub NodeTotal : (text replaced inline floats positioned context level container atomic : Bool) (o c r q m : ℕ) → Type 0
NodeTotal text replaced inline floats positioned context level container atomic o c r q m =
    let flow = not floats && (not positioned && not context) in
    let member = positioned || context in
    let on_lines = inline && not level in
    let lines_of = if replaced then c else (if on_lines then o else 0) + q in
    let flat_of = (if level || atomic then o else 0) + ((if replaced then 0 else r) + lines_of) in
    ((if flow && level then o + lines_of else 0) + (if floats && not member then flat_of else 0))
    + ((if flow && ((level && container) || inline) then r else 0)
    + ((if text then o else if flow && on_lines then o + q else if flow && atomic then flat_of else 0)
    + ((if member then (if context then flat_of + m else flat_of) else 0) + (if context then 0 else m))))
    ≡ (o + c) + (r + (q + m))

block_total : (f p x : Bool) (o r q m : ℕ) → NodeTotal false false false f p x true true false o 0 r q m
block_total true true true o r q m = omega arith
block_total true true false o r q m = omega arith
block_total true false true o r q m = omega arith
block_total true false false o r q m = omega arith
block_total false true true o r q m = omega arith
block_total false true false o r q m = omega arith
block_total false false true o r q m = omega arith
block_total false false false o r q m = omega arith

inline_total : (f p x l : Bool) (o r q m : ℕ) → NodeTotal false false true f p x l l false o 0 r q m
inline_total true true true true o r q m = omega arith
inline_total true true true false o r q m = omega arith
inline_total true true false true o r q m = omega arith
inline_total true true false false o r q m = omega arith
inline_total true false true true o r q m = omega arith
inline_total true false true false o r q m = omega arith
inline_total true false false true o r q m = omega arith
inline_total true false false false o r q m = omega arith
inline_total false true true true o r q m = omega arith
inline_total false true true false o r q m = omega arith
inline_total false true false true o r q m = omega arith
inline_total false true false false o r q m = omega arith
inline_total false false true true o r q m = omega arith
inline_total false false true false o r q m = omega arith
inline_total false false false true o r q m = omega arith
inline_total false false false false o r q m = omega arith

inline_block_total : (f p x l : Bool) (o r q m : ℕ) → NodeTotal false false false f p x l true (not l) o 0 r q m
inline_block_total true true true true o r q m = omega arith
inline_block_total true true true false o r q m = omega arith
inline_block_total true true false true o r q m = omega arith
inline_block_total true true false false o r q m = omega arith
inline_block_total true false true true o r q m = omega arith
inline_block_total true false true false o r q m = omega arith
inline_block_total true false false true o r q m = omega arith
inline_block_total true false false false o r q m = omega arith
inline_block_total false true true true o r q m = omega arith
inline_block_total false true true false o r q m = omega arith
inline_block_total false true false true o r q m = omega arith
inline_block_total false true false false o r q m = omega arith
inline_block_total false false true true o r q m = omega arith
inline_block_total false false true false o r q m = omega arith
inline_block_total false false false true o r q m = omega arith
inline_block_total false false false false o r q m = omega arith

replaced_total : (f p x l : Bool) (o c m : ℕ) → NodeTotal false true false f p x l false (not l) o c 0 0 m
replaced_total true true true true o c m = omega arith
replaced_total true true true false o c m = omega arith
replaced_total true true false true o c m = omega arith
replaced_total true true false false o c m = omega arith
replaced_total true false true true o c m = omega arith
replaced_total true false true false o c m = omega arith
replaced_total true false false true o c m = omega arith
replaced_total true false false false o c m = omega arith
replaced_total false true true true o c m = omega arith
replaced_total false true true false o c m = omega arith
replaced_total false true false true o c m = omega arith
replaced_total false true false false o c m = omega arith
replaced_total false false true true o c m = omega arith
replaced_total false false true false o c m = omega arith
replaced_total false false false true o c m = omega arith
replaced_total false false false false o c m = omega arith

text_total : (o : ℕ) → NodeTotal true false false false false false false false false o 0 0 0 0
text_total o = omega arith

unseen_total : (m : ℕ) → NodeTotal false false false false false false false false false 0 0 0 0 m
unseen_total m = omega arith

-- what no walk over boxes sees: the parts of image maps and of SVG content
abbrev pub is_unseen : Kind → Bool
is_unseen Map = true
is_unseen Area = true
is_unseen Group = true
is_unseen Shape = true
is_unseen Inner = true
is_unseen kind = false

-- each of the topmost nodes of trees passes a test of its kind, or none does
abbrev pub TopmostAre : Bool → (Kind → Bool) → Forest → Type 0
TopmostAre b test End = Unit {0}
TopmostAre b test (Grow n below others) = (test n.kind ≡ b) × TopmostAre b test others

-- a node that no walk over boxes sees: it has a parent, no boxes, and no float
abbrev pub IsUnseen : Placed → Type 0
IsUnseen p = (p.label.boxes ≡ []) × ((is_some (parent_of p.above) ≡ true) × (is_floating (parent_of p.above) p.label ≡ false))

-- what suits the walk: a text or an image has nothing below it, and a text has a parent and doesn't float; in an svg stands
-- nothing with boxes, and SVG content stands in SVG content alone
abbrev pub SuitsAs : Kind → Placed → Type 0
SuitsAs Block p = TopmostAre false is_svg_content p.below
SuitsAs Inline p = TopmostAre false is_svg_content p.below
SuitsAs InlineBlock p = TopmostAre false is_svg_content p.below
SuitsAs Image p = p.below ≡ End
SuitsAs Svg p = TopmostAre true is_unseen p.below
SuitsAs Text p = (p.below ≡ End) × ((p.label.style.floats ≡ false) × (is_some (parent_of p.above) ≡ true))
SuitsAs Map p = IsUnseen p × (TopmostAre true is_unseen p.below × TopmostAre false is_svg_content p.below)
SuitsAs Area p = IsUnseen p × (TopmostAre true is_unseen p.below × TopmostAre false is_svg_content p.below)
SuitsAs Group p = IsUnseen p × TopmostAre true is_unseen p.below
SuitsAs Shape p = IsUnseen p × TopmostAre true is_unseen p.below
SuitsAs Inner p = IsUnseen p × TopmostAre true is_unseen p.below

abbrev pub SuitsWalk : Placed → Type 0
SuitsWalk p = SuitsAs p.label.kind p

-- what the words of the walks say of a node that no walk over boxes sees
record UnseenWords (p : Placed) : Type 0 where
  block : at is_block p ≡ false
  float : at is_float p ≡ false
  entered : at is_entered p ≡ false
  text : is_text p.label.kind ≡ false
  inline : (at is_in_flow p && at is_inline p) ≡ false
  atom : at is_atom p ≡ false

and-false : (b : Bool) → (b && false) ≡ false
and-false true = refl
and-false false = refl

words_from : (p : Placed) → IsUnseen p → is_block_level (parent_of p.above) p.label ≡ false → is_inline_kind p.label.kind ≡ false → is_atomic_as p.label.kind ≡ false → is_text p.label.kind ≡ false → UnseenWords p
unfolding is_entered is_block is_member is_float is_inline is_atom
words_from p unseen no_level no_inline no_atom no_text = record {
  block = ap (λ b. at is_in_flow p && b) no_level ∙ and-false (at is_in_flow p);
  float = ap (λ b. b && not (at is_positioned p || at is_real_context p)) unseen.1.1;
  entered = ap (λ b. at is_in_flow p && ((b && at is_block_container p) || is_inline_kind p.label.kind)) no_level ∙ ap (λ b. at is_in_flow p && b) no_inline ∙ and-false (at is_in_flow p);
  text = no_text;
  inline = ap (λ b. at is_in_flow p && (b && not (at is_block_level p))) no_inline ∙ and-false (at is_in_flow p);
  atom = ap (λ b. at is_in_flow p && (b && not (at is_block_level p))) no_atom ∙ and-false (at is_in_flow p);
}

module _ (test : Item → Bool) where
  -- the parts of the sums
  abbrev o_of : Placed → ℕ
  o_of p = count test (own p)

  abbrev c_of : Placed → ℕ
  c_of p = count test (content p)

  abbrev r_of : List Share → ℕ
  r_of ss = total (W test) (flat_map (λ s. s.reach) ss)

  abbrev q_of : List Share → ℕ
  q_of ss = total (Q test) (flat_map (λ s. s.pieces) ss)

  abbrev m_of : List Share → ℕ
  m_of ss = total (M test) (flat_map (λ s. s.members) ss)

  abbrev d_of : Placed → ℕ
  d_of p = count test (drawn p.label)

  abbrev u_of : List Share → ℕ
  u_of ss = count test (flat_map (λ s. s.outlines) ss)

  -- the equation of one node, in terms of the words
  abbrev TotalAs : Kind → Option Label → Label → ℕ → ℕ → List Share → Type 0
  TotalAs kind parent n o c ss =
      NodeTotal (is_text kind) (is_replaced_kind kind) (is_inline_kind kind) (is_floating parent n) (is_positioned parent n) (is_real_context parent n) (is_block_level parent n)
      (is_block_container_as kind (is_block_level parent n)) (is_atomic_as kind && not (is_block_level parent n)) o c (r_of ss) (q_of ss) (m_of ss)

  level-block : (parent : Option Label) (n : Label) → n.kind ≡ Block → is_block_level parent n ≡ true
  level-block None n is = refl
  level-block (Some q) n is = ap (λ k. is_block_level_as k (takes_out (used_position n) || (may_float n.kind && (n.style.floats && not (takes_out (used_position n))))) n.style.display_block) is

  level-kind : (kind : Kind) → ((leaves display_block : Bool) → is_block_level_as kind leaves display_block ≡ false) → (parent : Option Label) (n : Label) → n.kind ≡ kind → is_some parent ≡ true → is_block_level parent n ≡ false
  level-kind kind none None n is some = absurd (false≢true some)
  level-kind kind none (Some q) n is some =
      ap (λ k. is_block_level_as k (takes_out (used_position n) || (may_float n.kind && (n.style.floats && not (takes_out (used_position n))))) n.style.display_block) is
      ∙ none (takes_out (used_position n) || (may_float n.kind && (n.style.floats && not (takes_out (used_position n))))) n.style.display_block

  floats-text : (parent : Option Label) (n : Label) → n.style.floats ≡ false → is_floating parent n ≡ false
  floats-text None n is = refl
  floats-text (Some q) n is = none (may_float n.kind) n.style.floats is
    where
      none : (a b : Bool) → b ≡ false → (a && (b && not (takes_out (used_position n)))) ≡ false
      none true true is' = absurd (false≢true (sym is'))
      none true false is' = refl
      none false b is' = refl

  context-kind : (kind : Kind) → may_make_context kind ≡ false → (parent : Option Label) (n : Label) → n.kind ≡ kind → is_some parent ≡ true → is_real_context parent n ≡ false
  context-kind kind none None n is some = absurd (false≢true some)
  context-kind kind none (Some q) n is some = ap (λ k. may_make_context k && has_context_style (Some q) n) is ∙ ap (λ b. b && has_context_style (Some q) n) none

  positioned-kind : (kind : Kind) → ((position : Position) → takes_offsets (position_as kind position) ≡ false) → (parent : Option Label) (n : Label) → n.kind ≡ kind → is_positioned parent n ≡ false
  positioned-kind kind none parent n is = ap (λ k. takes_offsets (position_as k n.style.position)) is ∙ none n.style.position

  none_below : (above : List Label) (below : Forest) → below ≡ End → shares_of above below ≡ []
  none_below above below is = ap (shares_of above) is

  -- nothing of shares is met or lies on lines
  abbrev IsQuiet : List Share → Type 0
  IsQuiet ss = (r_of ss ≡ 0) × (q_of ss ≡ 0)

  -- a node without boxes has no items of boxes
  no-own : (p : Placed) → IsUnseen p → o_of p ≡ 0
  no-own p unseen = ap (λ boxes. count test (box_items p.label.id 0 boxes)) unseen.0

  total-as : (p : Placed) (kind : Kind) → p.label.kind ≡ kind → SuitsAs kind p → (TopmostAre true is_unseen p.below → IsQuiet (shares_in p)) → TotalAs kind (parent_of p.above) p.label (o_of p) (c_of p) (shares_in p)
  total-as p Block is suits quiet = rw (level-block (parent_of p.above) p.label is, ap (λ k. count test (content_as k p)) is)
      (block_total (is_floating (parent_of p.above) p.label) (is_positioned (parent_of p.above) p.label) (is_real_context (parent_of p.above) p.label) (o_of p) (r_of (shares_in p)) (q_of (shares_in p)) (m_of (shares_in p)))
  total-as p Inline is suits quiet = rw (ap (λ k. count test (content_as k p)) is)
      (inline_total (is_floating (parent_of p.above) p.label) (is_positioned (parent_of p.above) p.label) (is_real_context (parent_of p.above) p.label) (is_block_level (parent_of p.above) p.label) (o_of p) (r_of (shares_in p)) (q_of (shares_in p)) (m_of (shares_in p)))
  total-as p InlineBlock is suits quiet = rw (ap (λ k. count test (content_as k p)) is)
      (inline_block_total (is_floating (parent_of p.above) p.label) (is_positioned (parent_of p.above) p.label) (is_real_context (parent_of p.above) p.label) (is_block_level (parent_of p.above) p.label) (o_of p) (r_of (shares_in p)) (q_of (shares_in p)) (m_of (shares_in p)))
  total-as p Image is suits quiet = subst (λ (ss : List Share). TotalAs Image (parent_of p.above) p.label (o_of p) (c_of p) ss) (sym (none_below (p.label ∷ p.above) p.below suits))
      (replaced_total (is_floating (parent_of p.above) p.label) (is_positioned (parent_of p.above) p.label) (is_real_context (parent_of p.above) p.label) (is_block_level (parent_of p.above) p.label) (o_of p) (c_of p) 0)
  total-as p Text is suits quiet = subst (λ (ss : List Share). TotalAs Text (parent_of p.above) p.label (o_of p) (c_of p) ss) (sym (none_below (p.label ∷ p.above) p.below suits.0))
      (rw (
        ap (λ k. count test (content_as k p)) is,
        floats-text (parent_of p.above) p.label suits.1.0,
        positioned-kind Text (λ x. refl) (parent_of p.above) p.label is,
        context-kind Text refl (parent_of p.above) p.label is suits.1.1,
        level-kind Text (λ a b. refl) (parent_of p.above) p.label is suits.1.1,
      ) (text_total (o_of p)))
  total-as p Svg is suits quiet = rw ((quiet suits).0, (quiet suits).1)
      (replaced_total (is_floating (parent_of p.above) p.label) (is_positioned (parent_of p.above) p.label) (is_real_context (parent_of p.above) p.label) (is_block_level (parent_of p.above) p.label) (o_of p) (c_of p) (m_of (shares_in p)))
  total-as p Map is suits quiet = rw (
    no-own p suits.0,
    ap (λ k. count test (content_as k p)) is,
    suits.0.1.1,
    positioned-kind Map (λ x. refl) (parent_of p.above) p.label is,
    context-kind Map refl (parent_of p.above) p.label is suits.0.1.0,
    level-kind Map (λ a b. refl) (parent_of p.above) p.label is suits.0.1.0,
    (quiet suits.1.0).0,
    (quiet suits.1.0).1,
  ) (unseen_total (m_of (shares_in p)))
  total-as p Area is suits quiet = rw (
    no-own p suits.0,
    ap (λ k. count test (content_as k p)) is,
    suits.0.1.1,
    positioned-kind Area (λ x. refl) (parent_of p.above) p.label is,
    context-kind Area refl (parent_of p.above) p.label is suits.0.1.0,
    level-kind Area (λ a b. refl) (parent_of p.above) p.label is suits.0.1.0,
    (quiet suits.1.0).0,
    (quiet suits.1.0).1,
  ) (unseen_total (m_of (shares_in p)))
  total-as p Group is suits quiet = rw (
    no-own p suits.0,
    ap (λ k. count test (content_as k p)) is,
    suits.0.1.1,
    positioned-kind Group (λ x. refl) (parent_of p.above) p.label is,
    context-kind Group refl (parent_of p.above) p.label is suits.0.1.0,
    level-kind Group (λ a b. refl) (parent_of p.above) p.label is suits.0.1.0,
    (quiet suits.1).0,
    (quiet suits.1).1,
  ) (unseen_total (m_of (shares_in p)))
  total-as p Shape is suits quiet = rw (
    no-own p suits.0,
    ap (λ k. count test (content_as k p)) is,
    suits.0.1.1,
    positioned-kind Shape (λ x. refl) (parent_of p.above) p.label is,
    context-kind Shape refl (parent_of p.above) p.label is suits.0.1.0,
    level-kind Shape (λ a b. refl) (parent_of p.above) p.label is suits.0.1.0,
    (quiet suits.1).0,
    (quiet suits.1).1,
  ) (unseen_total (m_of (shares_in p)))
  total-as p Inner is suits quiet = rw (
    no-own p suits.0,
    ap (λ k. count test (content_as k p)) is,
    suits.0.1.1,
    positioned-kind Inner (λ x. refl) (parent_of p.above) p.label is,
    context-kind Inner refl (parent_of p.above) p.label is suits.0.1.0,
    level-kind Inner (λ a b. refl) (parent_of p.above) p.label is suits.0.1.0,
    (quiet suits.1).0,
    (quiet suits.1).1,
  ) (unseen_total (m_of (shares_in p)))

  -- the pieces that a node gives
  total-pieces_with : (inner : List LinePiece) (p : Placed) → total (Q test) (pieces_with inner p) ≡
      (if is_text p.label.kind then o_of p else if at is_in_flow p && at is_inline p then o_of p + total (Q test) inner else if at is_atom p then count test (flat p) else 0)
  total-pieces_with inner p = by_tests (is_text p.label.kind) (at is_in_flow p && at is_inline p) (at is_atom p)
    where
      by_tests : (a b c : Bool) → total (Q test) (if a then own_pieces p.label else if b then own_pieces p.label ++ inner else if c then record { line = first_line p.label.boxes; paint = Whole p } ∷ [] else [])
          ≡ (if a then count test (own p) else if b then count test (own p) + total (Q test) inner else if c then count test (flat p) else 0)
      by_tests true b c = own_pieces-count test p.label.id 0 p.label.boxes
      by_tests false true c = total-append (Q test) (own_pieces p.label) inner ∙ ap (λ k. k + total (Q test) inner) (own_pieces-count test p.label.id 0 p.label.boxes)
      by_tests false false true = omega arith
      by_tests false false false = refl

  -- what a member gives
  count-member : (p : Placed) → total (M test) (if at is_member p then p ∷ [] else []) ≡ (if at is_member p then (if at is_real_context p then count test (flat p) + m_of (shares_in p) else count test (flat p)) else 0)
  count-member p = by_tests (at is_member p)
    where
      by_context : (c : Bool) → count test (if c then layer p else flat p) ≡ (if c then count test (flat p) + m_of (shares_in p) else count test (flat p))
      by_context true = count-layer test p
      by_context false = refl

      by_tests : (b : Bool) → total (M test) (if b then p ∷ [] else []) ≡ (if b then (if at is_real_context p then count test (flat p) + m_of (shares_in p) else count test (flat p)) else 0)
      by_tests true = let e = by_context (at is_real_context p) in omega (arith, e)
      by_tests false = refl

  -- what a node adds to the sums, and what is below it
  node_total : (p : Placed) → SuitsWalk p → (TopmostAre true is_unseen p.below → IsQuiet (shares_in p)) → W test p + ((if at is_entered p then r_of (shares_in p) else 0) + (total (Q test) (pieces_with (flat_map (λ s. s.pieces) (shares_in p)) p) + (total (M test) (if at is_member p then p ∷ [] else []) + (if at is_real_context p then 0 else m_of (shares_in p)))))
      ≡ (o_of p + c_of p) + (r_of (shares_in p) + (q_of (shares_in p) + m_of (shares_in p)))
  unfolding is_entered is_block is_member is_float is_inline is_atom has_head
  node_total p suits quiet =
      let ss = shares_in p in
      let sum = λ (l : ℕ) (f : ℕ).
      ((if at is_block p then o_of p + l else 0) + (if at is_float p then f else 0))
      + ((if at is_entered p then r_of ss else 0)
      + ((if is_text p.label.kind then o_of p else if at is_in_flow p && at is_inline p then o_of p + q_of ss else if at is_atom p then f else 0)
      + ((if at is_member p then (if at is_real_context p then f + m_of ss else f) else 0) + (if at is_real_context p then 0 else m_of ss)))) in
      let flat_with = λ (l : ℕ). (if at has_head p then o_of p else 0) + ((if is_replaced_kind p.label.kind then 0 else r_of ss) + l) in
      let lines_of : ℕ = if is_replaced_kind p.label.kind then c_of p else (if at is_inline p then o_of p else 0) + q_of ss in
      ap (λ k. W test p + ((if at is_entered p then r_of ss else 0) + (k + (total (M test) (if at is_member p then p ∷ [] else []) + (if at is_real_context p then 0 else m_of ss))))) (total-pieces_with (flat_map (λ s. s.pieces) ss) p)
      ∙ ap (λ k. W test p + ((if at is_entered p then r_of ss else 0) + ((if is_text p.label.kind then o_of p else if at is_in_flow p && at is_inline p then o_of p + q_of ss else if at is_atom p then count test (flat p) else 0) + (k + (if at is_real_context p then 0 else m_of ss))))) (count-member p)
      ∙ ap (λ f. sum (count test (lines p)) f) (count-flat test p)
      ∙ ap (λ l. sum l (flat_with l)) (count-lines test p)
      ∙ total-as p p.label.kind refl suits quiet

  -- what the walks over boxes say of a node that they don't see
  words_unseen : (p : Placed) (kind : Kind) → p.label.kind ≡ kind → is_unseen kind ≡ true → SuitsAs kind p → UnseenWords p
  words_unseen p Block is unseen suits = absurd (false≢true unseen)
  words_unseen p Inline is unseen suits = absurd (false≢true unseen)
  words_unseen p InlineBlock is unseen suits = absurd (false≢true unseen)
  words_unseen p Image is unseen suits = absurd (false≢true unseen)
  words_unseen p Svg is unseen suits = absurd (false≢true unseen)
  words_unseen p Text is unseen suits = absurd (false≢true unseen)
  words_unseen p Map is unseen suits = words_from p suits.0 (level-kind Map (λ a b. refl) (parent_of p.above) p.label is suits.0.1.0) (ap is_inline_kind is) (ap is_atomic_as is) (ap is_text is)
  words_unseen p Area is unseen suits = words_from p suits.0 (level-kind Area (λ a b. refl) (parent_of p.above) p.label is suits.0.1.0) (ap is_inline_kind is) (ap is_atomic_as is) (ap is_text is)
  words_unseen p Group is unseen suits = words_from p suits.0 (level-kind Group (λ a b. refl) (parent_of p.above) p.label is suits.0.1.0) (ap is_inline_kind is) (ap is_atomic_as is) (ap is_text is)
  words_unseen p Shape is unseen suits = words_from p suits.0 (level-kind Shape (λ a b. refl) (parent_of p.above) p.label is suits.0.1.0) (ap is_inline_kind is) (ap is_atomic_as is) (ap is_text is)
  words_unseen p Inner is unseen suits = words_from p suits.0 (level-kind Inner (λ a b. refl) (parent_of p.above) p.label is suits.0.1.0) (ap is_inline_kind is) (ap is_atomic_as is) (ap is_text is)

  three_tests : (a b c : Bool) (x y z : ℕ) → a ≡ false → b ≡ false → c ≡ false → (if a then x else if b then y else if c then z else 0) ≡ 0
  three_tests a b c x y z is is' is'' = ap (λ t. if t then x else if b then y else if c then z else 0) is ∙ ap (λ t. if t then y else if c then z else 0) is' ∙ ap (λ t. if t then z else 0) is''

  two_tests : (a b : Bool) (x y : ℕ) → a ≡ false → b ≡ false → (if a then x else 0) + (if b then y else 0) ≡ 0
  two_tests true b x y is is' = absurd (false≢true (sym is))
  two_tests false true x y is is' = absurd (false≢true (sym is'))
  two_tests false false x y is is' = refl

  -- of trees whose topmost nodes no walk over boxes sees nothing is met, and nothing lies on lines
  quiet : (above : List Label) (f : Forest) → Throughout SuitsWalk above f → TopmostAre true is_unseen f → IsQuiet (shares_of above f)
  quiet above End suits unseen = (refl, refl)
  quiet above (Grow n below others) suits unseen =
      let p : Placed = record { label = n; above = above; below = below } in
      let inner = shares_of (n ∷ above) below in
      let rest = shares_of above others in
      let words = words_unseen p n.kind refl unseen.0 suits.0 in
      let others_quiet = quiet above others suits.1.1 unseen.1 in
      let weight : W test p ≡ 0 = two_tests (at is_block p) (at is_float p) _ _ words.block words.float in
      let reach_is : r_of (shares_of above (Grow n below others)) ≡ W test p + r_of rest = ap (λ b. W test p + total (W test) ((if b then flat_map (λ s. s.reach) inner else []) ++ flat_map (λ s. s.reach) rest)) words.entered in
      let pieces_is : q_of (shares_of above (Grow n below others)) ≡ total (Q test) (pieces_with (flat_map (λ s. s.pieces) inner) p) + q_of rest = total-append (Q test) (pieces_with (flat_map (λ s. s.pieces) inner) p) (flat_map (λ s. s.pieces) rest) in
      let none : total (Q test) (pieces_with (flat_map (λ s. s.pieces) inner) p) ≡ 0 = total-pieces_with (flat_map (λ s. s.pieces) inner) p ∙ three_tests _ _ _ _ _ _ words.text words.inline words.atom in
      (omega (arith, weight, reach_is, others_quiet.0), omega (arith, pieces_is, none, others_quiet.1))

  -- trees whose topmost nodes are no SVG content give no outlines
  no_outlines : (above : List Label) (f : Forest) → TopmostAre false is_svg_content f → u_of (shares_of above f) ≡ 0
  no_outlines above End none = refl
  no_outlines above (Grow n below others) none =
      ap (λ b. count test ((if b then drawn n ++ flat_map (λ s. s.outlines) (shares_of (n ∷ above) below) else []) ++ flat_map (λ s. s.outlines) (shares_of above others))) none.0 ∙ no_outlines above others none.1

  -- the outlines that a node gives and its content are what it is drawn as and the outlines in it
  abbrev OutlinesAs : Kind → Placed → Type 0
  OutlinesAs kind p =
      count test (content_as kind p) + count test (if is_svg_content kind then drawn_as kind p.label.id p.label.boxes ++ outlines p else [])
      ≡ count test (drawn_as kind p.label.id p.label.boxes) + u_of (shares_in p)

  outlines_total : (p : Placed) (kind : Kind) → SuitsAs kind p → OutlinesAs kind p
  outlines_total p Block suits = omega (arith, no_outlines (p.label ∷ p.above) p.below suits)
  outlines_total p Inline suits = omega (arith, no_outlines (p.label ∷ p.above) p.below suits)
  outlines_total p InlineBlock suits = omega (arith, no_outlines (p.label ∷ p.above) p.below suits)
  outlines_total p Image suits = omega (arith, ap u_of (none_below (p.label ∷ p.above) p.below suits))
  outlines_total p Svg suits = omega arith
  outlines_total p Text suits = omega (arith, ap u_of (none_below (p.label ∷ p.above) p.below suits.0))
  outlines_total p Map suits = omega (arith, no_outlines (p.label ∷ p.above) p.below suits.1.1)
  outlines_total p Area suits = omega (arith, no_outlines (p.label ∷ p.above) p.below suits.1.1)
  outlines_total p Group suits = omega arith
  outlines_total p Shape suits = omega (arith, count-append test (drawn_as Shape p.label.id p.label.boxes) (outlines p))
  outlines_total p Inner suits = omega arith

  plain_sums : (w e q m c' r' q' m' u' o c d out r1 q1 m1 u1 t1 t2 : ℕ) → w + (e + (q + (m + c'))) ≡ (o + c) + (r1 + (q1 + m1)) → c + out ≡ d + u1 → r1 + (q1 + (m1 + u1)) ≡ t1 → r' + (q' + (m' + u')) ≡ t2
      → (w + (e + r')) + ((q + q') + (((m + c') + m') + (out + u'))) ≡ o + (d + (t1 + t2))
  plain_sums w e q m c' r' q' m' u' o c d out r1 q1 m1 u1 t1 t2 one content_is below others = omega arith

  sums_by : (r q m u t r' q' m' u' t' : ℕ) → r ≡ r' → q ≡ q' → m ≡ m' → u ≡ u' → t ≡ t' → r' + (q' + (m' + u')) ≡ t' → r + (q + (m + u)) ≡ t
  sums_by r q m u t r' q' m' u' t' e1 e2 e3 e4 e5 e6 = omega arith

  -- whatever is counted of trees, their shares have as many of it
  pub trees_total : (above : List Label) (f : Forest) → Throughout SuitsWalk above f → r_of (shares_of above f) + (q_of (shares_of above f) + (m_of (shares_of above f) + u_of (shares_of above f))) ≡ count test (items_in above f)
  trees_total above End suits = refl
  trees_total above (Grow n below others) suits =
      let p : Placed = record { label = n; above = above; below = below } in
      let inner = shares_of (n ∷ above) below in
      let rest = shares_of above others in
      let reach_is : r_of (shares_of above (Grow n below others)) ≡ W test p + ((if at is_entered p then r_of inner else 0) + r_of rest) =
      ap (λ k. W test p + k) (total-append (W test) (if at is_entered p then flat_map (λ s. s.reach) inner else []) (flat_map (λ s. s.reach) rest) ∙ ap (λ k. k + r_of rest) (total-if test (W test) (at is_entered p) (flat_map (λ s. s.reach) inner))) in
      let pieces_is : q_of (shares_of above (Grow n below others)) ≡ total (Q test) (pieces_with (flat_map (λ s. s.pieces) inner) p) + q_of rest =
      total-append (Q test) (pieces_with (flat_map (λ s. s.pieces) inner) p) (flat_map (λ s. s.pieces) rest) in
      let members_is : m_of (shares_of above (Grow n below others)) ≡ (total (M test) (if at is_member p then p ∷ [] else []) + (if at is_real_context p then 0 else m_of inner)) + m_of rest =
      total-append (M test) ((if at is_member p then p ∷ [] else []) ++ (if at is_real_context p then [] else flat_map (λ s. s.members) inner)) (flat_map (λ s. s.members) rest)
      ∙ ap (λ k. k + m_of rest) (total-append (M test) (if at is_member p then p ∷ [] else []) (if at is_real_context p then [] else flat_map (λ s. s.members) inner)
      ∙ ap (λ k. total (M test) (if at is_member p then p ∷ [] else []) + k) (total-unless test (M test) (at is_real_context p) (flat_map (λ s. s.members) inner))) in
      let given : List Item = if is_svg_content n.kind then drawn n ++ flat_map (λ s. s.outlines) inner else [] in
      let outlines_is : u_of (shares_of above (Grow n below others)) ≡ count test given + u_of rest = count-append test given (flat_map (λ s. s.outlines) rest) in
      let items_is : count test (items_in above (Grow n below others)) ≡ o_of p + (d_of p + (count test (items_in (n ∷ above) below) + count test (items_in above others))) =
      count-append test (own p) (drawn n ++ (items_in (n ∷ above) below ++ items_in above others))
      ∙ ap (λ k. o_of p + k) (count-append test (drawn n) (items_in (n ∷ above) below ++ items_in above others)
      ∙ ap (λ k. d_of p + k) (count-append test (items_in (n ∷ above) below) (items_in above others))) in
      sums_by _ _ _ _ _ _ _ _ _ _ reach_is pieces_is members_is outlines_is items_is
      (plain_sums (W test p) (if at is_entered p then r_of inner else 0) (total (Q test) (pieces_with (flat_map (λ s. s.pieces) inner) p)) (total (M test) (if at is_member p then p ∷ [] else [])) (if at is_real_context p then 0 else m_of inner) (r_of rest) (q_of rest) (m_of rest) (u_of rest) (o_of p) (c_of p) (d_of p) (count test given) (r_of inner) (q_of inner) (m_of inner) (u_of inner) _ _
      (node_total p suits.0 (quiet (n ∷ above) below suits.1.0)) (outlines_total p n.kind suits.0) (trees_total (n ∷ above) below suits.1.0) (trees_total above others suits.1.1))

-- the layer of a root, which is a block
module _ (test : Item → Bool) where
  root_sum : (l f m o r ln i q c t all : ℕ) → l ≡ f + m → f ≡ o + (r + ln) → ln ≡ i + q → i ≡ 0 → c ≡ 0 → r + (q + m) ≡ t → all ≡ o + (c + (t + 0)) → l ≡ all
  root_sum l f m o r ln i q c t all e1 e2 e3 e4 e5 e6 e7 = omega arith

  root_total : (n : Label) (below : Forest) → n.kind ≡ Block → TopmostAre false is_svg_content below → Throughout SuitsWalk (n ∷ []) below → count test (layer (record { label = n; above = []; below = below })) ≡ count test (items_in [] (Grow n below End))
  unfolding is_inline has_head
  root_total n below is none suits =
      let p : Placed = record { label = n; above = []; below = below } in
      let layer_is = count-layer test p in
      let flat_is = count-flat test p in
      let lines_is = count-lines test p in
      let kind_is : is_replaced_kind n.kind ≡ false = ap is_replaced_kind is in
      let drawn_is : count test (drawn n) ≡ 0 = ap (λ k. count test (drawn_as k n.id n.boxes)) is in
      let no_outlines_are = no_outlines test (n ∷ []) below none in
      let trees_are = trees_total test (n ∷ []) below suits in
      let below_is : reach_sum test (shares_in p) + (piece_sum test (shares_in p) + member_sum test (shares_in p)) ≡ count test (items_in (n ∷ []) below) = omega (arith, trees_are, no_outlines_are) in
      let items_is : count test (items_in [] (Grow n below End)) ≡ count test (own p) + (count test (drawn n) + (count test (items_in (n ∷ []) below) + 0)) =
      count-append test (own p) (drawn n ++ (items_in (n ∷ []) below ++ []))
      ∙ ap (λ k. count test (own p) + k) (count-append test (drawn n) (items_in (n ∷ []) below ++ []) ∙ ap (λ k. count test (drawn n) + k) (count-append test (items_in (n ∷ []) below) [])) in
      let replaced_flat : (if is_replaced_kind n.kind then 0 else reach_sum test (shares_in p)) ≡ reach_sum test (shares_in p) = ap (λ b. if b then 0 else reach_sum test (shares_in p)) kind_is in
      let inline_is : (if is_inline_kind n.kind && false then count test (own p) else 0) ≡ 0 = ap (λ k. if is_inline_kind k && false then count test (own p) else 0) is in
      let replaced_lines : (if is_replaced_kind n.kind then count test (content p) else (if is_inline_kind n.kind && false then count test (own p) else 0) + piece_sum test (shares_in p)) ≡ (if is_inline_kind n.kind && false then count test (own p) else 0) + piece_sum test (shares_in p) =
      ap (λ b. if b then count test (content p) else (if is_inline_kind n.kind && false then count test (own p) else 0) + piece_sum test (shares_in p)) kind_is in
      root_sum _ _ _ _ _ _ _ _ _ _ _ layer_is (flat_is ∙ ap (λ k. count test (own p) + (k + count test (lines p))) replaced_flat) (lines_is ∙ replaced_lines) inline_is drawn_is below_is items_is

-- what the kinds of a valid page say for the walk
nothing_below : (n : Label) (above : List Label) (below : Forest) → ((kind : Kind) → may_hold (Some n.kind) kind ≡ false) → EachNode IsSuited (n ∷ above) below → below ≡ End
nothing_below n above End none suited = refl
nothing_below n above (Grow m deeper others) none suited = absurd (never (may_hold (Some n.kind) m.kind) (not (is_below_root (n ∷ above) && is_text m.kind)) (none m.kind) suited.0.kind)
  where
    never : (b c : Bool) → b ≡ false → IsTrue (b && c) → ⊥
    never true c is holds = false≢true (sym is)
    never false c is holds = false≢true holds

first_of : (b c : Bool) → IsTrue (b && c) → b ≡ true
first_of true c holds = refl
first_of false c holds = absurd (false≢true holds)

-- the topmost nodes below a node are of the kinds that it may hold
topmost : (b : Bool) (test : Kind → Bool) (n : Label) (above : List Label) (below : Forest) → ((kind : Kind) → may_hold (Some n.kind) kind ≡ true → test kind ≡ b) → EachNode IsSuited (n ∷ above) below → TopmostAre b test below
topmost b test n above End known suited = tt
topmost b test n above (Grow m deeper others) known suited =
    (known m.kind (first_of (may_hold (Some n.kind) m.kind) (not (is_below_root (n ∷ above) && is_text m.kind)) suited.0.kind), topmost b test n above others known suited.1.1)

flow_is_none : (kind : Kind) → is_flow kind ≡ true → is_svg_content kind ≡ false
flow_is_none Block holds = refl
flow_is_none Inline holds = refl
flow_is_none InlineBlock holds = refl
flow_is_none Image holds = refl
flow_is_none Svg holds = refl
flow_is_none Text holds = refl
flow_is_none Map holds = refl
flow_is_none Area holds = refl
flow_is_none Group holds = absurd (false≢true holds)
flow_is_none Shape holds = absurd (false≢true holds)
flow_is_none Inner holds = absurd (false≢true holds)

content_is_unseen : (kind : Kind) → is_svg_content kind ≡ true → is_unseen kind ≡ true
content_is_unseen Block holds = absurd (false≢true holds)
content_is_unseen Inline holds = absurd (false≢true holds)
content_is_unseen InlineBlock holds = absurd (false≢true holds)
content_is_unseen Image holds = absurd (false≢true holds)
content_is_unseen Svg holds = absurd (false≢true holds)
content_is_unseen Text holds = absurd (false≢true holds)
content_is_unseen Map holds = refl
content_is_unseen Area holds = refl
content_is_unseen Group holds = refl
content_is_unseen Shape holds = refl
content_is_unseen Inner holds = refl

area_is_unseen : (kind : Kind) → is_area kind ≡ true → (is_unseen kind ≡ true) × (is_svg_content kind ≡ false)
area_is_unseen Block holds = absurd (false≢true holds)
area_is_unseen Inline holds = absurd (false≢true holds)
area_is_unseen InlineBlock holds = absurd (false≢true holds)
area_is_unseen Image holds = absurd (false≢true holds)
area_is_unseen Svg holds = absurd (false≢true holds)
area_is_unseen Text holds = absurd (false≢true holds)
area_is_unseen Map holds = absurd (false≢true holds)
area_is_unseen Area holds = (refl, refl)
area_is_unseen Group holds = absurd (false≢true holds)
area_is_unseen Shape holds = absurd (false≢true holds)
area_is_unseen Inner holds = absurd (false≢true holds)

no_box : (boxes : List Piece) → IsTrue (length boxes == 0) → boxes ≡ []
no_box [] holds = refl
no_box (box ∷ boxes) holds = absurd (false≢true (sym some ∙ holds))
  where
    some : (length (box ∷ boxes) == 0) ≡ false
    some = grind (arith, nat_tests)

-- a node of such a kind has a parent and no boxes, and doesn't float
unseen_as : (n : Label) (above : List Label) (below : Forest) (kind : Kind) → may_hold None kind ≡ false → ((count : ℕ) → box_count_suits false kind count ≡ (count == 0)) → may_float kind ≡ false → n.kind ≡ kind → IsSuited above n → IsUnseen (record { label = n; above = above; below = below })
unseen_as n [] below kind no_root no_boxes no_float is suited = absurd (false≢true (sym no_root ∙ first_of (may_hold None kind) _ (subst (λ (k : Kind). IsTrue (kind_suits [] k)) is suited.kind)))
unseen_as n (parent ∷ above) below kind no_root no_boxes no_float is suited = (
  no_box n.boxes (subst (λ (b : Bool). IsTrue b) (ap (λ k. box_count_suits false k (length n.boxes)) is ∙ no_boxes (length n.boxes)) suited.boxes),
  (refl, ap (λ k. may_float k && (n.style.floats && not (takes_out (used_position n)))) is ∙ ap (λ b. b && (n.style.floats && not (takes_out (used_position n)))) no_float),
)

suits_as : (n : Label) (above : List Label) (below : Forest) (kind : Kind) → n.kind ≡ kind → IsSuited above n → EachNode IsSuited (n ∷ above) below → SuitsAs kind (record { label = n; above = above; below = below })
suits_as n above below Block is suited all = topmost false is_svg_content n above below (λ kind holds. flow_is_none kind (sym (ap (λ k. may_hold (Some k) kind) is) ∙ holds)) all
suits_as n above below Inline is suited all = topmost false is_svg_content n above below (λ kind holds. flow_is_none kind (sym (ap (λ k. may_hold (Some k) kind) is) ∙ holds)) all
suits_as n above below InlineBlock is suited all = topmost false is_svg_content n above below (λ kind holds. flow_is_none kind (sym (ap (λ k. may_hold (Some k) kind) is) ∙ holds)) all
suits_as n above below Svg is suited all = topmost true is_unseen n above below (λ kind holds. content_is_unseen kind (sym (ap (λ k. may_hold (Some k) kind) is) ∙ holds)) all
suits_as n above below Map is suited all = (
  unseen_as n above below Map refl (λ count. refl) refl is suited,
  (
    topmost true is_unseen n above below (λ kind holds. (area_is_unseen kind (sym (ap (λ k. may_hold (Some k) kind) is) ∙ holds)).0) all,
    topmost false is_svg_content n above below (λ kind holds. (area_is_unseen kind (sym (ap (λ k. may_hold (Some k) kind) is) ∙ holds)).1) all,
  ),
)
suits_as n above below Area is suited all = (
  unseen_as n above below Area refl (λ count. refl) refl is suited,
  (
    topmost true is_unseen n above below (λ kind holds. absurd (false≢true (sym (ap (λ k. may_hold (Some k) kind) is) ∙ holds))) all,
    topmost false is_svg_content n above below (λ kind holds. absurd (false≢true (sym (ap (λ k. may_hold (Some k) kind) is) ∙ holds))) all,
  ),
)
suits_as n above below Group is suited all =
    (unseen_as n above below Group refl (λ count. refl) refl is suited, topmost true is_unseen n above below (λ kind holds. content_is_unseen kind (sym (ap (λ k. may_hold (Some k) kind) is) ∙ holds)) all)
suits_as n above below Shape is suited all =
    (unseen_as n above below Shape refl (λ count. refl) refl is suited, topmost true is_unseen n above below (λ kind holds. absurd (false≢true (sym (ap (λ k. may_hold (Some k) kind) is) ∙ holds))) all)
suits_as n above below Inner is suited all =
    (unseen_as n above below Inner refl (λ count. refl) refl is suited, topmost true is_unseen n above below (λ kind holds. content_is_unseen kind (sym (ap (λ k. may_hold (Some k) kind) is) ∙ holds)) all)
suits_as n above below Image is suited all = nothing_below n above below (λ kind. ap (λ k. may_hold (Some k) kind) is) all
suits_as n above below Text is suited all = (nothing_below n above below (λ kind. ap (λ k. may_hold (Some k) kind) is) all, (no_float, has_parent above (subst (λ (k : Kind). IsTrue (kind_suits above k)) is suited.kind)))
  where
    has_parent : (above : List Label) → IsTrue (kind_suits above Text) → is_some (parent_of above) ≡ true
    has_parent [] holds = absurd (false≢true holds)
    has_parent (parent ∷ others) holds = refl

    initial : (a b c : Bool) → (a && (not b && c)) ≡ true → b ≡ false
    initial a false c is' = refl
    initial true true c is' = absurd (false≢true is')
    initial false true c is' = absurd (false≢true is')

    first : (a b : Bool) → (a && b) ≡ true → a ≡ true
    first true b is' = refl
    first false b is' = absurd (false≢true is')

    empty : is_empty n.style ≡ true
    empty = subst (λ (k : Kind). IsTrue (style_suits k n.style)) is suited.style

    no_float : n.style.floats ≡ false
    no_float = initial _ n.style.floats _ (first (has_initial_flow n.style) _ empty)

suits_walk : (above : List Label) (f : Forest) → EachNode IsSuited above f → Throughout SuitsWalk above f
suits_walk above End suited = tt
suits_walk above (Grow n below others) suited = (suits_as n above below n.kind refl suited.0 suited.1.0, (suits_walk (n ∷ above) below suited.1.0, suits_walk above others suited.1.1))

-- each item of a valid page is painted
pub all_items_are_painted : AllItemsArePainted
all_items_are_painted page valid test = of_tree page.tree valid.suited valid.one_tree
  where
    root_kind : (kind : Kind) → IsTrue (kind_suits [] kind) → kind ≡ Block
    root_kind Block holds = refl
    root_kind Inline holds = absurd (false≢true holds)
    root_kind InlineBlock holds = absurd (false≢true holds)
    root_kind Image holds = absurd (false≢true holds)
    root_kind Svg holds = absurd (false≢true holds)
    root_kind Text holds = absurd (false≢true holds)
    root_kind Map holds = absurd (false≢true holds)
    root_kind Area holds = absurd (false≢true holds)
    root_kind Group holds = absurd (false≢true holds)
    root_kind Shape holds = absurd (false≢true holds)
    root_kind Inner holds = absurd (false≢true holds)

    of_tree : (f : Forest) → EachNode IsSuited [] f → length (roots_of f) ≤ 1 → count test (root_layer f) ≡ count test (items_in [] f)
    of_tree End suited one = refl
    of_tree (Grow n below End) suited one = root_total test n below (root_kind n.kind suited.0.kind) (suits_as n [] below Block (root_kind n.kind suited.0.kind) suited.0 suited.1.0) (suits_walk (n ∷ []) below suited.1.0)
    of_tree (Grow n below (Grow m deeper others)) suited one = absurd (omega arith)
