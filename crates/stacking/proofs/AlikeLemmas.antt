-- What a stacking context lists is a function of its used values and of the nodes below it down to the next stacking
-- contexts: two trees that agree so far give the same. The words of a node look at its parent only to see whether it is the
-- root. The shares of the children are pairwise alike, by one induction on the trees; the walks follow.
use Rattle.std.proofs.Common.{◌≡◌, ℕ, zero, suc, ◌+◌, ◌<◌, ◌≤◌, List, [], ◌∷◌, ◌++◌, map, Option, Some, None, Bool, true, false, not, ◌&&◌, ◌||◌, is_some, refl, sym, ap, ◌∙◌, subst, arith}
use Rattle.std.specs.Prelude.{if◌then◌else◌, int_lt, nat_lt, pos, ℤ}
use Rattle.std.specs.List.{filter, flat_map}
use Rattle.std.proofs.lemmas.Bool.{false≢true}
use Rattle.box_tree.specs.declared.kind.Kind.{Kind}
use Rattle.box_tree.specs.declared.kind.Kind.TheVariants.{Block, Inline, InlineBlock, Image, Svg, Text, Map, Area, Group, Shape, Inner}
use Rattle.box_tree.specs.declared.item.Item.{Item}
use Rattle.box_tree.specs.declared.piece.Piece.{Piece}
use Rattle.box_tree.specs.Forest.{Label, Forest, End, Grow, Placed, height_of}
use Rattle.box_tree.specs.Containing.{parent_of}
use Rattle.box_tree.specs.Suits.{is_text, is_svg_content}
use Rattle.box_tree.specs.Used.{is_floating, is_positioned, is_real_context, may_make_context, is_in_flow, stack_level}
use Rattle.stacking.specs.Painting.{Paint, OneBox, Whole, LinePiece, Share, ContextEntry, OneItem, SubContext, at, is_replaced_kind, is_entered, is_block, is_member, is_float, is_inline, is_atom, has_head, own, box_items, head, drawn, outlines, content, content_as, box_pieces, own_pieces, first_line, share_of, shares_of, shares_in, reach, blocks, floats, pieces, is_on_lower_line, level_of, is_on_lower_level, context_members, painted_piece, lines_with, body_with, flat_to, flat, body, listed_member, entries}
use Rattle.stacking.specs.Sorting.{sorted_by}
use Rattle.stacking.proofs.SeenLemmas.{content_by}
use Rattle.stacking.proofs.PairLemmas.{EachPair, pairs-append, pairs-if, pairs-filter, pairs-joined, pairs-flat_map, pairs-sorted}

-- trees below a node, the same down to the next stacking contexts
abbrev pub AlikeTrees : Forest → Forest → Type 0
AlikeTrees End End = Unit {0}
AlikeTrees End (Grow m below' others') = ⊥
AlikeTrees (Grow n below others) End = ⊥
AlikeTrees (Grow n below others) (Grow m below' others') = (n ≡ m) × ((is_real_context (Some n) n ≡ false → AlikeTrees below below') × AlikeTrees others others')

-- the same node, with a parent in both places or in neither
pub record IsSame (p q : Placed) : Type 0 where
  pub label : p.label ≡ q.label
  pub parent : is_some (parent_of p.above) ≡ is_some (parent_of q.above)

-- a word looks at the parent only to see whether it is there
abbrev pub LooksOnly : {A : Type 0} → (Option Label → Label → A) → Type 0
LooksOnly word = (a b n : Label) → word (Some a) n ≡ word (Some b) n

pub same-at : {A : Type 0} (word : Option Label → Label → A) → LooksOnly word → (p q : Placed) → IsSame p q → at word p ≡ at word q
same-at word looks p q same = by_parent (parent_of p.above) (parent_of q.above) same.parent ∙ ap (word (parent_of q.above)) same.label
  where
    by_parent : (o o' : Option Label) → is_some o ≡ is_some o' → word o p.label ≡ word o' p.label
    by_parent None None is = refl
    by_parent None (Some b) is = absurd (false≢true is)
    by_parent (Some a) None is = absurd (false≢true (sym is))
    by_parent (Some a) (Some b) is = looks a b p.label

entered-looks : LooksOnly is_entered
unfolding is_entered
entered-looks a b n = refl

block-looks : LooksOnly is_block
unfolding is_block
block-looks a b n = refl

member-looks : LooksOnly is_member
unfolding is_member
member-looks a b n = refl

float-looks : LooksOnly is_float
unfolding is_float is_member
float-looks a b n = refl

inline-looks : LooksOnly is_inline
unfolding is_inline
inline-looks a b n = refl

atom-looks : LooksOnly is_atom
unfolding is_atom
atom-looks a b n = refl

head-looks : LooksOnly has_head
unfolding has_head
head-looks a b n = refl

pub real-looks : LooksOnly is_real_context
real-looks a b n = refl

flow-looks : LooksOnly is_in_flow
flow-looks a b n = refl

level-looks : LooksOnly stack_level
level-looks a b n = refl

-- what is in flow is no stacking context
in_flow-not_real : (f p r x : Bool) → ((not f && (not p && not r)) && x) ≡ true → r ≡ false
in_flow-not_real f p false x is = refl
in_flow-not_real true p true x is = absurd (false≢true is)
in_flow-not_real false true true x is = absurd (false≢true is)
in_flow-not_real false false true x is = absurd (false≢true is)

no_member-not_real : (f p r : Bool) → (f && not (p || r)) ≡ true → r ≡ false
no_member-not_real f p false is = refl
no_member-not_real false p true is = absurd (false≢true is)
no_member-not_real true true true is = absurd (false≢true is)
no_member-not_real true false true is = absurd (false≢true is)

entered-not_real : (o : Option Label) (n : Label) → is_entered o n ≡ true → is_real_context o n ≡ false
unfolding is_entered
entered-not_real o n is = in_flow-not_real (is_floating o n) (is_positioned o n) (is_real_context o n) _ is

block-not_real : (o : Option Label) (n : Label) → is_block o n ≡ true → is_real_context o n ≡ false
unfolding is_block
block-not_real o n is = in_flow-not_real (is_floating o n) (is_positioned o n) (is_real_context o n) _ is

atom-not_real : (o : Option Label) (n : Label) → is_atom o n ≡ true → is_real_context o n ≡ false
unfolding is_atom
atom-not_real o n is = in_flow-not_real (is_floating o n) (is_positioned o n) (is_real_context o n) _ is

float-not_real : (o : Option Label) (n : Label) → is_float o n ≡ true → is_real_context o n ≡ false
unfolding is_float is_member
float-not_real o n is = no_member-not_real (is_floating o n) (is_positioned o n) (is_real_context o n) is

svg-not_real : (kind : Kind) (x : Bool) → is_svg_content kind ≡ true → (may_make_context kind && x) ≡ false
svg-not_real Group x is = refl
svg-not_real Shape x is = refl
svg-not_real Inner x is = refl
svg-not_real Text x is = refl
svg-not_real Map x is = refl
svg-not_real Area x is = refl
svg-not_real Block x is = absurd (false≢true is)
svg-not_real Inline x is = absurd (false≢true is)
svg-not_real InlineBlock x is = absurd (false≢true is)
svg-not_real Image x is = absurd (false≢true is)
svg-not_real Svg x is = absurd (false≢true is)

-- a node that a walk meets in both trees: what is below it agrees, unless it is a stacking context; fewer than so many levels
-- are below it
pub record IsAlike (k j : ℕ) (p q : Placed) : Type 0 where
  pub same : IsSame p q
  pub below : at is_real_context p ≡ false → AlikeTrees p.below q.below
  pub lower : height_of p.below < k
  pub lower' : height_of q.below < j

-- a node of which all that counts agrees
pub record IsTwin (k j : ℕ) (p q : Placed) : Type 0 where
  pub same : IsSame p q
  pub below : AlikeTrees p.below q.below
  pub lower : height_of p.below < k
  pub lower' : height_of q.below < j

twin : (k j : ℕ) (p q : Placed) → IsAlike k j p q → at is_real_context p ≡ false → IsTwin k j p q
twin k j p q is not_so = record { same = is.same; below = is.below not_so; lower = is.lower; lower' = is.lower' }

abbrev AlikePaint : ℕ → ℕ → Paint → Paint → Type 0
AlikePaint k j (OneBox item) (OneBox item') = item ≡ item'
AlikePaint k j (OneBox item) (Whole q) = ⊥
AlikePaint k j (Whole p) (OneBox item') = ⊥
AlikePaint k j (Whole p) (Whole q) = IsTwin k j p q

pub record IsAlikePiece (k j : ℕ) (a b : LinePiece) : Type 0 where
  pub line : a.line ≡ b.line
  pub paint : AlikePaint k j a.paint b.paint

pub record IsAlikeShare (k j : ℕ) (s t : Share) : Type 0 where
  pub reach : EachPair (IsAlike k j) s.reach t.reach
  pub pieces : EachPair (IsAlikePiece k j) s.pieces t.pieces
  pub members : EachPair (IsAlike k j) s.members t.members
  pub outlines : s.outlines ≡ t.outlines

module _ (k j : ℕ) where
  box_pieces-alike : (id place : ℕ) (boxes : List Piece) → EachPair (IsAlikePiece k j) (box_pieces id place boxes) (box_pieces id place boxes)
  box_pieces-alike id place [] = tt
  box_pieces-alike id place (box ∷ boxes) = (record { line = refl; paint = refl }, box_pieces-alike id (place + 1) boxes)

  own_pieces-alike : (n m : Label) → n ≡ m → EachPair (IsAlikePiece k j) (own_pieces n) (own_pieces m)
  own_pieces-alike n m is = subst (λ (l : Label). EachPair (IsAlikePiece k j) (own_pieces n) (own_pieces l)) is (box_pieces-alike n.id 0 n.boxes)

  -- joined over shares that are alike
  module _ (ss ts : List Share) (all : EachPair (IsAlikeShare k j) ss ts) where
    reach-joined : EachPair (IsAlike k j) (flat_map (λ s. s.reach) ss) (flat_map (λ s. s.reach) ts)
    reach-joined = pairs-flat_map (IsAlikeShare k j) (IsAlike k j) (λ s. s.reach) (λ s. s.reach) (λ s t is. is.reach) ss ts all

    pieces-joined : EachPair (IsAlikePiece k j) (flat_map (λ s. s.pieces) ss) (flat_map (λ s. s.pieces) ts)
    pieces-joined = pairs-flat_map (IsAlikeShare k j) (IsAlikePiece k j) (λ s. s.pieces) (λ s. s.pieces) (λ s t is. is.pieces) ss ts all

    members-joined : EachPair (IsAlike k j) (flat_map (λ s. s.members) ss) (flat_map (λ s. s.members) ts)
    members-joined = pairs-flat_map (IsAlikeShare k j) (IsAlike k j) (λ s. s.members) (λ s. s.members) (λ s t is. is.members) ss ts all

    outlines-joined : flat_map (λ s. s.outlines) ss ≡ flat_map (λ s. s.outlines) ts
    outlines-joined = pairs-joined (IsAlikeShare k j) (λ s. s.outlines) (λ s. s.outlines) (λ s t is. is.outlines) ss ts all

  -- a child in both trees
  module _ (n m a b : Label) (above above' : List Label) (below below' : Forest) where
    abbrev p : Placed
    p = record { label = n; above = a ∷ above; below = below }

    abbrev q : Placed
    q = record { label = m; above = b ∷ above'; below = below' }

    module _ (is : IsAlike k j p q) (ss ts : List Share) (inner : at is_real_context p ≡ false → EachPair (IsAlikeShare k j) ss ts) where
      reach-alike : EachPair (IsAlike k j) (share_of p ss).reach (share_of q ts).reach
      reach-alike = (
        is,
        pairs-if (IsAlike k j) (at is_entered p) (at is_entered q) (same-at is_entered entered-looks p q is.same) _ [] _ []
            (λ so. reach-joined ss ts (inner (entered-not_real (Some a) n so))) (λ not_so. tt),
      )

      pieces-alike : EachPair (IsAlikePiece k j) (share_of p ss).pieces (share_of q ts).pieces
      pieces-alike =
          pairs-if (IsAlikePiece k j) (is_text n.kind) (is_text m.kind) (ap (λ (l : Label). is_text l.kind) is.same.label) (own_pieces n) _ (own_pieces m) _ (λ so. own_pieces-alike n m is.same.label)
          (λ no_text. pairs-if (IsAlikePiece k j) (at is_in_flow p && at is_inline p) (at is_in_flow q && at is_inline q)
          (ap (λ c. c && at is_inline p) (same-at is_in_flow flow-looks p q is.same) ∙ ap (λ c. at is_in_flow q && c) (same-at is_inline inline-looks p q is.same)) _ _ _ _
          (λ so. pairs-append (IsAlikePiece k j) (own_pieces n) _ (own_pieces m) _ (own_pieces-alike n m is.same.label)
          (pieces-joined ss ts (inner (in_flow-not_real (is_floating (Some a) n) (is_positioned (Some a) n) (is_real_context (Some a) n) (at is_inline p) so))))
          (λ no_inline. pairs-if (IsAlikePiece k j) (at is_atom p) (at is_atom q) (same-at is_atom atom-looks p q is.same) _ [] _ []
          (λ so. (record { line = ap (λ (l : Label). first_line l.boxes) is.same.label; paint = twin k j p q is (atom-not_real (Some a) n so) }, tt)) (λ not_so. tt)))

      members-alike : EachPair (IsAlike k j) (share_of p ss).members (share_of q ts).members
      members-alike = pairs-append (IsAlike k j) (if at is_member p then p ∷ [] else []) _ (if at is_member q then q ∷ [] else []) _
          (pairs-if (IsAlike k j) (at is_member p) (at is_member q) (same-at is_member member-looks p q is.same) (p ∷ []) [] (q ∷ []) [] (λ so. (is, tt)) (λ not_so. tt))
          (pairs-if (IsAlike k j) (at is_real_context p) (at is_real_context q) (same-at is_real_context real-looks p q is.same) [] _ [] _ (λ so. tt) (λ not_so. members-joined ss ts (inner not_so)))

      outlines-alike : (share_of p ss).outlines ≡ (share_of q ts).outlines
      outlines-alike = by_kind (is_svg_content n.kind) refl ∙ ap (λ (l : Label). if is_svg_content l.kind then drawn l ++ flat_map (λ s. s.outlines) ts else []) is.same.label
        where
          by_kind : (c : Bool) → is_svg_content n.kind ≡ c → (if c then drawn n ++ flat_map (λ s. s.outlines) ss else []) ≡ (if c then drawn n ++ flat_map (λ s. s.outlines) ts else [])
          by_kind true so = ap (λ xs. drawn n ++ xs) (outlines-joined ss ts (inner (svg-not_real n.kind _ so)))
          by_kind false not_so = refl

      share-alike : IsAlikeShare k j (share_of p ss) (share_of q ts)
      share-alike = record { reach = reach-alike; pieces = pieces-alike; members = members-alike; outlines = outlines-alike }

  shares-alike : (a b : Label) (above above' : List Label) (f g : Forest) → AlikeTrees f g → height_of f ≤ k → height_of g ≤ j → EachPair (IsAlikeShare k j) (shares_of (a ∷ above) f) (shares_of (b ∷ above') g)
  shares-alike a b above above' End End alike few few' = tt
  shares-alike a b above above' End (Grow m below' others') alike few few' = absurd alike
  shares-alike a b above above' (Grow n below others) End alike few few' = absurd alike
  shares-alike a b above above' (Grow n below others) (Grow m below' others') alike few few' = (
    share-alike n m a b above above' below below' (record { same = record { label = alike.0; parent = refl }; below = alike.1.0; lower = omega arith; lower' = omega arith })
        (shares_of (n ∷ (a ∷ above)) below) (shares_of (m ∷ (b ∷ above')) below') (λ not_so. shares-alike n m (a ∷ above) (b ∷ above') below below' (alike.1.0 not_so) (omega arith) (omega arith)),
    shares-alike a b above above' others others' alike.1.1 (omega arith) (omega arith),
  )

-- what a node paints itself
own-alike : (p q : Placed) → IsSame p q → own p ≡ own q
own-alike p q same = ap (λ (l : Label). box_items l.id 0 l.boxes) same.label

head-alike : (p q : Placed) → IsSame p q → head p ≡ head q
head-alike p q same = ap (λ xs. if at has_head p then xs else []) (own-alike p q same) ∙ ap (λ c. if c then own q else []) (same-at has_head head-looks p q same)

level-same : (p q : Placed) → IsSame p q → level_of p ≡ level_of q
level-same p q same =
    ap (λ c. if c then at stack_level p else pos 0) (same-at is_real_context real-looks p q same) ∙ ap (λ z. if at is_real_context q then z else pos 0) (same-at stack_level level-looks p q same)

-- what the walk of a node meets
module _ (k j : ℕ) (p q : Placed) (is : IsTwin (suc k) (suc j) p q) where
  shares-met : EachPair (IsAlikeShare k j) (shares_in p) (shares_in q)
  shares-met = shares-alike k j p.label q.label p.above q.above p.below q.below is.below (omega (arith, is.lower)) (omega (arith, is.lower'))

  replaced-alike : is_replaced_kind p.label.kind ≡ is_replaced_kind q.label.kind
  replaced-alike = ap (λ (l : Label). is_replaced_kind l.kind) is.same.label

  reach-met : EachPair (IsAlike k j) (reach p) (reach q)
  reach-met = pairs-if (IsAlike k j) (is_replaced_kind p.label.kind) (is_replaced_kind q.label.kind) replaced-alike [] _ [] _ (λ so. tt) (λ not_so. reach-joined k j (shares_in p) (shares_in q) shares-met)

  blocks-met : EachPair (IsTwin k j) (blocks p) (blocks q)
  blocks-met = pairs-filter (IsAlike k j) (IsTwin k j) (at is_block) (at is_block) (λ m n alike. same-at is_block block-looks m n alike.same)
      (λ m n alike so. twin k j m n alike (block-not_real (parent_of m.above) m.label so)) (reach p) (reach q) reach-met

  floats-met : EachPair (IsTwin k j) (floats p) (floats q)
  floats-met = pairs-filter (IsAlike k j) (IsTwin k j) (at is_float) (at is_float) (λ m n alike. same-at is_float float-looks m n alike.same)
      (λ m n alike so. twin k j m n alike (float-not_real (parent_of m.above) m.label so)) (reach p) (reach q) reach-met

  pieces-met : EachPair (IsAlikePiece k j) (sorted_by is_on_lower_line (pieces p)) (sorted_by is_on_lower_line (pieces q))
  pieces-met = pairs-sorted (IsAlikePiece k j) is_on_lower_line is_on_lower_line
      (λ a a' b b' one other. ap (λ (l : ℕ). nat_lt l a'.line) one.line ∙ ap (λ (l : ℕ). nat_lt b.line l) other.line) (pieces p) (pieces q)
      (pairs-append (IsAlikePiece k j) (if at is_inline p then own_pieces p.label else []) _ (if at is_inline q then own_pieces q.label else []) _
      (pairs-if (IsAlikePiece k j) (at is_inline p) (at is_inline q) (same-at is_inline inline-looks p q is.same) (own_pieces p.label) [] (own_pieces q.label) [] (λ so. own_pieces-alike k j p.label q.label is.same.label) (λ not_so. tt))
      (pieces-joined k j (shares_in p) (shares_in q) shares-met))

  members-met : EachPair (IsAlike k j) (context_members p) (context_members q)
  members-met = pairs-sorted (IsAlike k j) is_on_lower_level is_on_lower_level
      (λ m m' n n' one other. ap (λ z. int_lt z (level_of m')) (level-same m n one.same) ∙ ap (λ z. int_lt (level_of n) z) (level-same m' n' other.same)) _ _
      (members-joined k j (shares_in p) (shares_in q) shares-met)

  content-alike : content p ≡ content q
  content-alike = by_kind p.label.kind ∙ ap (λ (l : Label). content_by l.kind l (outlines q)) is.same.label ∙ sym (seen q.label.kind)
    where
      by_kind : (kind : Kind) → content_as kind p ≡ content_by kind p.label (outlines q)
      by_kind Image = refl
      by_kind Svg = outlines-joined k j (shares_in p) (shares_in q) shares-met
      by_kind Block = refl
      by_kind Inline = refl
      by_kind InlineBlock = refl
      by_kind Text = refl
      by_kind Map = refl
      by_kind Area = refl
      by_kind Group = refl
      by_kind Shape = refl
      by_kind Inner = refl

      seen : (kind : Kind) → content_as kind q ≡ content_by kind q.label (outlines q)
      seen Image = refl
      seen Svg = refl
      seen Block = refl
      seen Inline = refl
      seen InlineBlock = refl
      seen Text = refl
      seen Map = refl
      seen Area = refl
      seen Group = refl
      seen Shape = refl
      seen Inner = refl

-- the walks of twins
module _ (f g : Placed → List Item) (k j : ℕ) (same : (p q : Placed) → IsTwin k j p q → f p ≡ g q) where
  painted-alike : (a b : LinePiece) → IsAlikePiece k j a b → painted_piece f a ≡ painted_piece g b
  painted-alike a b is = of_paint a.line b.line a.paint b.paint is.paint
    where
      of_paint : (line line' : ℕ) (paint paint' : Paint) → AlikePaint k j paint paint' → painted_piece f (record { line = line; paint = paint }) ≡ painted_piece g (record { line = line'; paint = paint' })
      of_paint line line' (OneBox item) (OneBox item') alike = ap (λ (i : Item). i ∷ []) alike
      of_paint line line' (OneBox item) (Whole q) alike = absurd alike
      of_paint line line' (Whole p) (OneBox item') alike = absurd alike
      of_paint line line' (Whole p) (Whole q) alike = same p q alike

  lines-alike : (p q : Placed) → IsTwin (suc k) (suc j) p q → lines_with f p ≡ lines_with g q
  lines-alike p q is =
      ap (λ c. if c then content p else flat_map (painted_piece f) (sorted_by is_on_lower_line (pieces p))) (replaced-alike k j p q is)
      ∙ ap (λ xs. if is_replaced_kind q.label.kind then xs else flat_map (painted_piece f) (sorted_by is_on_lower_line (pieces p))) (content-alike k j p q is)
      ∙ ap (λ xs. if is_replaced_kind q.label.kind then content q else xs) (pairs-joined (IsAlikePiece k j) (painted_piece f) (painted_piece g) painted-alike _ _ (pieces-met k j p q is))

  body-alike : (p q : Placed) → IsTwin (suc k) (suc j) p q → body_with f p ≡ body_with g q
  body-alike p q is =
      ap (λ xs. xs ++ (flat_map f (floats p) ++ (lines_with f p ++ flat_map (lines_with f) (blocks p)))) (pairs-joined (IsTwin k j) own own (λ m n twins. own-alike m n twins.same) (blocks p) (blocks q) (blocks-met k j p q is))
      ∙ ap (λ xs. flat_map own (blocks q) ++ (xs ++ (lines_with f p ++ flat_map (lines_with f) (blocks p)))) (pairs-joined (IsTwin k j) f g same (floats p) (floats q) (floats-met k j p q is))
      ∙ ap (λ xs. flat_map own (blocks q) ++ (flat_map g (floats q) ++ (xs ++ flat_map (lines_with f) (blocks p)))) (lines-alike p q is)
      ∙ ap (λ xs. flat_map own (blocks q) ++ (flat_map g (floats q) ++ (lines_with g q ++ xs)))
      (pairs-joined (IsTwin k j) (lines_with f) (lines_with g) (λ m n twins. lines-alike m n (record { same = twins.same; below = twins.below; lower = omega (arith, twins.lower); lower' = omega (arith, twins.lower') })) (blocks p) (blocks q) (blocks-met k j p q is))

flat_to-alike : (k j : ℕ) (p q : Placed) → IsTwin k j p q → flat_to k p ≡ flat_to j q
flat_to-alike zero j p q is = absurd (omega (arith, is.lower))
flat_to-alike (suc k) zero p q is = absurd (omega (arith, is.lower'))
flat_to-alike (suc k) (suc j) p q is =
    ap (λ xs. xs ++ body_with (flat_to k) p) (head-alike p q is.same) ∙ ap (λ xs. head q ++ xs) (body-alike (flat_to k) (flat_to j) k j (flat_to-alike k j) p q is)

listed-alike : (k j : ℕ) (p q : Placed) → IsAlike k j p q → listed_member p ≡ listed_member q
listed-alike k j p q is =
    by_test (at is_real_context p) refl
    ∙ ap (λ c. if c then SubContext q.label.id ∷ [] else map OneItem (flat q)) (same-at is_real_context real-looks p q is.same)
  where
    by_test : (b : Bool) → at is_real_context p ≡ b → (if b then SubContext p.label.id ∷ [] else map OneItem (flat p)) ≡ (if b then SubContext q.label.id ∷ [] else map OneItem (flat q))
    by_test true real = ap (λ (l : Label). SubContext l.id ∷ []) is.same.label
    by_test false not_real = ap (map OneItem) (flat_to-alike (suc (height_of p.below)) (suc (height_of q.below)) p q (record { same = is.same; below = is.below not_real; lower = omega arith; lower' = omega arith }))

flat-alike : (m n : Placed) → IsSame m n → AlikeTrees m.below n.below → flat m ≡ flat n
flat-alike m n same alike = flat_to-alike (suc (height_of m.below)) (suc (height_of n.below)) m n (record { same = same; below = alike; lower = omega arith; lower' = omega arith })

-- the entries of the members on one side of level 0
abbrev on : (ℤ → Bool) → Placed → List ContextEntry
on side r = flat_map listed_member (filter (λ m. side (level_of m)) (context_members r))

abbrev low : ℤ → Bool
low z = int_lt z (pos 0)

abbrev level : ℤ → Bool
level z = not (int_lt z (pos 0)) && not (int_lt (pos 0) z)

abbrev high : ℤ → Bool
high z = int_lt (pos 0) z

-- the lists of two contexts whose trees agree
module _ (p q : Placed) (same : IsSame p q) (alike : AlikeTrees p.below q.below) where
  twins : IsTwin (suc (height_of p.below)) (suc (height_of q.below)) p q
  twins = record { same = same; below = alike; lower = omega arith; lower' = omega arith }

  side-alike : (side : ℤ → Bool) → on side p ≡ on side q
  side-alike side = pairs-joined (IsAlike (height_of p.below) (height_of q.below)) listed_member listed_member (listed-alike (height_of p.below) (height_of q.below)) _ _
      (pairs-filter (IsAlike (height_of p.below) (height_of q.below)) (IsAlike (height_of p.below) (height_of q.below)) (λ m. side (level_of m)) (λ m. side (level_of m))
      (λ m n is. ap side (level-same m n is.same)) (λ m n is so. is) _ _ (members-met (height_of p.below) (height_of q.below) p q twins))

  pub entries-alike : entries p ≡ entries q
  entries-alike =
      ap (λ xs. map OneItem xs ++ (on low p ++ (map OneItem (body p) ++ (on level p ++ on high p)))) (head-alike p q same)
      ∙ ap (λ xs. map OneItem (head q) ++ (xs ++ (map OneItem (body p) ++ (on level p ++ on high p)))) (side-alike low)
      ∙ ap (λ xs. map OneItem (head q) ++ (on low q ++ (map OneItem xs ++ (on level p ++ on high p))))
      (body-alike flat flat (height_of p.below) (height_of q.below) (λ m n twins'. flat-alike m n twins'.same twins'.below) p q twins)
      ∙ ap (λ xs. map OneItem (head q) ++ (on low q ++ (map OneItem (body q) ++ (xs ++ on high p)))) (side-alike level)
      ∙ ap (λ xs. map OneItem (head q) ++ (on low q ++ (map OneItem (body q) ++ (on level q ++ xs)))) (side-alike high)
