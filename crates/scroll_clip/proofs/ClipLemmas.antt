-- The clips of a node are that of its containing block, where that is a node, and those of that node.
use Rattle.std.proofs.Common.{◌≡◌, ℕ, suc, ◌∷◌, List, [], Option, Some, None, Bool, true, false, is_some, if◌then◌else◌, refl, sym, ap, ◌∙◌}
use Rattle.std.specs.Prelude.{◌&&◌, ◌||◌, ◌↔◌, ℤ, IsNone, IfSome, nat_lt, length}
use Rattle.std.specs.List.{list_all}
use Rattle.std.specs.Option.{option_map_or}
use Rattle.std.proofs.lemmas.Bool.{false≢true}
use Rattle.corner_shapes.specs.declared.rounded.Rounded.{Rounded}
use Rattle.box_tree.specs.declared.node.Node.{Node}
use Rattle.box_tree.specs.declared.piece.Piece.{Piece}
use Rattle.box_tree.specs.declared.containing.Holder.{Holder}
use Rattle.box_tree.specs.declared.containing.Holder.TheVariants.{Node as HolderNode}
use Rattle.box_tree.specs.Forest.{Label, Placed}
use Rattle.box_tree.specs.Contents.{Contents, node_of, placed_of, IsValid}
use Rattle.box_tree.specs.Forms.{IsFormInRange}
use Rattle.box_tree.specs.declared.form.Form.{Form}
use Rattle.box_tree.specs.declared.form.Form.TheVariants.{Outline, Cover, View, Port, MapName}
use Rattle.box_tree.specs.Used.{has_box, gives_port, is_clipping}
use Rattle.box_tree.specs.Containing.{Standing, parent_of, containing_block, containing_block_chain, clips, standing_at}
use Rattle.box_tree.specs.Kept.{label_of}
use Rattle.box_tree.proofs.PlacedLemmas.{seen_at}
use Rattle.box_tree.proofs.ContainingLemmas.{standing, label-seen, held_by, unheld}
use Rattle.spaces.specs.Spaces.{local_point}
use Rattle.spaces.proofs.SuitedLemmas.{suited-seen}
use Rattle.scroll_clip.specs.Curves.{HasCurvesInRange}
use Rattle.scroll_clip.specs.Clips.{port_clip, curve_by, clipping_curve, clip_set_by, clip_of, clip_holds, holders_of, lets_in, inside_clips}

-- a node that clips has a box or a viewport, and so a curve
port-there : (form : Option Form) → gives_port form ≡ true → is_some (port_clip form) ≡ false → ⊥
port-there None some none = false≢true some
port-there (Some (Outline shape)) some none = false≢true some
port-there (Some (Cover area)) some none = false≢true some
port-there (Some (View view)) some none = false≢true some
port-there (Some (Port port)) some none = false≢true (sym none)
port-there (Some (MapName map)) some none = false≢true some

curve-at : (n : Label) (boxes : List Piece) → (nat_lt 0 (length boxes) || gives_port n.form) ≡ true → is_some (curve_by n boxes) ≡ false → ⊥
curve-at n [] some none = port-there n.form some none
curve-at n (box ∷ boxes) some none = false≢true (sym none)

second-of : (a b : Bool) → (a && b) ≡ true → b ≡ true
second-of true b is = is
second-of false b is = absurd (false≢true is)

first-of : (a b : Bool) → (a && b) ≡ true → a ≡ true
first-of true b is = refl
first-of false b is = absurd (false≢true is)

curve-there : (parent : Option Label) (n : Label) → is_clipping parent n ≡ true → is_some (clipping_curve n) ≡ false → ⊥
curve-there None n is none = false≢true is
curve-there (Some parent) n is none = curve-at n n.boxes (first-of (has_box n || gives_port n.form) _ (second-of _ _ is)) none

module _ (page : Contents) (valid : IsValid page) (id : ℕ) (node : Node) (seen : node_of page id ≡ Some node) where
  abbrev n : Standing
  n = standing page valid id node seen

  found : placed_of page id ≡ Some (seen_at page id node seen).place
  found = (seen_at page id node seen).found

  -- the numbers of a node of the page are in range
  pub curves-seen : HasCurvesInRange (label_of node)
  curves-seen =
      let suited = suited-seen page valid id node seen in record {
        border = suited.style_in_range.border;
        radii = suited.style_in_range.radii;
        boxes = suited.in_range;
      }

  pub form-seen : IfSome node.form IsFormInRange
  form-seen = (suited-seen page valid id node seen).formed.in_range

  -- the clip that a node sets, as a reader sees it
  pub clip-seen : clip_of page id ≡ (if clips page id then clipping_curve (label_of node) else None)
  clip-seen =
      ap (λ (o : Option Placed). option_map_or (λ p. clip_set_by (standing_at p)) o None) found
      ∙ ap (λ (b : Bool). if b then clipping_curve n.label else None) (sym (ap (λ (o : Option Placed). option_map_or (λ p. is_clipping (parent_of p.above) p.label) o false) found))
      ∙ ap (λ (l : Label). if clips page id then clipping_curve l else None) (sym (label-seen page valid id node seen))

  abbrev inside-from : ℤ → ℤ → Option Placed → Bool
  inside-from x y o = option_map_or (λ p. list_all (lets_in page x y) (containing_block_chain (standing_at p))) o true

  -- inside another node
  pub inside-held : (x y : ℤ) (holder : ℕ) → containing_block page id ≡ HolderNode holder →
      inside_clips page id x y ≡ (clip_holds (clip_of page holder) (local_point page holder x y) && inside_clips page holder x y)
  inside-held x y holder by =
      let is = held_by page valid id node seen holder by in
      let found' : placed_of page holder ≡ Some (record { label = is.standing_is.label; above = is.standing_is.above; below = is.stands.below }) = ap (placed_of page) (sym is.id_is) ∙ is.stands.found in
      ap (inside-from x y) found
      ∙ ap (list_all (lets_in page x y)) is.chain_is
      ∙ ap (λ (h : ℕ). clip_holds (clip_set_by is.standing_is) (local_point page h x y) && list_all (lets_in page x y) (containing_block_chain is.standing_is)) is.id_is
      ∙ ap (λ (o : Option Rounded). clip_holds o (local_point page holder x y) && list_all (lets_in page x y) (containing_block_chain is.standing_is)) (sym (ap (λ (o : Option Placed). option_map_or (λ p. clip_set_by (standing_at p)) o None) found'))
      ∙ ap (λ (b : Bool). clip_holds (clip_of page holder) (local_point page holder x y) && b) (sym (ap (inside-from x y) found'))

  -- which has one containing block fewer
  pub fewer-held : (holder : ℕ) → containing_block page id ≡ HolderNode holder → length (holders_of page id) ≡ suc (length (holders_of page holder))
  fewer-held holder by =
      let is = held_by page valid id node seen holder by in
      let found' : placed_of page holder ≡ Some (record { label = is.standing_is.label; above = is.standing_is.above; below = is.stands.below }) = ap (placed_of page) (sym is.id_is) ∙ is.stands.found in
      ap (λ (o : Option Placed). length (option_map_or (λ p. containing_block_chain (standing_at p)) o [])) found
      ∙ ap (λ (holders : List Standing). length holders) is.chain_is
      ∙ sym (ap (λ (o : Option Placed). suc (length (option_map_or (λ p. containing_block_chain (standing_at p)) o []))) found')

  -- inside no node
  pub inside-unheld : (x y : ℤ) (by : Holder) → containing_block page id ≡ by → ((holder : ℕ) → by ≡ HolderNode holder → ⊥) → inside_clips page id x y ≡ true
  inside-unheld x y by is no_node =
      ap (inside-from x y) found
      ∙ ap (list_all (lets_in page x y)) (unheld page valid id node seen by is no_node).1

  -- a node sets no clip just where it doesn't clip
  pub clip-none : IsNone (clip_of page id) ↔ (clips page id ≡ false)
  clip-none = by_test (clips page id) refl
    where
      clips-own : clips page id ≡ is_clipping (parent_of n.above) n.label
      clips-own = ap (λ (o : Option Placed). option_map_or (λ p. is_clipping (parent_of p.above) p.label) o false) found

      clip-own : clip_of page id ≡ (if is_clipping (parent_of n.above) n.label then clipping_curve n.label else None)
      clip-own = ap (λ (o : Option Placed). option_map_or (λ p. clip_set_by (standing_at p)) o None) found

      by_test : (b : Bool) → clips page id ≡ b → IsNone (clip_of page id) ↔ (b ≡ false)
      by_test true is =
          let clipping : is_clipping (parent_of n.above) n.label ≡ true = sym clips-own ∙ is in
          let curve_is : clip_of page id ≡ clipping_curve n.label = clip-own ∙ ap (λ (b : Bool). if b then clipping_curve n.label else None) clipping in (
            λ none. absurd (curve-there (parent_of n.above) n.label clipping (ap (λ (o : Option Rounded). is_some o) (sym curve_is) ∙ none)),
            λ no. absurd (false≢true (sym no)),
          )
      by_test false is =
          let none : clip_of page id ≡ None = clip-own ∙ ap (λ (b : Bool). if b then clipping_curve n.label else None) (sym clips-own ∙ is) in
          (λ _. refl, λ _. ap (λ (o : Option Rounded). is_some o) none)
