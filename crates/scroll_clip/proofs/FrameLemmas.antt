-- The clips of a node that stands outside of an edited one: the ancestors of the node stand outside too, and keep their spaces.
use Rattle.std.proofs.Common.{◌≡◌, ℕ, List, [], ◌∷◌, Option, Some, None, Bool, true, false, if◌then◌else◌, refl, sym, ap, ◌∙◌}
use Rattle.std.specs.Prelude.{ℤ, ◌&&◌}
use Rattle.std.specs.List.{AllByRecursion, list_all}
use Rattle.std.specs.Option.{option_map, option_map_or, option_and_then}
use Rattle.affine.specs.declared.map.Parts.{Parts}
use Rattle.affine.specs.Point.{local_point as point_in}
use Rattle.box_tree.specs.declared.edit.Edit.{Edit}
use Rattle.box_tree.specs.Forest.{Label, Placed}
use Rattle.box_tree.specs.Contents.{Contents, placed_of}
use Rattle.box_tree.specs.Containing.{Standing, parent_of, sought, may_hold, holders_among, containing_block_chain, standing_at}
use Rattle.box_tree.specs.Edited.{edited}
use Rattle.box_tree.specs.Frame.{IsFaultless, IsOutside}
use Rattle.spaces.specs.Spaces.{fine_point, space}
use Rattle.box_tree.proofs.RestLemmas.{standing_of}
use Rattle.spaces.proofs.FrameLemmas.{outside-in_rest}
use Rattle.scroll_clip.specs.Clips.{clip_set_by, clip_holds, lets_in, inside_clips}

-- two tests, each equal
same_both : (a a' b b' : Bool) → a ≡ a' → b ≡ b' → (a && b) ≡ (a' && b')
same_both a a' b b' first second = rw (first, second) refl

module _ (page after : Contents) (x y : ℤ) where
  -- a containing block that keeps its space lets in what it did
  lets_in-same : (n : Standing) → space after n.label.id ≡ space page n.label.id → lets_in after x y n ≡ lets_in page x y n
  lets_in-same n same = ap (λ (s : Option Parts). clip_holds (clip_set_by n) (option_map fine_point (option_and_then (λ m. point_in m x y) s))) same

  -- and so do all that hold a node below ancestors that keep their spaces
  all_let_in-same : (held : Label) (above : List Label) → AllByRecursion (λ (n : Label). space after n.id ≡ space page n.id) above →
      list_all (lets_in after x y) (holders_among (sought held) above) ≡ list_all (lets_in page x y) (holders_among (sought held) above)
  all_let_in-same held [] same = refl
  all_let_in-same held (n ∷ above) same =
      by_test (may_hold (sought held) (parent_of above) n) (all_let_in-same n above same.1) (all_let_in-same held above same.1)
    where
      holder : Standing
      holder = record { label = n; above = above }

      by_test : (holds : Bool) → list_all (lets_in after x y) (holders_among (sought n) above) ≡ list_all (lets_in page x y) (holders_among (sought n) above) →
          list_all (lets_in after x y) (holders_among (sought held) above) ≡ list_all (lets_in page x y) (holders_among (sought held) above) →
          list_all (lets_in after x y) (if holds then holder ∷ holders_among (sought n) above else holders_among (sought held) above)
          ≡ list_all (lets_in page x y) (if holds then holder ∷ holders_among (sought n) above else holders_among (sought held) above)
      by_test true further skipped = same_both _ _ _ _ (lets_in-same holder same.0) further
      by_test false further skipped = skipped

  abbrev inside-by : Contents → Option Standing → Bool
  inside-by p o = option_map_or (λ n. list_all (lets_in p x y) (containing_block_chain n)) o true

  by_standing : (p : Contents) (o : Option Placed) → option_map_or (λ q. list_all (lets_in p x y) (containing_block_chain (standing_at q))) o true ≡ inside-by p (option_map standing_at o)
  by_standing p None = refl
  by_standing p (Some q) = refl

  inside-same : (id : ℕ) → standing_of after id ≡ standing_of page id → ((p : Placed) → placed_of page id ≡ Some p → AllByRecursion (λ (n : Label). space after n.id ≡ space page n.id) p.above) → inside_clips after id x y ≡ inside_clips page id x y
  inside-same id standing same = by_standing after (placed_of after id) ∙ ap (inside-by after) standing ∙ by_place (placed_of page id) refl ∙ sym (by_standing page (placed_of page id))
    where
      by_place : (o : Option Placed) → placed_of page id ≡ o → inside-by after (option_map standing_at o) ≡ inside-by page (option_map standing_at o)
      by_place None found = refl
      by_place (Some p) found = all_let_in-same p.label p.above (same p found)

-- the frame law on clips
pub inside_clips-outside : (page : Contents) (edit : Edit) (id : ℕ) (x y : ℤ) → IsFaultless page edit → IsOutside page edit id → inside_clips (edited page edit) id x y ≡ inside_clips page id x y
inside_clips-outside page edit id x y faultless outside =
    let is = outside-in_rest page edit id faultless outside in
    inside-same page (edited page edit) x y id (is.as_before id is.stands) is.above
