-- An outline with one subpath more.
use Rattle.std.proofs.Common.{◌≡◌, ℕ, ◌+◌, ◌^◌, ◌≤◌, List, [], ◌∷◌, ◌++◌, length, nat_le, Bool, true, false, Some, None, refl, sym, ap, ◌∙◌, subst, length-append, arith}
use Rattle.std.proofs.lemmas.Bool.Decides.{nat_tests}
use Rattle.std.specs.List.{All}
use Rattle.std.proofs.lemmas.List.Elements.{All-append}
use Rattle.poly_shapes.specs.declared.point.Sub.{Sub}
use Rattle.poly_shapes.specs.Segments.{IsPlaced}
use Rattle.poly_shapes.specs.Outline.{Outline, AreTiled, IsMeasured}
use Rattle.script_lines.specs.declared.paths.Subpath.{Subpath}
use Rattle.script_lines.specs.Shapes.{with_subpath}

tiled-more : (here there : ℕ) (subs : List Sub) (sub : Sub) → AreTiled here there subs → sub.first ≡ there → AreTiled here (there + sub.count) (subs ++ sub ∷ [])
tiled-more here there [] sub tiled first = (first ∙ sym tiled, ap (λ n. n + sub.count) tiled)
tiled-more here there (other ∷ subs) sub tiled first = (tiled.0, tiled-more (here + other.count) there subs sub tiled.1 first)

module _ (outline : Outline) (subpath : Subpath) where
  abbrev part : Sub
  part = record { first = length outline.points; count = length subpath.points; closed = subpath.closed }

  abbrev grown : Outline
  grown = record { points = outline.points ++ subpath.points; subs = outline.subs ++ part ∷ [] }

  subpath-none : nat_le (length outline.points + length subpath.points) (2 ^ 19) ≡ false → with_subpath outline subpath ≡ None
  unfolding with_subpath
  subpath-none many = rw many refl

  subpath-some : nat_le (length outline.points + length subpath.points) (2 ^ 19) ≡ true → with_subpath outline subpath ≡ Some grown
  unfolding with_subpath
  subpath-some few = rw few refl

  grown-measured : IsMeasured outline → All IsPlaced subpath.points → nat_le (length outline.points + length subpath.points) (2 ^ 19) ≡ true → IsMeasured grown
  grown-measured measured placed few =
      let sum : length (outline.points ++ subpath.points) ≡ length outline.points + length subpath.points = length-append outline.points subpath.points in
      record {
        placed = All-append IsPlaced outline.points subpath.points measured.placed placed;
        few = subst (λ n. n ≤ 2 ^ 19) (sym sum) (grind (arith, nat_tests));
        tiled = subst (λ n. AreTiled 0 n (outline.subs ++ part ∷ [])) (sym sum) (tiled-more 0 (length outline.points) outline.subs part measured.tiled refl);
      }

  -- what is made by one subpath more is measured
  pub measured-from : (next : Outline) → IsMeasured outline → All IsPlaced subpath.points → with_subpath outline subpath ≡ Some next → IsMeasured next
  measured-from next measured placed is = by_test (nat_le (length outline.points + length subpath.points) (2 ^ 19)) refl
    where
      by_test : (b : Bool) → nat_le (length outline.points + length subpath.points) (2 ^ 19) ≡ b → IsMeasured next
      by_test true few =
          let same : Some grown ≡ Some next = sym (subpath-some few) ∙ is in
          let same' : grown ≡ next = cc in
          subst IsMeasured same' (grown-measured measured placed few)
      by_test false many =
          let none : None ≡ Some next = sym (subpath-none many) ∙ is in
          absurd cc
