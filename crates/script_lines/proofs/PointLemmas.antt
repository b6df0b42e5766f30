-- Items in twos, as a loop takes them.
use Rattle.std.proofs.Common.{◌≡◌, ℕ, ◌+◌, ◌*◌, ◌%◌, ◌<◌, List, [], ◌∷◌, ◌++◌, length, drop, get_or, Option, Some, None, option_map, refl, sym, ap, ◌∙◌, append_assoc, arith}
use Rattle.std.specs.Option.{option_and_then}
use Rattle.std.proofs.lemmas.List.{at_drop_more}
use Rattle.serde_json.specs.View.{view, items_view}
use Rattle.serde_json.specs.declared.value.Value.{Value}
use Rattle.poly_shapes.specs.declared.point.Point.{Point}
use Rattle.script_lines.specs.Shapes.{point_at, each_point}

always-none : {A B : Type 0} (f : A → Option B) (o : Option A) → ((a : A) → f a ≡ None) → option_and_then f o ≡ None
always-none f None none = refl
always-none f (Some a) none = none a

-- an odd number of items is no points
pub points-odd : (vs : List Value) → length vs % 2 ≡ 1 → each_point (items_view vs) ≡ None
points-odd [] odd = absurd (omega arith)
points-odd (v ∷ []) odd = refl
points-odd (v ∷ w ∷ vs) odd =
    always-none (λ p. option_and_then (λ ps. Some (p ∷ ps)) (each_point (items_view vs))) (point_at (view v) (view w))
    (λ p. ap (option_and_then (λ ps. Some (p ∷ ps))) (points-odd vs (omega arith)))

module _ (vs : List Value) (k : ℕ) (d e : Value) (within : 2 * k + 1 < length vs) where
  abbrev rest : Option (List Point)
  rest = each_point (items_view (drop (2 * (k + 1)) vs))

  points-drop : each_point (items_view (drop (2 * k) vs)) ≡ option_and_then (λ p. option_and_then (λ ps. Some (p ∷ ps)) rest) (point_at (view (get_or vs (2 * k) d)) (view (get_or vs (2 * k + 1) e)))
  points-drop =
      let two_more : 2 * k + 1 + 1 ≡ 2 * (k + 1) = omega arith in
      at_drop_more (λ some. each_point (items_view some)) vs (2 * k) d (omega arith)
      ∙ at_drop_more (λ some. each_point (items_view (get_or vs (2 * k) d ∷ some))) vs (2 * k + 1) e within
      ∙ ap (λ i. each_point (items_view (get_or vs (2 * k) d ∷ get_or vs (2 * k + 1) e ∷ drop i vs))) two_more

  -- one step of the loop
  pub points-step : (done : List Point) (p : Point) → point_at (view (get_or vs (2 * k) d)) (view (get_or vs (2 * k + 1) e)) ≡ Some p →
      option_map (λ more. (done ++ p ∷ []) ++ more) rest ≡ option_map (λ more. done ++ more) (each_point (items_view (drop (2 * k) vs)))
  points-step done p is =
      by_rest rest
      ∙ ap (λ o. option_map (λ more. done ++ more) (option_and_then (λ q. option_and_then (λ ps. Some (q ∷ ps)) rest) o)) (sym is)
      ∙ ap (option_map (λ more. done ++ more)) (sym points-drop)
    where
      by_rest : (o : Option (List Point)) → option_map (λ more. (done ++ p ∷ []) ++ more) o ≡ option_map (λ more. done ++ more) (option_and_then (λ ps. Some (p ∷ ps)) o)
      by_rest None = refl
      by_rest (Some ps) = ap (λ (all : List Point). Some all) (append_assoc done (p ∷ []) ps)
