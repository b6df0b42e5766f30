-- The first area of a map that covers a point, found by looking the children of the map up one after another.
use Rattle.std.proofs.Common.{◌≡◌, ℕ, ◌+◌, ◌<◌, ◌≤◌, ℤ, List, ◌∷◌, length, drop, Some, None, Bool, true, false, if◌then◌else◌, refl, sym, ap, ◌∙◌, arith}
use Rattle.std.specs.Option.{option_map, option_map_or}
use Rattle.box_tree.specs.declared.node.Node.{Node}
use Rattle.box_tree.specs.Contents.{Contents, node_at, node_of, IsValid}
use Rattle.box_tree.specs.Covers.{form_covers, areas_of, first_covering, first_cover, covering_among}
use Rattle.box_tree.specs.Forest.{Label, Forest, End, Grow, roots_of}
use Rattle.box_tree.specs.Suits.{is_map}
use Rattle.box_tree.proofs.PlacedLemmas.{AreAtPlaces, found-at_places, seen_at}
use Rattle.box_tree.proofs.ExchangeLemmas.{drop_all}

-- a node of the page covers what its form covers
abbrev covers_so : Contents → (x y : ℤ) → ℕ → Bool
covers_so page x y id = option_map_or (λ (n : Node). form_covers x y n.form) (node_of page id) false

covering-seen : (page : Contents) (x y : ℤ) (f : Forest) (above : List Label) → AreAtPlaces page above f → covering_among page x y (roots_of f) ≡ first_covering x y f
covering-seen page x y End above known = refl
covering-seen page x y (Grow n below others) above known =
    let here : covers_so page x y n.id ≡ form_covers x y n.form = ap (λ o. option_map_or (λ (m : Node). form_covers x y m.form) (option_map node_at o) false) known.0 in
    ap (λ b. if b then Some n.id else covering_among page x y (roots_of others)) here
    ∙ ap (λ o. if form_covers x y n.form then Some n.id else o) (covering-seen page x y others above known.1.1)

-- those of a map are its children
pub record AreAreas (page : Contents) (map : ℕ) (x y : ℤ) (children : List ℕ) : Type 0 where
  pub ids : children ≡ roots_of (areas_of page map)
  pub first : covering_among page x y children ≡ first_cover page map x y

pub areas-seen : (page : Contents) (map : ℕ) (x y : ℤ) (n : Node) → IsValid page → node_of page map ≡ Some n → is_map n.kind ≡ true → AreAreas page map x y n.children
areas-seen page map x y n valid seen is =
    let at = seen_at page map n seen in
    let areas_are : areas_of page map ≡ at.place.below =
    ap (λ o. option_map_or (λ p. if is_map p.label.kind then p.below else End) o End) at.found
    ∙ ap (λ b. if b then at.place.below else End) (ap (λ (m : Node). is_map m.kind) at.node_is ∙ is) in
    let ids_are : n.children ≡ roots_of at.place.below = sym (ap (λ (m : Node). m.children) at.node_is) in
    record {
      ids = ids_are ∙ ap roots_of (sym areas_are);
      first = ap (covering_among page x y) ids_are ∙ covering-seen page x y at.place.below (at.place.label ∷ at.place.above) (found-at_places page map at.place valid at.found) ∙ ap (first_covering x y) (sym areas_are);
    }

-- none of the ids before a place covers the point, and so many steps were taken
pub record HasSearched (page : Contents) (x y : ℤ) (ids : List ℕ) (index start now : ℕ) : Type 0 where
  pub first : covering_among page x y (drop index ids) ≡ covering_among page x y ids
  pub steps : now ≡ start + index
  pub within : index ≤ length ids

-- at the place the id is asked
pub asked : (page : Contents) (x y : ℤ) (ids : List ℕ) (index start now id : ℕ) → HasSearched page x y ids index start now → drop index ids ≡ id ∷ drop (index + 1) ids →
    covering_among page x y ids ≡ (if covers_so page x y id then Some id else covering_among page x y (drop (index + 1) ids))
asked page x y ids index start now id so is = sym so.first ∙ ap (covering_among page x y) is

pub covered : (page : Contents) (x y : ℤ) (ids : List ℕ) (index start now id : ℕ) (b : Bool) → HasSearched page x y ids index start now → drop index ids ≡ id ∷ drop (index + 1) ids → b ≡ covers_so page x y id → b ≡ true → Some id ≡ covering_among page x y ids
covered page x y ids index start now id b so is told held =
    sym (asked page x y ids index start now id so is ∙ ap (λ b'. if b' then Some id else covering_among page x y (drop (index + 1) ids)) (sym told ∙ held))

pub not_covered : (page : Contents) (x y : ℤ) (ids : List ℕ) (index start now now' id : ℕ) (b : Bool) → HasSearched page x y ids index start now → drop index ids ≡ id ∷ drop (index + 1) ids → b ≡ covers_so page x y id → b ≡ false → now' ≡ now + 1 → index < length ids → HasSearched page x y ids (index + 1) start now'
not_covered page x y ids index start now now' id b so is told unheld ticked inside = record {
  first = sym (asked page x y ids index start now id so is ∙ ap (λ b'. if b' then Some id else covering_among page x y (drop (index + 1) ids)) (sym told ∙ unheld));
  steps = omega (arith, so.steps, ticked);
  within = omega (arith, inside);
}

pub none_covered : (page : Contents) (x y : ℤ) (ids : List ℕ) (index start now : ℕ) → HasSearched page x y ids index start now → length ids ≤ index → None ≡ covering_among page x y ids
none_covered page x y ids index start now so all = sym (sym so.first ∙ ap (covering_among page x y) (drop_all ids index all))
