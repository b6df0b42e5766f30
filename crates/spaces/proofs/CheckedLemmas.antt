-- Where no partial product passes the bound, and which ancestors show what is in them.
use Rattle.std.proofs.Common.{◌≡◌, ℕ, List, [], ◌∷◌, Some, Bool, true, false, IsTrue, refl, ap, ◌∙◌}
use Rattle.std.specs.Prelude.{◌&&◌}
use Rattle.std.proofs.lemmas.Bool.{false≢true}
use Rattle.std.specs.List.{list_all}
use Rattle.box_tree.specs.declared.viewport.Viewport.{Viewport}
use Rattle.box_tree.specs.Forest.{Label, Forest, End, Grow, Placed, EachNode}
use Rattle.box_tree.specs.Contents.{Contents, placed_of, IsValid}
use Rattle.box_tree.specs.Containing.{Standing}
use Rattle.box_tree.proofs.MoveLemmas.{each-placed}
use Rattle.spaces.specs.Spaces.{shows, has_space}
use Rattle.spaces.specs.Bound.{is_bounded_at, are_bounded, is_bounded}

-- both of two tests that hold together
pub both : (a b : Bool) → (a && b) ≡ true → (a ≡ true) × (b ≡ true)
both true b is = (refl, is)
both false b is = absurd (false≢true is)

-- no partial product of a node passes the bound
abbrev pub IsBoundedBelow : Viewport → List Label → Label → Type 0
IsBoundedBelow viewport above n = is_bounded_at viewport (record { label = n; above = above }) ≡ true

pub each-bounded : (viewport : Viewport) (above : List Label) (f : Forest) → are_bounded viewport above f ≡ true → EachNode (IsBoundedBelow viewport) above f
each-bounded viewport above End is = tt
each-bounded viewport above (Grow n below others) is =
    let here = both _ _ is in
    let there = both _ _ here.1 in
    (here.0, (each-bounded viewport (n ∷ above) below there.0, each-bounded viewport above others there.1))

-- each ancestor of a node that has a space shows what is in it
pub shown-where_space : (n : Standing) → has_space n ≡ true → list_all shows n.above ≡ true
shown-where_space n has = (both _ _ has).1

-- an ancestor that shows what is in it has a space
pub space-where_shown : (n : Label) (above : List Label) → list_all shows (n ∷ above) ≡ true → has_space (record { label = n; above = above }) ≡ true
space-where_shown n above shown =
    let here = both _ _ shown in
    ap (λ b. b && list_all shows above) (both _ _ here.0).0 ∙ here.1

module _ (page : Contents) (valid : IsValid page) (bounded : IsTrue (is_bounded page)) where
  pub bounded-placed : (id : ℕ) (p : Placed) → placed_of page id ≡ Some p → IsBoundedBelow page.viewport p.above p.label
  bounded-placed id p found = (each-placed (IsBoundedBelow page.viewport) page.tree [] id p (each-bounded page.viewport [] page.tree bounded) found).0
