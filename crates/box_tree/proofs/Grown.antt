-- The nodes of a page make its tree again, so a page is known by what each id is looked up as.
use Rattle.std.proofs.Common.{◌≡◌, ◌≢◌, ℕ, zero, suc, ◌<◌, ◌≤◌, List, [], ◌∷◌, Option, Some, refl, ap, ◌∙◌, arith}
use Rattle.std.specs.Option.{option_map}
use Rattle.std.proofs.lemmas.Bool.Decides.{nat_tests}
use Rattle.box_tree.specs.declared.node.Node.{Node}
use Rattle.box_tree.specs.Contents.{Contents, node_at, node_of}
use Rattle.box_tree.specs.Forest.{Label, Forest, End, Grow, roots_of, height_of, occurrences}
use Rattle.box_tree.specs.Kept.{grown}
use Rattle.box_tree.proofs.ForestLemmas.{node_in, placed_in-head, placed_in-below, placed_in-others}

-- each node of the trees is looked up as what stands in its place
abbrev pub IsLookedUp : (ℕ → Option Node) → List Label → Forest → Type 0
IsLookedUp look above End = Unit {0}
IsLookedUp look above (Grow n below others) =
    (look n.id ≡ Some (node_at (record { label = n; above = above; below = below })))
    × (IsLookedUp look (n ∷ above) below × IsLookedUp look above others)

-- with levels enough, the nodes make the trees that they are looked up in
pub grown-looked_up : (f : Forest) (above : List Label) (levels : ℕ) (look : ℕ → Option Node) → height_of f ≤ levels → IsLookedUp look above f → grown levels look (roots_of f) ≡ f
unfolding grown
grown-looked_up End above zero look enough known = refl
grown-looked_up End above (suc levels) look enough known = refl
grown-looked_up (Grow n below others) above zero look enough known = absurd (omega arith)
grown-looked_up (Grow n below others) above (suc levels) look enough known =
    rw (known.0, grown-looked_up below (n ∷ above) levels look (omega arith) known.1.0, grown-looked_up others above (suc levels) look (omega arith) known.1.1) refl

-- trees whose ids stand in them once are looked up node by node
pub looked_up-within : (f : Forest) (above : List Label) (look : ℕ → Option Node) → ((id : ℕ) → occurrences f id ≤ 1) → ((id : ℕ) → 0 < occurrences f id → look id ≡ node_in above f id) → IsLookedUp look above f
looked_up-within End above look once known = tt
looked_up-within (Grow n below others) above look once known = (
  known n.id (grind (arith, nat_tests)) ∙ ap (option_map node_at) (placed_in-head n below others above),
  (
    looked_up-within below (n ∷ above) look (λ id. grind (arith, once id)) (λ id some. known id (grind arith) ∙ ap (option_map node_at) (placed_in-below n below others above id (apart-below id some) some)),
    looked_up-within others above look (λ id. grind (arith, once id)) (λ id some. known id (grind arith) ∙ ap (option_map node_at) (placed_in-others n below others above id (apart-others id some) (omega (arith, once id)))),
  ),
)
  where
    apart-below : (id : ℕ) → 0 < occurrences below id → n.id ≢ id
    apart-below id some = grind (arith, nat_tests, once id)

    apart-others : (id : ℕ) → 0 < occurrences others id → n.id ≢ id
    apart-others id some = grind (arith, nat_tests, once id)

-- a page that the nodes are looked up in is the one that they make
pub grown-kept : (look : ℕ → Option Node) (page : Contents) (levels : ℕ) → height_of page.tree ≤ levels → ((id : ℕ) → occurrences page.tree id ≤ 1) → ((id : ℕ) → look id ≡ node_of page id) → grown levels look (roots_of page.tree) ≡ page.tree
grown-kept look page levels enough once known = grown-looked_up page.tree [] levels look enough (looked_up-within page.tree [] look once (λ id some. known id))
