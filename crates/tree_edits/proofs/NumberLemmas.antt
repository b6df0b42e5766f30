-- Numbers of items before and after an edit, where a test that changes no number came before it.
use Rattle.std.proofs.Common.{◌≡◌, ℕ, List, map, get_or, ap, inl, inr, refl, ◌∙◌, ◌∷◌, []}
use Rattle.box_tree.specs.Contents.{Contents}
use Rattle.box_tree.specs.Numbers.{ItemsState, KeepsNumbers, GivesFreshNumbers, HasSameItems, place_of}
use Rattle.paint_order.specs.declared.entry.Entry.{Entry}
use Rattle.paint_order.specs.declared.entry.Entry.TheVariants as entry
use Rattle.stacking.specs.Lists.{numbered, kept_list}
use Rattle.stacking.specs.OnPage.{of_node}
use Rattle.stacking.specs.Painting.{ContextEntry, OneItem, SubContext, entries}

module _ (old tested new : ItemsState) (same : HasSameItems old tested) where
  pub kept-after : (page : Contents) → KeepsNumbers tested new page → KeepsNumbers old new page
  kept-after page kept = λ number item names is. kept number item ((same.names number item).1 names) is

  pub fresh-after : GivesFreshNumbers tested new → GivesFreshNumbers old new
  fresh-after fresh = λ number item names. elim (fresh number item names) [
    | inl was ↦ inl ((same.names number item).0 was)
    | inr none ↦ inr (λ is. none (is.0, (same.names number is.0).1 is.1))
  ]

-- the same items still have the same numbers
pub same-both : (old tested new : ItemsState) → HasSameItems old tested → HasSameItems tested new → HasSameItems old new
same-both old tested new first second = record {
  lists = λ id. second.lists id ∙ first.lists id;
  names = λ number item. (λ is. (first.names number item).0 ((second.names number item).0 is), λ is. (second.names number item).1 ((first.names number item).1 is));
}

-- lists are kept alike
pub same-list : (old new : ItemsState) (page : Contents) (id : ℕ) → HasSameItems old new → kept_list new page id ≡ kept_list old page id
same-list old new page id same = each (of_node entries page id)
  where
    one : (e : ContextEntry) → numbered new e ≡ numbered old e
    one (OneItem item) = ap (λ (numbers : List ℕ). entry.Item (get_or numbers (place_of item.part) 0)) (same.lists item.node)
    one (SubContext other) = refl

    each : (es : List ContextEntry) → map (numbered new) es ≡ map (numbered old) es
    each [] = refl
    each (e ∷ es) = ap (λ (x : Entry). x ∷ map (numbered new) es) (one e) ∙ ap (λ (xs : List Entry). numbered old e ∷ xs) (each es)
