-- The numbers of items as they are kept, after each step on them.
use Rattle.std.proofs.Common.{◌≡◌, ℕ, ◌+◌, ◌-◌, ◌≤◌, List, [], ◌++◌, length, take, drop, set, get_or, ap, ◌∙◌, arith}
use Rattle.smallvec.specs.SmallVec.{SmallVec}
use Rattle.box_tree.specs.declared.item.Item.{Item}
use Rattle.box_tree.specs.Numbers.{ItemsState, items_state, numbers_of}
use Rattle.box_tree.specs.Planned.{times_in}
use Rattle.box_tree.specs.Renumbered.{once_below, with_fewer, with_again}
use Rattle.box_tree.specs.Sound.{AreSound}
use Rattle.box_tree.proofs.FollowLemmas.{lists_in}
use Rattle.box_tree.proofs.NumberLemmas.{times-in_lists}

pub state_fewer : (given : List Item) (free free' : List ℕ) (lists lists' : List (SmallVec ℕ)) (id : ℕ) (list had : List ℕ) → lists_in lists' ≡ set (lists_in lists) id list → had ≡ get_or (lists_in lists) id [] → free' ≡ free ++ drop (length list) had → items_state given free' lists' ≡ with_fewer id list (items_state given free lists)
state_fewer given free free' lists lists' id list had lists_are had_is free_is =
    ap (λ (ls : List (List ℕ)). let state : ItemsState = record { given = given; lists = ls; free = free' } in state) lists_are
    ∙ ap (λ (f : List ℕ). let state : ItemsState = record { given = given; lists = set (lists_in lists) id list; free = f } in state) (free_is ∙ ap (λ (l : List ℕ). free ++ drop (length list) l) had_is)

pub state_again : (given : List Item) (free free' : List ℕ) (lists lists' : List (SmallVec ℕ)) (id count : ℕ) (list : List ℕ) → lists_in lists' ≡ set (lists_in lists) id list → count ≡ length free - (length list - length (get_or (lists_in lists) id [])) → free' ≡ take count free → items_state given free' lists' ≡ with_again id list (items_state given free lists)
state_again given free free' lists lists' id count list lists_are count_is free_is =
    ap (λ (ls : List (List ℕ)). let state : ItemsState = record { given = given; lists = ls; free = free' } in state) lists_are
    ∙ ap (λ (f : List ℕ). let state : ItemsState = record { given = given; lists = set (lists_in lists) id list; free = f } in state) (free_is ∙ ap (λ (n : ℕ). take n free) count_is)

pub state_lists : (given : List Item) (free : List ℕ) (lists : List (SmallVec ℕ)) (lists' : List (List ℕ)) → lists_in lists ≡ lists' → items_state given free lists ≡ (let state : ItemsState = record { given = given; lists = lists'; free = free } in state)
state_lists given free lists lists' is = ap (λ (ls : List (List ℕ)). let state : ItemsState = record { given = given; lists = ls; free = free } in state) is

-- what stands in a list or is free was given
pub once_in : (s : ItemsState) (id : ℕ) (list : List ℕ) → AreSound s → list ≡ numbers_of s id → (k : ℕ) → times_in k list + times_in k s.free ≤ once_below k s.given
once_in s id list sound is k = omega (arith, ap (times_in k) is, times-in_lists k id s.lists, sound.each_once k)
