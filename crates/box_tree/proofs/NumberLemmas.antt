-- Where numbers of items stand: in the lists of nodes, or among the free ones.
use Rattle.std.proofs.Common.{◌≡◌, ◌≢◌, ◌⊎◌, ℕ, zero, suc, ◌+◌, ◌-◌, ◌<◌, ◌≤◌, ◌==◌, List, [], ◌∷◌, ◌++◌, length, take, drop, set, get_or, Some, true, if◌then◌else◌, refl, sym, ap, ◌∙◌, subst, inl, inr, arith, length-append}
use Rattle.std.specs.Prelude.{nat_lt, slice_get, sum_by, Vec, vec_len, vec_capacity}
use Rattle.std.specs.declared.alloc.Global.{Global}
use Rattle.smallvec.specs.SmallVec.{SmallVec}
use Rattle.std.proofs.lemmas.Bool.{cases_eq}
use Rattle.std.proofs.lemmas.Bool.Decides.{nat_tests}
use Rattle.std.proofs.lemmas.List.{length-set, length-drop, take-append-drop, take-append-le, take_all, get_or-set_same, get_or_push, get_or_append_left}
use Rattle.std.proofs.lemmas.List.Sums.{sum_by-cons, sum_by-set}
use Rattle.box_tree.specs.declared.item.Item.{Item}
use Rattle.box_tree.specs.declared.items.Earlier.{Earlier}
use Rattle.box_tree.specs.declared.kind.Kind.{Kind}
use Rattle.box_tree.specs.Numbers.{ItemsState, numbers_of}
use Rattle.box_tree.specs.Planned.{times_in}
use Rattle.box_tree.specs.Renumbered.{item_at, Gives, once_below, IsFilled, IsGrown, with_fewer, with_again, CanHaveAgain}
use Rattle.box_tree.specs.Sound.{AreSound}
use Rattle.box_tree.proofs.CountLemmas.{times_in-append}

module _ {X : Type 0} where
  pub read-set_same : (xs : List X) (i : ℕ) (y : X) → i < length xs → slice_get (set xs i y) i ≡ Some y
  read-set_same [] i y lt = absurd (omega arith)
  read-set_same (x ∷ xs) zero y lt = refl
  read-set_same (x ∷ xs) (suc i) y lt = read-set_same xs i y (omega arith)

  pub read-set_other : (xs : List X) (i k : ℕ) (y : X) → k ≢ i → slice_get (set xs i y) k ≡ slice_get xs k
  read-set_other [] i k y differs = refl
  read-set_other (x ∷ xs) zero zero y differs = absurd (differs refl)
  read-set_other (x ∷ xs) zero (suc k) y differs = refl
  read-set_other (x ∷ xs) (suc i) zero y differs = refl
  read-set_other (x ∷ xs) (suc i) (suc k) y differs = read-set_other xs i k y (λ same. differs (ap suc same))

  pub read-left : (xs ys : List X) (k : ℕ) → k < length xs → slice_get (xs ++ ys) k ≡ slice_get xs k
  read-left [] ys k lt = absurd (omega arith)
  read-left (x ∷ xs) ys zero lt = refl
  read-left (x ∷ xs) ys (suc k) lt = read-left xs ys k (omega arith)

  pub read-end : (xs : List X) (y : X) → slice_get (xs ++ y ∷ []) (length xs) ≡ Some y
  read-end [] y = refl
  read-end (x ∷ xs) y = read-end xs y

  pub length-push : (xs : List X) (y : X) → length (xs ++ y ∷ []) ≡ length xs + 1
  length-push [] y = refl
  length-push (x ∷ xs) y = omega (arith, length-push xs y)

  -- what is left of a list once its end is cut off
  pub cut-end : (xs ys zs : List X) (n : ℕ) → zs ≡ xs ++ ys → length xs ≡ n → take n zs ≡ xs
  cut-end xs ys zs n is len = ap (take n) is ∙ take-append-le n xs ys (omega (arith, len)) ∙ take_all n xs (omega (arith, len))

-- a list is its front and the rest
pub times-split : (k n : ℕ) (xs : List ℕ) → times_in k (take n xs) + times_in k (drop n xs) ≡ times_in k xs
times-split k n xs = sym (times_in-append k (take n xs) (drop n xs)) ∙ ap (times_in k) (take-append-drop n xs)

-- a number stands where it is read
pub times-at : (xs : List ℕ) (place : ℕ) → place < length xs → 0 < times_in (get_or xs place 0) xs
times-at [] place lt = absurd (omega arith)
times-at (x ∷ xs) zero lt = let here : (x == x) ≡ true = grind (arith, nat_tests) in grind (arith, nat_tests)
times-at (x ∷ xs) (suc place) lt = omega (arith, times-at xs place (omega arith))

pub times-in_lists : (k x : ℕ) (lists : List (List ℕ)) → times_in k (get_or lists x []) ≤ sum_by (λ list. times_in k list) lists
times-in_lists k x [] = omega arith
times-in_lists k zero (list ∷ lists) = omega (arith, sum_by-cons (λ (l : List ℕ). times_in k l) list lists)
times-in_lists k (suc x) (list ∷ lists) = omega (arith, sum_by-cons (λ (l : List ℕ). times_in k l) list lists, times-in_lists k x lists)

-- 1 for a number below another one, and for one that is another one, and else 0
abbrev below : ℕ → ℕ → ℕ
below k n = if nat_lt k n then 1 else 0

abbrev is_same : ℕ → ℕ → ℕ
is_same n k = if n == k then 1 else 0

pub below-once : (k n : ℕ) → 0 < below k n → k < n
below-once k n some = grind (arith, nat_tests)

once-most : (k n : ℕ) → below k n ≤ 1
once-most k n = grind (arith, nat_tests)

same-self : (n : ℕ) → is_same n n ≡ 1
same-self n = grind (arith, nat_tests)

-- the last number of a list stands in it
pub times-last : (xs front : List ℕ) (k : ℕ) → xs ≡ front ++ k ∷ [] → 0 < times_in k xs
times-last xs front k is = omega (arith, ap (times_in k) is, times_in-append k front (k ∷ []), same-self k)

-- one number more was given
once-more : (k n : ℕ) → below k (n + 1) ≡ is_same n k + below k n
once-more k n = grind (arith, nat_tests)

module _ (s : ItemsState) (sound : AreSound s) where
  -- a number of a node's list is not free, and was given
  pub not_free : (x place : ℕ) → place < length (numbers_of s x) → times_in (get_or (numbers_of s x) place 0) s.free ≡ 0
  not_free x place lt =
      let k = get_or (numbers_of s x) place 0 in
      omega (arith, times-at (numbers_of s x) place lt, times-in_lists k x s.lists, sound.each_once k, once-most k (length s.given))

  pub was_given : (x place : ℕ) → place < length (numbers_of s x) → get_or (numbers_of s x) place 0 < length s.given
  was_given x place lt =
      let k = get_or (numbers_of s x) place 0 in
      below-once k (length s.given) (omega (arith, times-at (numbers_of s x) place lt, times-in_lists k x s.lists, sound.each_once k))

  -- a node keeps a front of its list
  pub sound-fewer : (id : ℕ) (list : List ℕ) → id < length s.lists → length list ≤ length (numbers_of s id) → take (length list) (numbers_of s id) ≡ list → AreSound (with_fewer id list s)
  sound-fewer id list placed fewer front = record {
    each_once = λ k.
        omega (arith, times_in-append k s.free (drop (length list) had), times-split k (length list) had, ap (times_in k) front, sum_by-set (λ (l : List ℕ). times_in k l) s.lists id list [] placed, sound.each_once k);
    count = omega (arith, length-append s.free (drop (length list) had), length-drop (length list) had, sum_by-set (λ (l : List ℕ). length l) s.lists id list [] placed, sound.count);
    most = sound.most;
  }
    where
      had : List ℕ
      had = numbers_of s id

  -- a node has a list again
  pub sound-again : (e : Earlier) → length (numbers_of s e.id) ≤ length e.list.items → CanHaveAgain e s → AreSound (with_again e.id e.list.items s)
  sound-again e more can = record {
    each_once = λ k.
        omega (arith, ap (times_in k) kept_is, ap (times_in k) free_is, times_in-append k kept (drop (length had) list), times-split k (length had) list, ap (times_in k) (can.more more), sum_by-set (λ (l : List ℕ). times_in k l) s.lists e.id list [] can.placed, sound.each_once k);
    count = omega (arith, ap (λ (xs : List ℕ). length xs) kept_is, ap (λ (xs : List ℕ). length xs) free_is, length-append kept (drop (length had) list), length-drop (length had) list, sum_by-set (λ (l : List ℕ). length l) s.lists e.id list [] can.placed, sound.count, more);
    most = sound.most;
  }
    where
      had : List ℕ
      had = numbers_of s e.id

      list : List ℕ
      list = e.list.items

      kept : List ℕ
      kept = (can.rest more).0

      free_is : s.free ≡ kept ++ drop (length had) list
      free_is = (can.rest more).1

      kept_is : take (length s.free - (length list - length had)) s.free ≡ kept
      kept_is = cut-end kept (drop (length had) list) s.free (length s.free - (length list - length had)) free_is
          (omega (arith, ap (λ (xs : List ℕ). length xs) free_is, length-append kept (drop (length had) list), length-drop (length had) list, more))

-- numbers are given to items of a node, one after another
module _ (id : ℕ) (kind : Kind) (list : List ℕ) (given : List Item) (free : List ℕ) where
  pub filled-none : IsFilled id kind list given free list given free
  filled-none = record {
    front = take_all (length list) list (omega arith);
    longer = omega arith;
    times = λ k. omega arith;
    counts = omega arith;
    grows = omega arith;
    most = omega arith;
    full = inl refl;
    freed = λ k. omega arith;
    items = λ place from to. absurd (omega (arith, from, to));
    others = λ k apart within. refl;
    fresh = λ place from to. absurd (omega (arith, from, to));
  }

  module _ (list' : List ℕ) (given' : List Item) (free' : List ℕ) (filled : IsFilled id kind list given free list' given' free') (once : (k : ℕ) → times_in k list + times_in k free ≤ once_below k given) where
    -- what stands in the list or is free was given, and stands there once
    pub once-filled : (k : ℕ) → times_in k list' + times_in k free' ≤ once_below k given'
    once-filled k = omega (arith, once k, filled.times k)

    pub within-filled : (k : ℕ) → 0 < times_in k free' → k < length given'
    within-filled k some = below-once k (length given') (omega (arith, some, once-filled k))

    -- a place is before the new one or it
    at_place : (place : ℕ) (number : ℕ) → place < length (list' ++ number ∷ []) → (place < length list') ⊎ (place ≡ length list')
    at_place place number lt = elim (cases_eq place (length list')) [
      | inl same ↦ inr same
      | inr other ↦ inl (omega (arith, length-push list' number, lt, other))
    ]

    module _ (number : ℕ) where
      front-pushed : take (length list) (list' ++ number ∷ []) ≡ list
      front-pushed = take-append-le (length list) list' (number ∷ []) filled.longer ∙ filled.front

      longer-pushed : length list ≤ length (list' ++ number ∷ [])
      longer-pushed = omega (arith, length-push list' number, filled.longer)

      times-pushed : (k : ℕ) → times_in k (list' ++ number ∷ []) ≡ times_in k list' + is_same number k
      times-pushed k = omega (arith, times_in-append k list' (number ∷ []))

      old-place : (place : ℕ) → place < length list' → get_or (list' ++ number ∷ []) place 0 ≡ get_or list' place 0
      old-place place lt = get_or_append_left list' (number ∷ []) 0 place lt

      new-place : (place : ℕ) → place ≡ length list' → get_or (list' ++ number ∷ []) place 0 ≡ number
      new-place place is = get_or_push list' number 0 place (sym is)

      pub filled-again : (free'' : List ℕ) → free' ≡ free'' ++ number ∷ [] → IsFilled id kind list given free (list' ++ number ∷ []) (set given' number (item_at id kind (length list'))) free''
      filled-again free'' free_is = record {
        front = front-pushed;
        longer = longer-pushed;
        times = λ k. omega (arith, times-pushed k, free_times k, filled.times k, ap (below k) same_length);
        counts = omega (arith, length-push list' number, ap (λ (xs : List ℕ). length xs) free_is, length-push free'' number, same_length, filled.counts);
        grows = omega (arith, same_length, filled.grows);
        most = omega (arith, same_length, filled.most, length-push list' number);
        full = elim filled.full [
          | inl same ↦ inl (same_length ∙ same)
          | inr none ↦ absurd (omega (arith, ap (λ (xs : List ℕ). length xs) none, ap (λ (xs : List ℕ). length xs) free_is, length-push free'' number))
        ];
        freed = λ k. omega (arith, free_times k, filled.freed k);
        items = λ place from to. elim (at_place place number to) [
          | inl before ↦
              ap (slice_get (set given' number item)) (old-place place before) ∙ read-set_other given' number (get_or list' place 0) item (other place before) ∙ filled.items place from before
          | inr last ↦
              ap (slice_get (set given' number item)) (new-place place last) ∙ read-set_same given' number item was_given' ∙ ap (λ (p : ℕ). Some (item_at id kind p)) (sym last)
        ];
        others = λ k apart was.
            let differs : k ≢ number = (λ same. absurd (omega (arith, ap (λ (n : ℕ). times_in n free') same, was_free, filled.freed k, apart))) in
            read-set_other given' number k item differs ∙ filled.others k apart was;
        fresh = λ place from to. elim (at_place place number to) [
          | inl before ↦ subst (λ (k : ℕ). (0 < times_in k free) ⊎ (length given ≤ k)) (sym (old-place place before)) (filled.fresh place from before)
          | inr last ↦ subst (λ (k : ℕ). (0 < times_in k free) ⊎ (length given ≤ k)) (sym (new-place place last)) (inl (omega (arith, was_free, filled.freed number)))
        ];
      }
        where
          item : Item
          item = item_at id kind (length list')

          same_length : length (set given' number item) ≡ length given'
          same_length = length-set given' number item

          free_times : (k : ℕ) → times_in k free' ≡ times_in k free'' + is_same number k
          free_times k = omega (arith, ap (times_in k) free_is, times_in-append k free'' (number ∷ []))

          was_free : 0 < times_in number free'
          was_free = omega (arith, free_times number, same-self number)

          was_given' : number < length given'
          was_given' = within-filled number was_free

          -- what stands in the list is not free
          other : (place : ℕ) → place < length list' → get_or list' place 0 ≢ number
          other place before same = absurd (omega (arith, times-at list' place before, ap (λ (n : ℕ). times_in n list') same, was_free, once-filled number, once-most number (length given')))

    pub filled-new : free' ≡ [] → IsFilled id kind list given free (list' ++ length given' ∷ []) (given' ++ item_at id kind (length list') ∷ []) []
    filled-new none = record {
      front = front-pushed (length given');
      longer = longer-pushed (length given');
      times = λ k. omega (arith, times-pushed (length given') k, ap (times_in k) none, filled.times k, ap (below k) longer_given, once-more k (length given'));
      counts = omega (arith, length-push list' (length given'), ap (λ (xs : List ℕ). length xs) none, longer_given, filled.counts);
      grows = omega (arith, longer_given, filled.grows);
      most = omega (arith, longer_given, filled.most, length-push list' (length given'));
      full = inr refl;
      freed = λ k. omega arith;
      items = λ place from to. elim (at_place place (length given') to) [
        | inl before ↦
            ap (slice_get (given' ++ item ∷ [])) (old-place (length given') place before) ∙ read-left given' (item ∷ []) (get_or list' place 0) (given_before place before) ∙ filled.items place from before
        | inr last ↦
            ap (slice_get (given' ++ item ∷ [])) (new-place (length given') place last) ∙ read-end given' item ∙ ap (λ (p : ℕ). Some (item_at id kind p)) (sym last)
      ];
      others = λ k apart was. read-left given' (item ∷ []) k (omega (arith, was, filled.grows)) ∙ filled.others k apart was;
      fresh = λ place from to. elim (at_place place (length given') to) [
        | inl before ↦ subst (λ (k : ℕ). (0 < times_in k free) ⊎ (length given ≤ k)) (sym (old-place (length given') place before)) (filled.fresh place from before)
        | inr last ↦ subst (λ (k : ℕ). (0 < times_in k free) ⊎ (length given ≤ k)) (sym (new-place (length given') place last)) (inr filled.grows)
      ];
    }
      where
        item : Item
        item = item_at id kind (length list')

        longer_given : length (given' ++ item ∷ []) ≡ length given' + 1
        longer_given = length-push given' item

        -- what stands in the list was given
        given_before : (place : ℕ) → place < length list' → get_or list' place 0 < length given'
        given_before place before = let k = get_or list' place 0 in below-once k (length given') (omega (arith, times-at list' place before, once-filled k))

    pub filled-more : (number place : ℕ) (given'' : List Item) (free'' : List ℕ) → length list' ≡ place → Gives (item_at id kind place) given' free' given'' free'' number → IsFilled id kind list given free (list' ++ number ∷ []) given'' free''
    filled-more number place given'' free'' at (inl again) =
        subst (λ (g : List Item). IsFilled id kind list given free (list' ++ number ∷ []) g free'') (ap (λ (p : ℕ). set given' number (item_at id kind p)) at ∙ sym again.given_is) (filled-again number free'' again.free_is)
    filled-more number place given'' free'' at (inr new) =
        subst (λ (g : List Item). IsFilled id kind list given free (list' ++ number ∷ []) g free'') (ap (λ (p : ℕ). given' ++ item_at id kind p ∷ []) at ∙ sym new.given_is)
        (subst (λ (f : List ℕ). IsFilled id kind list given free (list' ++ number ∷ []) (given' ++ item_at id kind (length list') ∷ []) f) (sym new.free_is)
        (subst (λ (n : ℕ). IsFilled id kind list given free (list' ++ n ∷ []) (given' ++ item_at id kind (length list') ∷ []) []) (sym new.number_is) (filled-new new.free_none)))

-- a node has the numbers that were given to its items
module _ (s : ItemsState) (sound : AreSound s) (id : ℕ) (kind : Kind) (list' : List ℕ) (given' : List Item) (free' : List ℕ) (placed : id < length s.lists) (filled : IsFilled id kind (numbers_of s id) s.given s.free list' given' free') where
  abbrev pub grown_to : ItemsState
  grown_to = record { given = given'; lists = set s.lists id list'; free = free' }

  numbers-grown : numbers_of grown_to id ≡ list'
  numbers-grown = get_or-set_same s.lists id list' [] placed

  pub is_grown : (count : ℕ) → length list' ≡ count → IsGrown id kind count s grown_to
  is_grown count len = record {
    lists = ap (set s.lists id) (sym numbers-grown);
    front = ap (take (length (numbers_of s id))) numbers-grown ∙ filled.front;
    longer = omega (arith, filled.longer, len);
    length_is = ap (λ (l : List ℕ). length l) numbers-grown ∙ len;
    items = λ place from to. ap (λ (l : List ℕ). slice_get given' (get_or l place 0)) numbers-grown ∙ filled.items place from (omega (arith, to, len));
    others = λ x place lt. filled.others (get_or (numbers_of s x) place 0) (not_free s sound x place lt) (was_given s sound x place lt);
    fresh = λ place x other from to lt same.
        let k = get_or list' place 0 in
        let same' : get_or (numbers_of s x) other 0 ≡ k = same ∙ ap (λ (l : List ℕ). get_or l place 0) numbers-grown in
        elim (filled.fresh place from (omega (arith, to, len))) [
          | inl was_free ↦ absurd (omega (arith, was_free, ap (λ (n : ℕ). times_in n s.free) same', not_free s sound x other lt))
          | inr new ↦ absurd (omega (arith, new, same', was_given s sound x other lt))
        ];
  }

-- a list is filled up to a place
pub record FillsUpTo (id : ℕ) (kind : Kind) (list : SmallVec ℕ) (given : Vec Item Global) (free : Vec ℕ Global) (list' : SmallVec ℕ) (given' : Vec Item Global) (free' : Vec ℕ Global) (place count : ℕ) : Type 0 where
  pub filled : IsFilled id kind list.items given.items free.items list'.items given'.items free'.items
  pub length_is : length list'.items ≡ place
  pub within : place ≤ count
  pub list_room : list'.capacity ≡ list.capacity
  pub given_room : vec_capacity given' ≡ vec_capacity given
  pub free_room : vec_capacity free' ≡ vec_capacity free

pub fills_none : (id : ℕ) (kind : Kind) (list : SmallVec ℕ) (given : Vec Item Global) (free : Vec ℕ Global) (place count : ℕ) → length list.items ≡ place → place ≤ count → FillsUpTo id kind list given free list given free place count
fills_none id kind list given free place count is within = record {
  filled = filled-none id kind list.items given.items free.items;
  length_is = is;
  within = within;
  list_room = refl;
  given_room = refl;
  free_room = refl;
}

module _ (id : ℕ) (kind : Kind) (list : SmallVec ℕ) (given : Vec Item Global) (free : Vec ℕ Global) (list' : SmallVec ℕ) (given' : Vec Item Global) (free' : Vec ℕ Global) (place count : ℕ) (once : (k : ℕ) → times_in k list.items + times_in k free.items ≤ once_below k given.items) (so : FillsUpTo id kind list given free list' given' free' place count) where
  pub fills_room : (limit : ℕ) → vec_len given + count ≤ length list.items + limit → place < count → vec_len given' < limit
  fills_room limit fits lt = omega (arith, fits, lt, so.filled.most, so.length_is, so.filled.longer, len_is given, len_is given')
    where
      len_is : (v : Vec Item Global) → vec_len v ≡ length v.items
      len_is v = v.ok.0

  pub fills_within : (k : ℕ) → 0 < times_in k free'.items → k < vec_len given'
  fills_within k some = omega (arith, within-filled id kind list.items given.items free.items list'.items given'.items free'.items so.filled once k some, given'.ok.0)

  pub fills_more : (number : ℕ) (list'' : SmallVec ℕ) (given'' : Vec Item Global) (free'' : Vec ℕ Global) → place < count → Gives (item_at id kind place) given'.items free'.items given''.items free''.items number →
      list''.items ≡ list'.items ++ number ∷ [] → list''.capacity ≡ list'.capacity → vec_capacity given'' ≡ vec_capacity given' → vec_capacity free'' ≡ vec_capacity free' → FillsUpTo id kind list given free list'' given'' free'' (place + 1) count
  fills_more number list'' given'' free'' lt gives items list_room given_room free_room = record {
    filled = subst (λ (l : List ℕ). IsFilled id kind list.items given.items free.items l given''.items free''.items) (sym items) (filled-more id kind list.items given.items free.items list'.items given'.items free'.items so.filled once number place given''.items free''.items so.length_is gives);
    length_is = omega (arith, ap (λ (l : List ℕ). length l) items, length-push list'.items number, so.length_is);
    within = omega (arith, lt);
    list_room = list_room ∙ so.list_room;
    given_room = given_room ∙ so.given_room;
    free_room = free_room ∙ so.free_room;
  }
