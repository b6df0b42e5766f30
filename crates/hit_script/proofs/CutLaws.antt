-- How a script is cut, by its bytes.
use Rattle.std.proofs.Common.{◌≡◌, ◌≢◌, ◌≤◌, ◌<◌, ◌+◌, ◌-◌, ◌^◌, ℕ, zero, suc, true, false, eqb, min, List, [], ◌∷◌, ◌++◌, length, take, drop, slice_index, refl, sym, ap, ◌∙◌, inl, inr, append_assoc, add-one, length-append, length-take, arith}
use Rattle.std.specs.Prelude.{nat_le}
use Rattle.std.proofs.lemmas.Bool.{cases_Bool, both_ways, eqb-true}
use Rattle.std.proofs.lemmas.Bool.Decides.{nat_tests}
use Rattle.std.proofs.lemmas.List.{append-nil, length-take-le, take_all, take_min, take_rest, nil_from_length}
use Rattle.std.proofs.Math.Seq.{take-length, take-add, take-append-add}
use Rattle.script_lines.specs.Command.{is_long}
use Rattle.hit_script.specs.Cutting.{Counted, Cutting, counted, counted_on, cut_by_newline, cutting}
use Rattle.hit_script.specs.declared.cutter.Cut.{Cut}
use Rattle.hit_script.specs.declared.cutter.Cut.TheVariants.{More, Whole, Long}
use Rattle.hit_script.specs.Lines.{HasBegun, lines, has_newline, whole_lines, unfinished}
use Rattle.hit_script.proofs.LineLaws.{neither, lines_next, lines_last, whole_lines_next, whole_lines_none, unfinished_next, unfinished_none, nothing_whole, nothing_unfinished, no_lines}

-- What is counted on.

pub same_counted : {xs ys : List ℕ} {m n : ℕ} → xs ≡ ys → m ≡ n → (let a : Counted = record { front = xs; count = m } in a) ≡ record { front = ys; count = n }
same_counted {xs} {ys} {m} {n} fronts counts = λ i. record { front = fronts i; count = counts i }

-- a front of a front with more behind it
take_on : (n : ℕ) (xs ys : List ℕ) → take n (take n xs ++ ys) ≡ take n (xs ++ ys)
take_on zero xs ys = refl
take_on (suc n) [] ys = refl
take_on (suc n) (x ∷ xs) ys = ap (λ (zs : List ℕ). x ∷ zs) (take_on n xs ys)

-- what a cutter keeps of more bytes, where it has room for so many
pub kept_more : (room k : ℕ) (xs ys : List ℕ) → length xs ≤ room → k ≡ min (length ys) (room - length xs) → xs ++ take k ys ≡ take room (xs ++ ys)
kept_more room k xs ys within is =
    let m = room - length xs in
    let split : room ≡ length xs + m = omega arith in
    let as_far : take k ys ≡ take m ys = let swapped : k ≡ min m (length ys) = omega arith in ap (λ (n : ℕ). take n ys) swapped ∙ take_min m ys in
    ap (λ (zs : List ℕ). xs ++ zs) as_far ∙ sym (take-append-add xs ys m) ∙ ap (λ (n : ℕ). take n (xs ++ ys)) (sym split)

pub counted_on-both : (begun : Counted) (xs ys : List ℕ) → counted_on (counted_on begun xs) ys ≡ counted_on begun (xs ++ ys)
unfolding counted_on
counted_on-both begun xs ys =
    same_counted (take_on (2 ^ 20) (begun.front ++ xs) ys ∙ ap (take (2 ^ 20)) (append_assoc begun.front xs ys)) (omega (arith, length-append xs ys))

pub counted_on-counted : (xs ys : List ℕ) → counted_on (counted xs) ys ≡ counted (xs ++ ys)
unfolding counted_on counted
counted_on-counted xs ys = same_counted (take_on (2 ^ 20) xs ys) (sym (length-append xs ys))

pub counted_on-nothing : (begun : Counted) → length begun.front ≤ 2 ^ 20 → counted_on begun [] ≡ begun
unfolding counted_on
counted_on-nothing begun kept = same_counted (ap (take (2 ^ 20)) (append-nil begun.front) ∙ take_all (2 ^ 20) begun.front kept) (omega arith)

pub kept-counted_on : (begun : Counted) (bytes : List ℕ) → length (counted_on begun bytes).front ≤ 2 ^ 20
unfolding counted_on
kept-counted_on begun bytes = omega (arith, length-take (2 ^ 20) (begun.front ++ bytes))

pub kept-counted : (bytes : List ℕ) → length (counted bytes).front ≤ 2 ^ 20
unfolding counted
kept-counted bytes = omega (arith, length-take (2 ^ 20) bytes)

pub count-counted : (bytes : List ℕ) → (counted bytes).count ≡ length bytes
unfolding counted
count-counted bytes = refl

pub count-counted_on : (begun : Counted) (bytes : List ℕ) → (counted_on begun bytes).count ≡ begun.count + length bytes
unfolding counted_on
count-counted_on begun bytes = refl

-- The bytes of a piece up to its first newline.

same_cutting : {a b : ℕ} {cut later : Cut} {before behind : Counted} → a ≡ b → cut ≡ later → before ≡ behind → (let x : Cutting = record { taken = a; cut = cut; behind = before } in x) ≡ record { taken = b; cut = later; behind = behind }
same_cutting {a} {b} {cut} {later} {before} {behind} counts cuts lines = λ i. record { taken = counts i; cut = cuts i; behind = lines i }

-- a piece without a newline is taken whole
pub cutting-open : (bytes : List ℕ) (begun : Counted) → has_newline bytes ≡ false → length begun.front ≤ 2 ^ 20 → cutting begun bytes ≡ record { taken = length bytes; cut = More; behind = counted_on begun bytes }
unfolding cutting has_newline
cutting-open [] begun none kept = same_cutting refl refl (sym (counted_on-nothing begun kept))
cutting-open (b ∷ bs) begun none kept =
    let parts = neither (eqb b 10) (has_newline bs) none in
    rw (parts.0, cutting-open bs (counted_on begun (b ∷ [])) parts.1 (kept-counted_on begun (b ∷ []))) (same_cutting (add-one (length bs)) refl (counted_on-both begun (b ∷ []) bs))

-- a newline ends the line that is begun
pub cutting-ended : (front rest : List ℕ) (begun : Counted) → has_newline front ≡ false → length begun.front ≤ 2 ^ 20 → cutting begun (front ++ 10 ∷ rest) ≡ record { taken = length front + 1; cut = cut_by_newline (counted_on begun front); behind = counted_on begun front }
unfolding cutting has_newline
cutting-ended [] rest begun none kept =
    let same = sym (counted_on-nothing begun kept) in
    same_cutting refl (ap cut_by_newline same) same
cutting-ended (b ∷ bs) rest begun none kept =
    let parts = neither (eqb b 10) (has_newline bs) none in
    let both = counted_on-both begun (b ∷ []) bs in
    rw (parts.0, cutting-ended bs rest (counted_on begun (b ∷ [])) parts.1 (kept-counted_on begun (b ∷ []))) (same_cutting (ap (λ (n : ℕ). n + 1) (add-one (length bs))) (ap cut_by_newline both) both)

pub cutting-count : (bytes : List ℕ) (begun : Counted) → (cutting begun bytes).behind.count ≤ begun.count + (cutting begun bytes).taken
unfolding cutting counted_on
cutting-count [] begun = omega arith
cutting-count (b ∷ bs) begun =
    elim (cases_Bool (eqb b 10)) [
      | inl newline ↦ rw newline (omega arith)
      | inr other ↦ rw other (omega (arith, cutting-count bs (counted_on begun (b ∷ []))))
    ]

pub cutting-within : (bytes : List ℕ) (begun : Counted) → (cutting begun bytes).taken ≤ length bytes
unfolding cutting
cutting-within [] begun = omega arith
cutting-within (b ∷ bs) begun =
    elim (cases_Bool (eqb b 10)) [
      | inl newline ↦ rw newline (omega arith)
      | inr other ↦ rw other (omega (arith, cutting-within bs (counted_on begun (b ∷ []))))
    ]

pub cutting-some : (bytes : List ℕ) (begun : Counted) → 0 < length bytes → 0 < (cutting begun bytes).taken
unfolding cutting
cutting-some [] begun some = absurd (omega arith)
cutting-some (b ∷ bs) begun some =
    elim (cases_Bool (eqb b 10)) [
      | inl newline ↦ rw newline (omega arith)
      | inr other ↦ rw other (omega arith)
    ]

-- what ends the line is a newline behind what is counted then
pub cutting-over : (bytes : List ℕ) (begun : Counted) → (cutting begun bytes).cut ≢ More → (cutting begun bytes).cut ≡ cut_by_newline (cutting begun bytes).behind
unfolding cutting
cutting-over [] begun over = absurd (over refl)
cutting-over (b ∷ bs) begun over =
    elim (cases_Bool (eqb b 10)) [
      | inl newline ↦ rw newline refl
      | inr other ↦ let later : (cutting (counted_on begun (b ∷ [])) bs).cut ≢ More = rw other at over in rw other (cutting-over bs (counted_on begun (b ∷ [])) later)
    ]

pub newline_ends : (begun : Counted) → cut_by_newline begun ≢ More
newline_ends begun is =
    elim (cases_Bool (nat_le begun.count (2 ^ 20))) [
      | inl short ↦ let same : Whole ≡ More = rw short at is in absurd (cc)
      | inr long ↦ let same : Long ≡ More = rw long at is in absurd (cc)
    ]

-- a line that is whole is its front
pub whole_front : (line : List ℕ) → cut_by_newline (counted line) ≢ Long → (counted line).front ≡ line
unfolding counted
whole_front line short =
    elim (cases_Bool (nat_le (length line) (2 ^ 20))) [
      | inl fits ↦ take_all (2 ^ 20) line (grind (arith, nat_tests))
      | inr over ↦ absurd (short (rw over refl))
    ]

-- and one that is cut as too long is longer than a line may be
pub long_line : (line : List ℕ) → cut_by_newline (counted line) ≡ Long → is_long line ≡ true
unfolding counted
long_line line is =
    elim (cases_Bool (nat_le (length line) (2 ^ 20))) [
      | inl fits ↦ let same : Whole ≡ Long = rw fits at is in absurd (cc)
      | inr over ↦ grind (arith, nat_tests)
    ]

-- Where the first newline of a piece is.

pub no_newline_found : (bytes : List ℕ) → ((k : ℕ) → k < length bytes → ¬ (eqb (slice_index bytes k) 10 ≡ true)) → has_newline bytes ≡ false
unfolding has_newline
no_newline_found [] none = refl
no_newline_found (b ∷ bs) none =
    elim (cases_Bool (eqb b 10)) [
      | inl here ↦ absurd (none 0 (omega arith) here)
      | inr other ↦ rw other (no_newline_found bs (λ k below. none (suc k) (omega arith)))
    ]

-- a piece, by the place of its first newline
pub record IsCutAt (bytes : List ℕ) (k : ℕ) : Type 0 where
  pub open_front : has_newline (take k bytes) ≡ false
  pub is : bytes ≡ take k bytes ++ 10 ∷ drop (suc k) bytes

pub newline_found : (bytes : List ℕ) (k : ℕ) → k < length bytes → ((j : ℕ) → j < k → ¬ (eqb (slice_index bytes j) 10 ≡ true)) → eqb (slice_index bytes k) 10 ≡ true → IsCutAt bytes k
unfolding has_newline
newline_found [] k within before here = absurd (omega arith)
newline_found (b ∷ bs) zero within before here = record { open_front = refl; is = ap (λ (x : ℕ). x ∷ bs) (eqb-true b 10 here) }
newline_found (b ∷ bs) (suc k) within before here =
    let later = newline_found bs k (omega arith) (λ j below. before (suc j) (omega arith)) here in
    elim (cases_Bool (eqb b 10)) [
      | inl sooner ↦ absurd (before 0 (omega arith) sooner)
      | inr other ↦ record { open_front = rw other later.open_front; is = ap (λ (xs : List ℕ). b ∷ xs) later.is }
    ]

pub cutting-found : (bytes : List ℕ) (k : ℕ) (begun : Counted) → IsCutAt bytes k → k < length bytes → length begun.front ≤ 2 ^ 20 → cutting begun bytes ≡ record { taken = k + 1; cut = cut_by_newline (counted_on begun (take k bytes)); behind = counted_on begun (take k bytes) }
cutting-found bytes k begun found within kept =
    let long = length-take-le k bytes (omega arith) in
    ap (cutting begun) found.is ∙ cutting-ended (take k bytes) (drop (suc k) bytes) begun found.open_front kept ∙ same_cutting (ap (λ (n : ℕ). n + 1) long) refl refl

-- what has a newline has a first one
pub first_newline : (bytes : List ℕ) → has_newline bytes ≡ true → (front rest : List ℕ) × (bytes ≡ front ++ 10 ∷ rest) × (has_newline front ≡ false)
unfolding has_newline
first_newline [] some = absurd (both_ways false refl some)
first_newline (b ∷ bs) some =
    elim (cases_Bool (eqb b 10)) [
      | inl here ↦ ([], bs, ap (λ (x : ℕ). x ∷ bs) (eqb-true b 10 here), refl)
      | inr other ↦
          let later = first_newline bs (rw other at some) in
          (b ∷ later.0, later.1, ap (λ (xs : List ℕ). b ∷ xs) later.2, rw other later.3)
    ]

-- A piece behind the line that is begun.

pub open_both : (xs ys : List ℕ) → has_newline xs ≡ false → has_newline ys ≡ false → has_newline (xs ++ ys) ≡ false
unfolding has_newline
open_both [] ys front back = back
open_both (x ∷ xs) ys front back =
    let parts = neither (eqb x 10) (has_newline xs) front in
    rw (parts.0, open_both xs ys parts.1 back) refl

-- the line goes on, and no line is whole
pub record GoesOn (begun bytes : List ℕ) (behind : Counted) : Type 0 where
  pub counts : behind ≡ counted (unfinished (begun ++ bytes))
  pub none_whole : lines (whole_lines (begun ++ bytes)) ≡ []

pub goes_on : (begun piece : List ℕ) → has_newline begun ≡ false → (cutting (counted begun) piece).cut ≡ More → GoesOn begun (take (cutting (counted begun) piece).taken piece) (cutting (counted begun) piece).behind
goes_on begun piece open_line more =
    elim (cases_Bool (has_newline piece)) [
      | inl some ↦
          let (front, rest, is, open_front) = first_newline piece some in
          let cut = cutting-ended front rest (counted begun) open_front (kept-counted begun) in
          absurd (newline_ends (counted_on (counted begun) front) (ap (λ (x : Cutting). x.cut) (sym cut) ∙ ap (λ (p : List ℕ). (cutting (counted begun) p).cut) (sym is) ∙ more))
      | inr none ↦
          let whole = open_both begun piece open_line none in
          rw (cutting-open piece (counted begun) none (kept-counted begun), take-length piece, counted_on-counted begun piece) (record {
            counts = rw (unfinished_none (begun ++ piece) whole) refl;
            none_whole = rw (whole_lines_none (begun ++ piece) whole) no_lines;
          })
    ]

pub goes_on_by : (cutter : Counted) (begun piece : List ℕ) (n : ℕ) (behind : Counted) → HasBegun cutter begun → n ≡ (cutting cutter piece).taken → behind ≡ (cutting cutter piece).behind → (cutting cutter piece).cut ≡ More → GoesOn begun (take n piece) behind
goes_on_by cutter begun piece n behind has taken counts more =
    let same : cutter ≡ counted begun = has.counts in
    rw (taken, counts, same) (goes_on begun piece has.open_line (rw same at more))

-- the line ends, and no byte is behind it
pub record Ended (begun bytes : List ℕ) (cut : Cut) (behind : Counted) : Type 0 where
  pub line : List ℕ
  pub counts : behind ≡ counted line
  pub is_cut : cut ≡ cut_by_newline (counted line)
  pub one_whole : lines (whole_lines (begun ++ bytes)) ≡ line ∷ []
  pub none_begun : unfinished (begun ++ bytes) ≡ []

line_ended : (begun front : List ℕ) → has_newline begun ≡ false → has_newline front ≡ false → Ended begun (front ++ 10 ∷ []) (cut_by_newline (counted (begun ++ front))) (counted (begun ++ front))
line_ended begun front open_line open_front =
    let whole = open_both begun front open_line open_front in
    record {
      line = begun ++ front;
      counts = refl;
      is_cut = refl;
      one_whole = rw (← append_assoc begun front (10 ∷ []), whole_lines_next (begun ++ front) [] whole, nothing_whole, lines_next (begun ++ front) [] whole, no_lines) refl;
      none_begun = rw (← append_assoc begun front (10 ∷ []), unfinished_next (begun ++ front) [] whole) nothing_unfinished;
    }

pub ended : (begun piece : List ℕ) → has_newline begun ≡ false → (cutting (counted begun) piece).cut ≢ More → Ended begun (take (cutting (counted begun) piece).taken piece) (cutting (counted begun) piece).cut (cutting (counted begun) piece).behind
ended begun piece open_line over =
    elim (cases_Bool (has_newline piece)) [
      | inl some ↦
          let (front, rest, is, open_front) = first_newline piece some in
          rw (is, cutting-ended front rest (counted begun) open_front (kept-counted begun), take-append-add front (10 ∷ rest) 1, counted_on-counted begun front) (line_ended begun front open_line open_front)
      | inr none ↦
          absurd (over (ap (λ (x : Cutting). x.cut) (cutting-open piece (counted begun) none (kept-counted begun))))
    ]

pub ended_by : (cutter : Counted) (begun piece : List ℕ) (n : ℕ) (cut : Cut) (behind : Counted) → HasBegun cutter begun → n ≡ (cutting cutter piece).taken → cut ≡ (cutting cutter piece).cut → behind ≡ (cutting cutter piece).behind → cut ≢ More → Ended begun (take n piece) cut behind
ended_by cutter begun piece n cut behind has taken cuts counts over =
    let same : cutter ≡ counted begun = has.counts in
    let over' : (cutting cutter piece).cut ≢ More = λ more. over (cuts ∙ more) in
    rw (taken, cuts, counts, same) (ended begun piece has.open_line (rw same at over'))

-- the last line, which no newline ends
pub no_bytes : (cutter : Counted) (begun : List ℕ) → HasBegun cutter begun → cutter.count ≡ 0 → begun ≡ []
no_bytes cutter begun has none = nil_from_length begun (sym (count-counted begun) ∙ ap (λ (c : Counted). c.count) (sym has.counts) ∙ none)

pub last_line : (cutter : Counted) (begun : List ℕ) → HasBegun cutter begun → cutter.count ≢ 0 → lines begun ≡ begun ∷ []
last_line cutter begun has some =
    let counts : cutter.count ≡ length begun = ap (λ (c : Counted). c.count) has.counts ∙ count-counted begun in
    lines_last begun has.open_line (omega arith)

-- Pieces by their parts.

pub next_part : (begun piece : List ℕ) (at n : ℕ) → begun ++ take (at + n) piece ≡ (begun ++ take at piece) ++ take n (take (length piece - at) (drop at piece))
next_part begun piece at n = rw (take_rest piece at, take-add at n piece) (sym (append_assoc begun (take at piece) (take n (drop at piece))))

pub length-unfinished : (bytes : List ℕ) → length (unfinished bytes) ≤ length bytes
unfolding unfinished
length-unfinished [] = omega arith
length-unfinished (b ∷ bs) =
    elim (cases_Bool (has_newline (b ∷ bs))) [
      | inl some ↦ rw some (omega (arith, length-unfinished bs))
      | inr none ↦ rw none (omega arith)
    ]
