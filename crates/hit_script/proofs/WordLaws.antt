-- The number that ASCII digits spell, digit by digit.
use Rattle.std.proofs.Common.{Option, Some, None, map, subst, sym, ◌≡◌, ◌<◌, ◌≤◌, ◌+◌, ◌-◌, ◌*◌, ◌^◌, ℕ, suc, zero, List, [], ◌∷◌, ◌&&◌, true, length, take, refl, ap, ◌∙◌, arith, slice_index}
use Rattle.std.specs.Prelude.{nat_le, IfSome}
use Rattle.hit_script.specs.declared.words.Task.{Task}
use Rattle.std.specs.List.{list_all}
use Rattle.std.proofs.Math.Nat.{pow-suc}
use Rattle.std.proofs.lemmas.Bool.{and_parts}
use Rattle.std.proofs.lemmas.Bool.Decides.{nat_tests}
use Rattle.std.proofs.lemmas.Option.{none-some, same_Some}
use Rattle.hit_script.specs.Words.{is_digit, is_short_number, spelled, spelled_behind, words_ask, HasFewBlocks}
use Rattle.hit_script.specs.declared.words.Task.TheVariants.{Script, Load}

spelled_behind_more : (number : ℕ) (text : List ℕ) (i : ℕ) → i < length text → spelled_behind number (take (suc i) text) ≡ spelled_behind number (take i text) * 10 + (slice_index text i - 48)
spelled_behind_more number [] i within = absurd (omega (arith, within))
spelled_behind_more number (digit ∷ digits) zero within = refl
spelled_behind_more number (digit ∷ digits) (suc i) within = spelled_behind_more (number * 10 + (digit - 48)) digits i (omega (arith, within))

pub spelled_more : (text : List ℕ) (i : ℕ) → i < length text → spelled (take (i + 1) text) ≡ spelled (take i text) * 10 + (slice_index text i - 48)
spelled_more text i within =
    let one_more : i + 1 ≡ suc i = omega arith in
    ap (λ (n : ℕ). spelled (take n text)) one_more ∙ spelled_behind_more 0 text i within

digit_within : (text : List ℕ) (i : ℕ) → i < length text → list_all is_digit text ≡ true → slice_index text i ≤ 57
digit_within [] i within all = absurd (omega (arith, within))
digit_within (digit ∷ digits) zero within all =
    let here = and_parts (is_digit digit) (list_all is_digit digits) all in
    grind (arith, nat_tests, here.0)
digit_within (digit ∷ digits) (suc i) within all = digit_within digits i (omega (arith, within)) (and_parts (is_digit digit) (list_all is_digit digits) all).1

-- one digit more makes a number of one digit more
pub digit_more : (number i : ℕ) (text : List ℕ) → number < 10 ^ i → i < length text → is_short_number text ≡ true → number * 10 + (slice_index text i - 48) < 10 ^ (i + 1)
digit_more number i text small within short =
    let parts = and_parts (nat_le 1 (length text)) (nat_le (length text) 5 && list_all is_digit text) short in
    let digit = digit_within text i within (and_parts (nat_le (length text) 5) (list_all is_digit text) parts.1).1 in
    let one_more : i + 1 ≡ suc i = omega arith in
    rw (one_more, pow-suc 10 i) (omega (arith, small, digit))

-- What words ask for.

pub script_not_load : {count : ℕ} → Some Script ≡ Some (Load count) → ⊥
script_not_load {count} same = let tasks : Script ≡ Load count = same_Some _ _ same in absurd (cc)

pub same_count : {count count' : ℕ} → Some (Load count) ≡ Some (Load count') → count ≡ count'
same_count {count} {count'} same = let tasks : Load count ≡ Load count' = same_Some _ _ same in cc

pub unasked_words : {A : Type 0} (text : A → List ℕ) (words : List A) → words_ask (map text words) ≡ None → words ≡ [] → ⊥
unasked_words text [] none is = none-some _ (sym none)
unasked_words text (word ∷ words) none is = absurd (cc)

pub load_not_none : {A : Type 0} (text : A → List ℕ) (words : List A) {count : ℕ} → words_ask (map text words) ≡ Some (Load count) → words ≡ [] → ⊥
load_not_none text [] asked is = script_not_load asked
load_not_none text (word ∷ words) asked is = absurd (cc)

pub most_blocks : (asked : Option Task) {count : ℕ} → IfSome asked HasFewBlocks → asked ≡ Some (Load count) → count ≤ 20000
most_blocks asked {count} few is = subst (λ (o : Option Task). IfSome o HasFewBlocks) is few
