-- What `from_str_radix` reads is the integer that digits are.
-- For: integer
use Rattle.std.proofs.Common.{◌≡◌, ℕ, ◌<◌, ◌≤◌, List, [], ◌∷◌, length, drop, true, false, refl, sym, ap, ◌∙◌, arith, zero, suc, subst, lit<, ⊎_elim, eqb-true, ◌==◌, cond, Ok, Err, Some, None, w64}
use Rattle.std.specs.Prelude.{Result, ℤ, pos, negsuc, nat_lt, if◌then◌else◌, FitsSigned}
use Rattle.std.specs.Result.{result_ok}
use Rattle.std.specs.List.{list_all}
use Rattle.std.specs.Str.{IsAscii}
use Rattle.std.specs.Str.Parse.{AllDigits, IsNumeral, ParsesSigned, without_leading_sign, signed_digits_value}
use Rattle.std.specs.Char.{digit_value}
use Rattle.std.proofs.lemmas.Bool.{ltb-true, ltb-false, lt-ltb}
use Rattle.ps_base.specs.Numbers.{fit, is_word}
use Rattle.ps_read.specs.Lexical.{is_numeral}
use Rattle.ps_base.proofs.Choices.{true_or_false, and_true}

-- digits are those bytes
all_digits : (base : ℕ) (ds : List ℕ) → list_all (λ c. nat_lt (digit_value c) base) ds ≡ true → AllDigits base ds
all_digits base [] h = tt
all_digits base (d ∷ ds) h =
    let p = and_true (nat_lt (digit_value d) base) (list_all (λ c. nat_lt (digit_value c) base) ds) h in
    (ltb-true (digit_value d) base p.0, all_digits base ds p.1)

pub IsNumeral-from_test : (base : ℕ) (ds : List ℕ) → is_numeral base ds ≡ true → IsNumeral base ds
unfolding is_numeral
IsNumeral-from_test base ds h =
    let p = and_true (nat_lt 0 (length ds)) (list_all (λ c. nat_lt (digit_value c) base) ds) h in
    (ltb-true 0 (length ds) p.0, all_digits base ds p.1)

fits_word : (z : ℤ) → FitsSigned w64 z → is_word z ≡ true
fits_word (pos n) h = lt-ltb n 9223372036854775808 (omega (arith, h.sfits))
fits_word (negsuc n) h = lt-ltb n 9223372036854775808 (omega (arith, h.sfits))

word_fits : (z : ℤ) → is_word z ≡ true → FitsSigned w64 z
word_fits (pos n) h = record { sfits = ltb-true n 9223372036854775808 h }
word_fits (negsuc n) h = record { sfits = ltb-true n 9223372036854775808 h }

pub parsed : {E : Type 0} (base : ℕ) (bs : List ℕ) (r : Result ℤ E) → is_numeral base (without_leading_sign bs) ≡ true → ParsesSigned w64 base bs r → result_ok r ≡ fit (signed_digits_value base bs)
parsed base bs (Ok z) n h = ap Some h.1 ∙ sym (ap (λ b. if b then Some (signed_digits_value base bs) else None) (fits_word (signed_digits_value base bs) h.0.1))
parsed base bs (Err e) n h =
    ⊎_elim
    (λ w. absurd (h (IsNumeral-from_test base (without_leading_sign bs) n, word_fits (signed_digits_value base bs) w)))
    (λ w. sym (ap (λ b. if b then Some (signed_digits_value base bs) else None) w))
    (true_or_false (is_word (signed_digits_value base bs)))

-- ---- digits behind a sign are ASCII

digit_ascii : (c : ℕ) → digit_value c < 36 → c < 128
digit_ascii c h = ⊎_elim (λ low. let l = ltb-true c 123 low in omega arith) (λ high. absurd (large high)) (true_or_false (nat_lt c 123))
  where
    at_least : nat_lt c 123 ≡ false → 123 ≤ c
    at_least high = ltb-false c 123 high

    not_below : (n : ℕ) → n ≤ 123 → nat_lt c 123 ≡ false → nat_lt c n ≡ false
    not_below n le high = ⊎_elim (λ y. let l = ltb-true c n y in absurd (omega (arith, at_least high))) (λ e. e) (true_or_false (nat_lt c n))

    large : nat_lt c 123 ≡ false → ⊥
    large high =
        let e : digit_value c ≡ 36 = rw (not_below 48 (omega arith) high, not_below 58 (omega arith) high, not_below 65 (omega arith) high, not_below 91 (omega arith) high, not_below 97 (omega arith) high, high) refl in
        omega arith

ascii_digits : (base : ℕ) → base ≤ 36 → (ds : List ℕ) → AllDigits base ds → IsAscii ds
ascii_digits base le [] h = λ i. lit< tt
ascii_digits base le (d ∷ ds) h = first d ds (digit_ascii d (omega (arith, h.0))) (ascii_digits base le ds h.1)
  where
    first : (b : ℕ) (bs : List ℕ) → b < 128 → IsAscii bs → IsAscii (b ∷ bs)
    first b bs l h zero = l
    first b bs l h (suc i) = h i

first_ascii : (b : ℕ) (bs : List ℕ) → b < 128 → IsAscii bs → IsAscii (b ∷ bs)
first_ascii b bs l h zero = l
first_ascii b bs l h (suc i) = h i

pub signed_ascii : (base : ℕ) → base ≤ 36 → (bs : List ℕ) → AllDigits base (without_leading_sign bs) → IsAscii bs
signed_ascii base le [] h = λ i. lit< tt
signed_ascii base le (b ∷ bs) h =
    ⊎_elim
    (λ minus.
    let ds : AllDigits base bs = rw minus at h in
    first_ascii b bs (let e = eqb-true b 45 minus in omega arith) (ascii_digits base le bs ds))
    (λ other.
    ⊎_elim
    (λ plus.
    let ds : AllDigits base bs = subst (AllDigits base) (ap (λ t. cond t bs (drop (cond (b == 43) 1 0) (b ∷ bs))) other ∙ ap (λ t. drop (cond t 1 0) (b ∷ bs)) plus) h in
    first_ascii b bs (let e = eqb-true b 43 plus in omega arith) (ascii_digits base le bs ds))
    (λ neither.
    let ds : AllDigits base (b ∷ bs) = subst (AllDigits base) (ap (λ t. cond t bs (drop (cond (b == 43) 1 0) (b ∷ bs))) other ∙ ap (λ t. drop (cond t 1 0) (b ∷ bs)) neither) h in
    ascii_digits base le (b ∷ bs) ds)
    (true_or_false (b == 43)))
    (true_or_false (b == 45))
