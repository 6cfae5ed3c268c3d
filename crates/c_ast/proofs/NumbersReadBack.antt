-- Numbers in a text: what a run of digits stands for, and what stands behind it.
-- For: lines_same
use Rattle.std.proofs.Common.{◌≡◌, ℕ, ◌<◌, ◌^◌, Bool, false, if◌then◌else◌, List, [], ◌∷◌, ◌++◌, refl, ap, ◌∙◌}
use Rattle.std.specs.Prelude.{nat_lt, decimal}
use Rattle.std.specs.Char.{digit_value}
use Rattle.std.specs.Str.Parse.{AllDigits, digits_value}
use Rattle.std.proofs.lemmas.Bool.{lt-ltb}
use Rattle.std.proofs.lemmas.Fmt.{decimal_is_IsNumeral}

abbrev pub is_digit : ℕ → Bool
is_digit c = nat_lt (digit_value c) 10

-- the digits at the head of a text
abbrev pub digits_of : List ℕ → List ℕ
digits_of [] = []
digits_of (c ∷ cs) = if is_digit c then c ∷ digits_of cs else []

-- what stands behind them
abbrev pub behind : List ℕ → List ℕ
behind [] = []
behind (c ∷ cs) = if is_digit c then behind cs else c ∷ cs

-- the number at the head of a text
abbrev pub number_at : List ℕ → ℕ
number_at t = digits_value 10 (digits_of t)

-- the text begins with no digit
abbrev pub NoDigit : List ℕ → Type 0
NoDigit [] = Unit {0}
NoDigit (c ∷ cs) = is_digit c ≡ false

digits_front : (ds r : List ℕ) → AllDigits 10 ds → NoDigit r → digits_of (ds ++ r) ≡ ds
digits_front [] [] h begins = refl
digits_front [] (c ∷ cs) h begins = rw begins refl
digits_front (d ∷ ds) r h begins = rw (lt-ltb (digit_value d) 10 h.0) (ap (λ (x : List ℕ). d ∷ x) (digits_front ds r h.1 begins))

digits_behind : (ds r : List ℕ) → AllDigits 10 ds → NoDigit r → behind (ds ++ r) ≡ r
digits_behind [] [] h begins = refl
digits_behind [] (c ∷ cs) h begins = rw begins refl
digits_behind (d ∷ ds) r h begins = rw (lt-ltb (digit_value d) 10 h.0) (digits_behind ds r h.1 begins)

pub decimal_digits : (n : ℕ) → n < 2 ^ 64 → AllDigits 10 (decimal n)
decimal_digits n h = (decimal_is_IsNumeral n h).0.1

pub number_front : (n : ℕ) (r : List ℕ) → n < 2 ^ 64 → NoDigit r → number_at (decimal n ++ r) ≡ n
number_front n r h begins = ap (digits_value 10) (digits_front (decimal n) r (decimal_digits n h) begins) ∙ (decimal_is_IsNumeral n h).1

pub behind_number : (n : ℕ) (r : List ℕ) → n < 2 ^ 64 → NoDigit r → behind (decimal n ++ r) ≡ r
behind_number n r h begins = digits_behind (decimal n) r (decimal_digits n h) begins
