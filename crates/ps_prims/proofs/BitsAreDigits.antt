-- The bits of an integer are the digits of the number that it is read as without a sign.
-- For: integers_have_their_bits
use Rattle.std.proofs.Common.{◌≡◌, ℕ, zero, suc, ◌+◌, ◌-◌, ◌*◌, ◌/◌, ◌%◌, ◌^◌, ◌<◌, ◌≤◌, ℤ, pos, negsuc, ◌-ℤ◌, ◌==◌, Bool, true, false, if◌then◌else◌, ◌⊎◌, inl, inr, ⊎_elim, refl, sym, ap, ◌∙◌, arith, pow-suc, lt-ltb, le-ltb, ltb-true}
use Rattle.std.specs.Int.{w64, bit_at, bit_not, cast_signed, cast_unsigned}
use Rattle.std.specs.Int.RustNames.{FitsSigned}
use Rattle.std.proofs.lemmas.Int.{ints, to_z-of_z, of_z-to_z, to_z_pos}
use Rattle.std.proofs.lemmas.Nat.Bits.{bit_at_not, bit_at-lt, bit_at_cat_low, bit_at_cat_high, bit_at_lowest, same_from_bits_below}
use Rattle.std.proofs.lemmas.Bool.{cases_lt, false≢true, true≢false}
use Rattle.ps_base.specs.Numbers.{is_word}
use Rattle.ps_prims.specs.TwosComplement.{bit, digit, worth, integer_of, BitsMakeTheInteger, BitsTellTheInteger, IntegersHaveTheirBits}

-- ---- words, and the numbers without a sign

-- an integer of 64 bits, as the kit says it
fits : (n : ℤ) → is_word n ≡ true → FitsSigned w64 n
fits (pos a) w = record { sfits = ltb-true a 9223372036854775808 w }
fits (negsuc a) w = record { sfits = ltb-true a 9223372036854775808 w }

pub unsigned_below : (n : ℤ) → is_word n ≡ true → cast_unsigned w64 n < 2 ^ 64
unsigned_below (pos a) w = omega (arith, ltb-true a 9223372036854775808 w)
unsigned_below (negsuc a) w = omega arith

back : (n : ℤ) → is_word n ≡ true → cast_signed w64 (cast_unsigned w64 n) ≡ n
back n w = to_z-of_z w64 n (fits n w)

-- the number below 2^64 is that of an integer of 64 bits
pub signed_cases : (u : ℕ) → u < 2 ^ 64 → ((u < 9223372036854775808) × (cast_signed w64 u ≡ pos u)) ⊎ ((9223372036854775808 ≤ u) × (cast_signed w64 u ≡ negsuc (2 ^ 64 - suc u)))
signed_cases u lt = ⊎_elim
    (λ l. inl (l, ap (λ (b : Bool). if b then pos u else negsuc (2 ^ 64 - suc u)) (lt-ltb u 9223372036854775808 l)))
    (λ l. inr (l, ap (λ (b : Bool). if b then pos u else negsuc (2 ^ 64 - suc u)) (le-ltb u 9223372036854775808 l)))
    (cases_lt u 9223372036854775808)

signed_word : (u : ℕ) → u < 2 ^ 64 → is_word (cast_signed w64 u) ≡ true
signed_word u lt = ⊎_elim
    (λ c. ap is_word c.1 ∙ lt-ltb u 9223372036854775808 c.0)
    (λ c. ap is_word c.1 ∙ lt-ltb (2 ^ 64 - suc u) 9223372036854775808 (let le = c.0 in omega arith))
    (signed_cases u lt)

-- ---- bits are digits

odd_next : (q d : ℕ) → d ≡ 1 - q % 2 → (suc q % 2 == 1) ≡ (d == 1)
odd_next q d e = let h : suc q % 2 ≡ d = omega (arith, e) in ap (λ x. x == 1) h

pub bit_of : (n : ℤ) (i : ℕ) → is_word n ≡ true → i < 64 → bit n i ≡ (bit_at (cast_unsigned w64 n) i == 1)
bit_of (pos a) i w lt = refl
bit_of (negsuc a) i w lt =
    let small : a < 2 ^ 64 = omega (arith, ltb-true a 9223372036854775808 w) in
    let turned : 2 ^ 64 - suc a ≡ bit_not w64 a = omega arith in
    odd_next (a / 2 ^ i) (bit_at (2 ^ 64 - suc a) i) (ap (λ x. bit_at x i) turned ∙ bit_at_not w64 a i small lt)

bit_of_signed : (u i : ℕ) → u < 2 ^ 64 → i < 64 → bit (cast_signed w64 u) i ≡ (bit_at u i == 1)
bit_of_signed u i small lt = bit_of (cast_signed w64 u) i (signed_word u small) lt ∙ ap (λ x. bit_at x i == 1) (of_z-to_z w64 u small)

-- ---- the integer of some bits

digit_is : (b : Bool) (k : ℕ) → (x : ℕ) × (digit b k ≡ x * 2 ^ k) × (x < 2) × ((x == 1) ≡ b)
digit_is true k = (1, omega arith, omega arith, refl)
digit_is false k = (0, omega arith, omega arith, refl)

worth_next : (bits : ℕ → Bool) (k : ℕ) → worth bits (suc k) ≡ worth bits k + digit (bits k) k
unfolding worth
worth_next bits k = refl

digit_fits : (b : Bool) (k w : ℕ) → w < 2 ^ k → w + digit b k < 2 ^ suc k
digit_fits true k w lt = omega (arith, pow-suc 2 k)
digit_fits false k w lt = omega (arith, pow-suc 2 k)

worth_below : (bits : ℕ → Bool) (k : ℕ) → worth bits k < 2 ^ k
unfolding worth
worth_below bits zero = omega arith
worth_below bits (suc k) = digit_fits (bits k) k (worth bits k) (worth_below bits k)

-- the digits of what some bits are worth are these bits
worth_has : (bits : ℕ → Bool) (k i : ℕ) → i < k → (bit_at (worth bits k) i == 1) ≡ bits i
worth_has bits zero i lt = absurd (omega arith)
worth_has bits (suc k) i lt = ⊎_elim (λ l. low l (worth_has bits k i l)) high (cases_lt i k)
  where
    d : (x : ℕ) × (digit (bits k) k ≡ x * 2 ^ k) × (x < 2) × ((x == 1) ≡ bits k)
    d = digit_is (bits k) k

    split : worth bits (suc k) ≡ d.0 * 2 ^ k + worth bits k
    split = let e = d.1 in omega (arith, worth_next bits k, e)

    low : i < k → (bit_at (worth bits k) i == 1) ≡ bits i → (bit_at (worth bits (suc k)) i == 1) ≡ bits i
    low l before = ap (λ x. bit_at x i == 1) split ∙ ap (λ x. x == 1) (bit_at_cat_low d.0 k (worth bits k) i l) ∙ before

    high : k ≤ i → (bit_at (worth bits (suc k)) i == 1) ≡ bits i
    high l =
        let same : i ≡ k = omega arith in
        let none : i - k ≡ 0 = omega arith in
        let small = d.2 in
        ap (λ x. bit_at x i == 1) split
        ∙ ap (λ x. x == 1) (bit_at_cat_high d.0 k (worth bits k) i (worth_below bits k) l ∙ ap (bit_at d.0) none ∙ bit_at_lowest d.0 ∙ omega arith)
        ∙ d.3
        ∙ ap bits (sym same)

worth_signed : (bits : ℕ → Bool) → cast_signed w64 (worth bits 64) ≡ integer_of bits
worth_signed bits = ap (cast_signed w64) (worth_next bits 63) ∙ go (bits 63)
  where
    w : ℕ
    w = worth bits 63

    small : w < 2 ^ 63
    small = worth_below bits 63

    -- the number without a sign is below 2^63, or not
    low : (u : ℕ) → u < 9223372036854775808 → cast_signed w64 u ≡ pos u
    low u l = to_z_pos w64 u l

    high : (u : ℕ) → u < 2 ^ 64 → 9223372036854775808 ≤ u → cast_signed w64 u ≡ negsuc (2 ^ 64 - suc u)
    high u lt le = ap (λ (b : Bool). if b then pos u else negsuc (2 ^ 64 - suc u)) (le-ltb u 9223372036854775808 le)

    go : (b : Bool) → cast_signed w64 (w + digit b 63) ≡ pos w -ℤ pos (digit b 63)
    go true = high (w + digit true 63) (omega (arith, small)) (omega arith) ∙ omega (arith, ints, small)
    go false = low (w + digit false 63) (omega (arith, small)) ∙ omega (arith, ints)

same_digit : (x y : ℕ) → x < 2 → y < 2 → (x == 1) ≡ (y == 1) → x ≡ y
same_digit zero zero p q e = refl
same_digit zero (suc zero) p q e = absurd (false≢true e)
same_digit (suc zero) zero p q e = absurd (true≢false e)
same_digit (suc zero) (suc zero) p q e = refl
same_digit (suc (suc x)) y p q e = absurd (omega arith)
same_digit x (suc (suc y)) p q e = absurd (omega arith)

-- a number of 64 digits stands for the integer of these
pub signed_is : (bits : ℕ → Bool) (u : ℕ) → u < 2 ^ 64 → ((i : ℕ) → i < 64 → (bit_at u i == 1) ≡ bits i) → cast_signed w64 u ≡ integer_of bits
signed_is bits u small has = ap (cast_signed w64) (same_from_bits_below 64 u (worth bits 64) small (worth_below bits 64) same) ∙ worth_signed bits
  where
    same : (i : ℕ) → i < 64 → bit_at u i ≡ bit_at (worth bits 64) i
    same i lt = same_digit (bit_at u i) (bit_at (worth bits 64) i) (bit_at-lt u i) (bit_at-lt (worth bits 64) i) (has i lt ∙ sym (worth_has bits 64 i lt))

-- an integer of 64 bits is that of these bits
pub integer_is : (bits : ℕ → Bool) (n : ℤ) → is_word n ≡ true → ((i : ℕ) → i < 64 → bit n i ≡ bits i) → n ≡ integer_of bits
integer_is bits n w has = sym (back n w) ∙ signed_is bits (cast_unsigned w64 n) (unsigned_below n w) (λ i lt. sym (bit_of n i w lt) ∙ has i lt)

pub make : BitsMakeTheInteger
make n w = integer_is (bit n) n w (λ i lt. refl)

pub tell : BitsTellTheInteger
tell n1 n2 w1 w2 same = integer_is (bit n2) n1 w1 same ∙ sym (make n2 w2)

pub have : IntegersHaveTheirBits
have bits = record {
  word = ap is_word (sym (worth_signed bits)) ∙ signed_word (worth bits 64) (worth_below bits 64);
  each = λ i lt. ap (λ z. bit z i) (sym (worth_signed bits)) ∙ bit_of_signed (worth bits 64) i (worth_below bits 64) lt ∙ worth_has bits 64 i lt;
}
