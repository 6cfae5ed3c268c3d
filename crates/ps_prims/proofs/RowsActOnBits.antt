-- The rows of the bitwise operations and of the shifts act on the bits.
-- For: bits_are_combined, bits_are_moved
use Rattle.std.proofs.Common.{◌≡◌, ℕ, zero, suc, ◌+◌, ◌-◌, ◌*◌, ◌/◌, ◌%◌, ◌^◌, ◌<◌, ◌≤◌, min, max, ℤ, pos, negsuc, ◌+ℤ◌, ◌-ℤ◌, ◌*ℤ◌, ◌==◌, Bool, true, false, not, ◌&&◌, ◌||◌, if◌then◌else◌, [], ◌∷◌, Result, Ok, Err, ⊎_elim, refl, sym, ap, subst, ◌∙◌, arith, lt-ltb, le-ltb, ltb-true, div-add-mod', mod-lt}
use Rattle.std.specs.Int.{w64, bit_at, bit_not, cast_signed, cast_unsigned, int_bit_and, int_bit_or, int_bit_xor, int_bit_not, int_shl, int_shr}
use Rattle.std.specs.Int.RustNames.{bit_and, bit_or, bit_xor}
use Rattle.std.proofs.lemmas.Int.{ints}
use Rattle.std.proofs.lemmas.Nat.{pow_pos, shr-shr, shr_split, shr_le, and_le_l, or_lt, xor_lt}
use Rattle.std.proofs.lemmas.Nat.Bits.{bit_at_and, bit_at_or, bit_at_xor, bit_at_not, bit_at-lt, bit_at_above, bit_at_cat_low, bit_at_cat_high, bit_at-zero}
use Rattle.std.proofs.lemmas.Bool.{cases_lt}
use Rattle.std.proofs.Math.Pow.{pow_mono}
use Rattle.std.proofs.Math.Nat.{div-eq_of_lt}
use Rattle.ps_base.specs.declared.faults.Op.{Op}
use Rattle.ps_base.specs.declared.faults.Op.TheVariants as ops
use Rattle.ps_base.specs.declared.language.PrimName.TheVariants as prims
use Rattle.ps_base.specs.Numbers.{is_word}
use Rattle.byte_store.specs.declared.pointer.Value.{Value}
use Rattle.byte_store.specs.declared.pointer.Value.TheVariants as value
use Rattle.ps_prims.specs.declared.outcome.PrimOut.TheVariants as out
use Rattle.ps_prims.specs.declared.stages.Stage.{Stage}
use Rattle.ps_prims.specs.Sorts.{first_order}
use Rattle.ps_prims.specs.Rows.{Scene, arithmetic, logical_shr, perform_row, row, shifting}
use Rattle.ps_prims.specs.Inside.{number_out}
use Rattle.ps_prims.specs.Division.{answers_integer}
use Rattle.ps_prims.specs.TwosComplement.{bit, integer_of, unequal, up, down, Congruent, BitsAreCombined, BitsAreTurned, BitsAreMoved}
use Rattle.ps_prims.proofs.QuietRowsShowNothing.{quiet_arithmetic, quiet_gives}
use Rattle.ps_prims.proofs.BitsAreDigits.{unsigned_below, signed_cases, bit_of, signed_is, integer_is}

-- ---- two digits, and whether they are 1

min_is : (x y : ℕ) → x < 2 → y < 2 → (min x y == 1) ≡ ((x == 1) && (y == 1))
min_is zero zero p q = refl
min_is zero (suc zero) p q = refl
min_is (suc zero) zero p q = refl
min_is (suc zero) (suc zero) p q = refl
min_is (suc (suc x)) y p q = absurd (omega arith)
min_is x (suc (suc y)) p q = absurd (omega arith)

max_is : (x y : ℕ) → x < 2 → y < 2 → (max x y == 1) ≡ ((x == 1) || (y == 1))
max_is zero zero p q = refl
max_is zero (suc zero) p q = refl
max_is (suc zero) zero p q = refl
max_is (suc zero) (suc zero) p q = refl
max_is (suc (suc x)) y p q = absurd (omega arith)
max_is x (suc (suc y)) p q = absurd (omega arith)

sum_is : (x y : ℕ) → x < 2 → y < 2 → ((x + y) % 2 == 1) ≡ unequal (x == 1) (y == 1)
sum_is zero zero p q = refl
sum_is zero (suc zero) p q = refl
sum_is (suc zero) zero p q = refl
sum_is (suc zero) (suc zero) p q = refl
sum_is (suc (suc x)) y p q = absurd (omega arith)
sum_is x (suc (suc y)) p q = absurd (omega arith)

rest_is : (x : ℕ) → x < 2 → (1 - x == 1) ≡ not (x == 1)
rest_is zero p = refl
rest_is (suc zero) p = refl
rest_is (suc (suc x)) p = absurd (omega arith)

-- ---- the bitwise operations

module _ (n1 n2 : ℤ) (w1 : is_word n1 ≡ true) (w2 : is_word n2 ≡ true) where
  abbrev u1 : ℕ
  u1 = cast_unsigned w64 n1

  abbrev u2 : ℕ
  u2 = cast_unsigned w64 n2

  -- a function of two digits is one of the bits
  each : (f : ℕ → ℕ → ℕ) (g : Bool → Bool → Bool) → ((x y : ℕ) → x < 2 → y < 2 → (f x y == 1) ≡ g (x == 1) (y == 1)) →
      (i : ℕ) → i < 64 → (f (bit_at u1 i) (bit_at u2 i) == 1) ≡ g (bit n1 i) (bit n2 i)
  each f g is i lt =
      is (bit_at u1 i) (bit_at u2 i) (bit_at-lt u1 i) (bit_at-lt u2 i)
      ∙ ap (λ b. g b (bit_at u2 i == 1)) (sym (bit_of n1 i w1 lt))
      ∙ ap (g (bit n1 i)) (sym (bit_of n2 i w2 lt))

  pub and_is : int_bit_and w64 n1 n2 ≡ integer_of (λ i. bit n1 i && bit n2 i)
  and_is = signed_is (λ i. bit n1 i && bit n2 i) (bit_and u1 u2) (omega (arith, and_le_l u1 u2, unsigned_below n1 w1))
      (λ i lt. ap (λ d. d == 1) (bit_at_and u1 u2 i) ∙ each min (λ a b. a && b) min_is i lt)

  pub or_is : int_bit_or w64 n1 n2 ≡ integer_of (λ i. bit n1 i || bit n2 i)
  or_is = signed_is (λ i. bit n1 i || bit n2 i) (bit_or u1 u2) (or_lt 64 u1 u2 (unsigned_below n1 w1) (unsigned_below n2 w2))
      (λ i lt. ap (λ d. d == 1) (bit_at_or u1 u2 i) ∙ each max (λ a b. a || b) max_is i lt)

  pub xor_is : int_bit_xor w64 n1 n2 ≡ integer_of (λ i. unequal (bit n1 i) (bit n2 i))
  xor_is = signed_is (λ i. unequal (bit n1 i) (bit n2 i)) (bit_xor u1 u2) (xor_lt 64 u1 u2 (unsigned_below n1 w1) (unsigned_below n2 w2))
      (λ i lt. ap (λ d. d == 1) (bit_at_xor u1 u2 i) ∙ each (λ x y. (x + y) % 2) unequal sum_is i lt)

module _ (n : ℤ) (w : is_word n ≡ true) where
  abbrev u : ℕ
  u = cast_unsigned w64 n

  small : u < 2 ^ 64
  small = unsigned_below n w

  pub not_is : int_bit_not w64 n ≡ integer_of (λ i. not (bit n i))
  not_is = signed_is (λ i. not (bit n i)) (bit_not w64 u) (omega (arith, small))
      (λ i lt. ap (λ d. d == 1) (bit_at_not w64 u i small lt) ∙ rest_is (bit_at u i) (bit_at-lt u i) ∙ ap not (sym (bit_of n i w lt)))

  -- ---- the shifts

  -- the digits of what is left of x below 2^64
  low_digit : (x i : ℕ) → i < 64 → bit_at (x % 2 ^ 64) i ≡ bit_at x i
  low_digit x i lt = sym (bit_at_cat_low (x / 2 ^ 64) 64 (x % 2 ^ 64) i lt) ∙ ap (λ y. bit_at y i) (shr_split x 64)

  module _ (k : ℕ) where
    no_more : (x : ℕ) → x * 2 ^ k ≡ x * 2 ^ k + 0
    no_more x = omega arith

    raised : (i : ℕ) → i < 64 → (bit_at ((u * 2 ^ k) % 2 ^ 64) i == 1) ≡ up k (bit n) i
    raised i lt = ap (λ d. d == 1) (low_digit (u * 2 ^ k) i lt ∙ ap (λ y. bit_at y i) (no_more u)) ∙ ⊎_elim below above (cases_lt i k)
      where
        below : i < k → (bit_at (u * 2 ^ k + 0) i == 1) ≡ up k (bit n) i
        below l = ap (λ d. d == 1) (bit_at_cat_low u k 0 i l ∙ bit_at-zero i) ∙ sym (ap (λ (b : Bool). if b then false else bit n (i - k)) (lt-ltb i k l))

        above : k ≤ i → (bit_at (u * 2 ^ k + 0) i == 1) ≡ up k (bit n) i
        above l =
            ap (λ d. d == 1) (bit_at_cat_high u k 0 i (pow_pos k) l)
            ∙ sym (bit_of n (i - k) w (omega arith))
            ∙ sym (ap (λ (b : Bool). if b then false else bit n (i - k)) (le-ltb i k l))

    pub shl_is : int_shl w64 n k ≡ integer_of (up k (bit n))
    shl_is = signed_is (up k (bit n)) ((u * 2 ^ k) % 2 ^ 64) (mod-lt (u * 2 ^ k) (pow_pos 64)) raised

    -- bit i + k, or the highest
    lowered : (b highest : Bool) (i : ℕ) → (i + k < 64 → b ≡ bit n (i + k)) → (64 ≤ i + k → b ≡ highest) → b ≡ down k highest (bit n) i
    lowered b highest i inside outside = ⊎_elim
        (λ l. inside l ∙ sym (ap (λ (t : Bool). if t then bit n (i + k) else highest) (lt-ltb (i + k) 64 l)))
        (λ l. outside l ∙ sym (ap (λ (t : Bool). if t then bit n (i + k) else highest) (le-ltb (i + k) 64 l)))
        (cases_lt (i + k) 64)

    turned : (i : ℕ) → k + i ≡ i + k
    turned i = omega arith

    shr_digit : (i : ℕ) → bit_at (u / 2 ^ k) i ≡ bit_at u (i + k)
    shr_digit i = ap (λ x. x % 2) (shr-shr u k i ∙ ap (λ j. u / 2 ^ j) (turned i))

    pub logical_is : logical_shr n k ≡ integer_of (down k false (bit n))
    logical_is = signed_is (down k false (bit n)) (u / 2 ^ k) (omega (arith, shr_le u k, small)) (λ i lt. lowered (bit_at (u / 2 ^ k) i == 1) false i
        (λ l. ap (λ d. d == 1) (shr_digit i) ∙ sym (bit_of n (i + k) w l))
        (λ l. ap (λ d. d == 1) (shr_digit i ∙ bit_at_above u 64 (i + k) small l)))

-- ---- the shift that copies the sign

shr_word : (n : ℤ) (k : ℕ) → is_word n ≡ true → is_word (int_shr n k) ≡ true
shr_word (pos a) k w = lt-ltb (a / 2 ^ k) 9223372036854775808 (omega (arith, ltb-true a 9223372036854775808 w, shr_le a k))
shr_word (negsuc a) k w = lt-ltb (a / 2 ^ k) 9223372036854775808 (omega (arith, ltb-true a 9223372036854775808 w, shr_le a k))

both_shifts : (a k i : ℕ) → a / 2 ^ k / 2 ^ i ≡ a / 2 ^ (i + k)
both_shifts a k i = let turned : k + i ≡ i + k = omega arith in shr-shr a k i ∙ ap (λ j. a / 2 ^ j) turned

shr_bit : (n : ℤ) (k i : ℕ) → bit (int_shr n k) i ≡ bit n (i + k)
shr_bit (pos a) k i = ap (λ q. q % 2 == 1) (both_shifts a k i)
shr_bit (negsuc a) k i = ap (λ q. suc q % 2 == 1) (both_shifts a k i)

none_left : (a j : ℕ) → a < 9223372036854775808 → 63 ≤ j → a / 2 ^ j ≡ 0
none_left a j small le = let less : a < 2 ^ j = omega (arith, pow_mono le) in div-eq_of_lt less

sign_bit : (n : ℤ) (j : ℕ) → is_word n ≡ true → 63 ≤ j → bit n j ≡ bit n 63
sign_bit (pos a) j w le = let small : a < 9223372036854775808 = ltb-true a 9223372036854775808 w in ap (λ q. q % 2 == 1) (none_left a j small le ∙ sym (none_left a 63 small (omega arith)))
sign_bit (negsuc a) j w le = let small : a < 9223372036854775808 = ltb-true a 9223372036854775808 w in ap (λ q. suc q % 2 == 1) (none_left a j small le ∙ sym (none_left a 63 small (omega arith)))

pub arithmetic_is : (n : ℤ) (w : is_word n ≡ true) (k : ℕ) → int_shr n k ≡ integer_of (down k (bit n 63) (bit n))
arithmetic_is n w k = integer_is (down k (bit n 63) (bit n)) (int_shr n k) (shr_word n k w) (λ i lt. lowered n w k (bit (int_shr n k) i) (bit n 63) i
    (λ l. shr_bit n k i)
    (λ l. shr_bit n k i ∙ sign_bit n (i + k) w (omega arith)))

-- ---- multiples of 2^64

-- the integer that a number stands for is that number, or 2^64 less
signed_near : (v : ℕ) → v < 2 ^ 64 → (t : ℕ) × (cast_signed w64 v +ℤ pos (t * 18446744073709551616) ≡ pos v)
signed_near v lt = ⊎_elim
    (λ c. (0, ap (λ z. z +ℤ pos 0) c.1 ∙ omega (arith, ints)))
    (λ c. (1, ap (λ z. z +ℤ pos 18446744073709551616) c.1 ∙ omega (arith, ints)))
    (signed_cases v lt)

apart : (x z : ℤ) (v q t r : ℕ) → x +ℤ pos (r * 18446744073709551616) ≡ pos (q * 18446744073709551616 + v) → z +ℤ pos (t * 18446744073709551616) ≡ pos v → x ≡ z +ℤ (pos (q + t) -ℤ pos r) *ℤ pos 18446744073709551616
apart x z v q t r e f = omega (arith, ints, e, f)

times_of : (a m : ℕ) → a < 18446744073709551616 → negsuc a *ℤ pos m +ℤ pos (m * 18446744073709551616) ≡ pos ((18446744073709551616 - suc a) * m)
times_of a m lt =
    let c = 18446744073709551616 - suc a in
    let whole : c + suc a ≡ 18446744073709551616 = omega arith in
    let both = ap (λ x. x * m) whole in
    omega (arith, ints, both)

shl_near : (n : ℤ) (k : ℕ) → is_word n ≡ true → (r : ℕ) × (n *ℤ pos (2 ^ k) +ℤ pos (r * 18446744073709551616) ≡ pos (cast_unsigned w64 n * 2 ^ k))
shl_near (pos a) k w = (0, omega (arith, ints))
shl_near (negsuc a) k w = (2 ^ k, times_of a (2 ^ k) (omega (arith, ltb-true a 9223372036854775808 w)))

pub shl_congruent : (n : ℤ) (w : is_word n ≡ true) (k : ℕ) → Congruent (n *ℤ pos (2 ^ k)) (integer_of (up k (bit n)))
shl_congruent n w k =
    let x = cast_unsigned w64 n * 2 ^ k in
    let v = x % 18446744073709551616 in
    let q = x / 18446744073709551616 in
    let r = shl_near n k w in
    let t = signed_near v (mod-lt x (pow_pos 64)) in
    subst (λ z. Congruent (n *ℤ pos (2 ^ k)) z) (shl_is n w k) (record {
      times = pos (q + t.0) -ℤ pos r.0;
      differ = apart (n *ℤ pos (2 ^ k)) (cast_signed w64 v) v q t.0 r.0 (r.1 ∙ ap pos (sym (div-add-mod' x 18446744073709551616))) t.1;
    })

-- ---- the rows

-- a row of two integers that answers this one
answers_it : (f : ℤ → ℤ → Result ℤ Op) (i j z : ℤ) (stage : Stage) (s : Scene Value) → f i j ≡ Ok z →
    perform_row first_order (arithmetic first_order f) (value.Integer i ∷ value.Integer j ∷ []) stage s ≡ answers_integer z s
answers_it f i j z stage s e = quiet_arithmetic f (value.Integer i ∷ value.Integer j ∷ []) i j (out.Value (value.Integer z)) refl (sym (ap number_out e)) stage s

pub combined : BitsAreCombined
combined n1 n2 stage s w1 w2 = record {
  both = answers_it (λ i j. Ok (int_bit_and w64 i j)) n1 n2 (integer_of (λ i. bit n1 i && bit n2 i)) stage s (ap (λ z. Ok z) (and_is n1 n2 w1 w2));
  any = answers_it (λ i j. Ok (int_bit_or w64 i j)) n1 n2 (integer_of (λ i. bit n1 i || bit n2 i)) stage s (ap (λ z. Ok z) (or_is n1 n2 w1 w2));
  unequal_ones = answers_it (λ i j. Ok (int_bit_xor w64 i j)) n1 n2 (integer_of (λ i. unequal (bit n1 i) (bit n2 i))) stage s (ap (λ z. Ok z) (xor_is n1 n2 w1 w2));
}

pub turned_over : BitsAreTurned
turned_over n stage s w = quiet_gives (row first_order [] prims.BitwiseNot) (value.Integer n ∷ []) (int_bit_not w64 n) refl stage s ∙ ap (λ z. answers_integer z s) (not_is n w)

shifts_by : (f : ℤ → ℕ → ℤ) (n : ℤ) (k : ℕ) (z : ℤ) (stage : Stage) (s : Scene Value) → k < 64 → f n k ≡ z →
    perform_row first_order (arithmetic first_order (shifting f)) (value.Integer n ∷ value.Integer (pos k) ∷ []) stage s ≡ answers_integer z s
shifts_by f n k z stage s lt e = answers_it (shifting f) n (pos k) z stage s (ap (λ (b : Bool). if b then Ok (f n k) else Err ops.Shift) (lt-ltb k 64 lt) ∙ ap (λ z. Ok z) e)

pub moved : BitsAreMoved
moved n k stage s w lt = record {
  left = shifts_by (λ i k. int_shl w64 i k) n k (integer_of (up k (bit n))) stage s lt (shl_is n w k);
  multiple = shl_congruent n w k;
  arithmetic = shifts_by int_shr n k (integer_of (down k (bit n 63) (bit n))) stage s lt (arithmetic_is n w k);
  logical = shifts_by logical_shr n k (integer_of (down k false (bit n))) stage s lt (logical_is n w k);
}
