-- The rows of `quotient`, `remainder` and `modulo` divide.
-- For: divisions_are_rounded
use Rattle.std.proofs.Common.{◌≡◌, ◌≢◌, ℕ, zero, suc, ◌*◌, ◌/◌, ◌%◌, ◌<◌, ◌≤◌, ℤ, pos, negsuc, neg_ℤ, ◌+ℤ◌, ◌-ℤ◌, ◌*ℤ◌, ◌<ℤ◌, unsigned_abs, int_div, int_rem, ◌==◌, Bool, true, false, ◌||◌, if◌then◌else◌, [], ◌∷◌, Ok, Err, ◌⊎◌, inl, inr, refl, sym, ap, subst, ◌∙◌, arith, div-add-mod', div-le_self, div-mul-le_self, mul-le-mul_left, lt-ltb, ltb-true}
use Rattle.std.proofs.lemmas.Int.{ints, quot-rem, rem_below, unsigned_abs-mul}
use Rattle.std.proofs.lemmas.Bool.Decides.{Decides-int_eq, eqb_tells}
use Rattle.ps_base.specs.declared.faults.Op.TheVariants as ops
use Rattle.ps_base.specs.Numbers.{is_word}
use Rattle.byte_store.specs.declared.pointer.Value.TheVariants as value
use Rattle.ps_prims.specs.declared.outcome.PrimOut.TheVariants as out
use Rattle.ps_prims.specs.Sorts.{first_order}
use Rattle.ps_prims.specs.Rows.{Undefined, arithmetic, dividing, is_negative, is_same, is_zero, modulo, perform_row}
use Rattle.ps_prims.specs.Inside.{number_out}
use Rattle.ps_prims.specs.Division.{answers_integer, Divided, DivisionsAreRounded, DivisionsAreUndefined, HasNoQuotient, IsRounded, Leaves, SameSign}
use Rattle.ps_prims.proofs.QuietRowsShowNothing.{quiet_arithmetic}
use Rattle.ps_base.proofs.Choices.{true_false}

-- ---- the quotient

abs_neg : (n : ℕ) → unsigned_abs (neg_ℤ (pos n)) ≡ n
abs_neg zero = refl
abs_neg (suc n) = refl

abs_quot : (i j : ℤ) → unsigned_abs (int_div i j) ≡ unsigned_abs i / unsigned_abs j
abs_quot (pos a) (pos b) = refl
abs_quot (pos a) (negsuc b) = abs_neg (a / suc b)
abs_quot (negsuc a) (pos b) = abs_neg (suc a / b)
abs_quot (negsuc a) (negsuc b) = refl

turned : (x y : ℤ) → x *ℤ y ≡ y *ℤ x
turned x y = omega (arith, ints)

what_is_left : (x y z : ℤ) → z ≡ x +ℤ y → z -ℤ x ≡ y
what_is_left x y z e = omega (arith, ints, e)

whole_of : (i j : ℤ) → i ≡ j *ℤ int_div i j +ℤ int_rem i j
whole_of i j = sym (ap (λ z. z +ℤ int_rem i j) (turned j (int_div i j)) ∙ quot-rem i j)

rounded_of : (i j : ℤ) → 0 < unsigned_abs j → IsRounded i j (int_div i j)
rounded_of i j some = record {
  near = subst (λ z. unsigned_abs z < unsigned_abs j) (sym (what_is_left (j *ℤ int_div i j) (int_rem i j) i (whole_of i j))) (rem_below i j some);
  toward_zero = subst (λ n. n ≤ unsigned_abs i) (sym (ap unsigned_abs (turned j (int_div i j)) ∙ unsigned_abs-mul (int_div i j) j ∙ ap (λ n. n * unsigned_abs j) (abs_quot i j))) (div-mul-le_self (unsigned_abs i) (unsigned_abs j));
}

-- ---- what is left

rem_sign : (i j : ℤ) → (int_rem i j ≡ pos 0) ⊎ SameSign (int_rem i j) i
rem_sign (pos a) j = go (a % unsigned_abs j) refl
  where
    go : (k : ℕ) → a % unsigned_abs j ≡ k → (pos k ≡ pos 0) ⊎ SameSign (pos k) (pos a)
    go zero e = inl refl
    go (suc k) e = let above : 0 < a = omega (arith, e, div-add-mod' a (unsigned_abs j)) in inr (inl (omega (arith, ints), omega (arith, ints, above)))
rem_sign (negsuc a) j = go (suc a % unsigned_abs j)
  where
    go : (k : ℕ) → (neg_ℤ (pos k) ≡ pos 0) ⊎ SameSign (neg_ℤ (pos k)) (negsuc a)
    go zero = inl refl
    go (suc k) = inr (inr (omega (arith, ints), omega (arith, ints)))

remainder_leaves : (i j : ℤ) → 0 < unsigned_abs j → Leaves i j i (int_rem i j)
remainder_leaves i j some = record { multiple = (int_div i j, whole_of i j); less = rem_below i j some; sign = rem_sign i j }

is_zero_of : (z : ℤ) → is_zero z ≡ true → z ≡ pos 0
is_zero_of z e = (Decides-int_eq z (pos 0)).0 e

not_zero_of : (z : ℤ) → is_zero z ≡ false → z ≢ pos 0
not_zero_of z e is = true_false (sym ((Decides-int_eq z (pos 0)).1 is) ∙ e)

below_of : (z : ℤ) → is_negative z ≡ true → z <ℤ pos 0
below_of z e = omega (arith, ints, e)

above_of : (z : ℤ) → is_negative z ≡ false → z ≢ pos 0 → pos 0 <ℤ z
above_of (pos zero) e other = absurd (other refl)
above_of (pos (suc n)) e other = omega (arith, ints)
above_of (negsuc n) e other = absurd (omega (arith, ints, e))

none_of : (z : ℤ) → 0 < unsigned_abs z → z ≢ pos 0
none_of z some e = absurd (omega (arith, some, ap unsigned_abs e))

abs_less : (z : ℤ) (n : ℕ) → z <ℤ pos n → neg_ℤ (pos n) <ℤ z → unsigned_abs z < n
abs_less (pos a) n h k = omega (arith, ints, h, k)
abs_less (negsuc a) n h k = omega (arith, ints, h, k)

-- one divisor more
more_is_less : (r j : ℤ) → r <ℤ pos 0 → pos 0 <ℤ j → unsigned_abs r < unsigned_abs j → (unsigned_abs (r +ℤ j) < unsigned_abs j) × (pos 0 <ℤ (r +ℤ j))
more_is_less (negsuc a) (pos b) h k l = (abs_less (negsuc a +ℤ pos b) b (omega (arith, ints, l)) (omega (arith, ints, l)), omega (arith, ints, l))
more_is_less (pos a) j h k l = absurd (omega (arith, ints, h))
more_is_less (negsuc a) (negsuc b) h k l = absurd (omega (arith, ints, k))

fewer_is_less : (r j : ℤ) → pos 0 <ℤ r → j <ℤ pos 0 → unsigned_abs r < unsigned_abs j → (unsigned_abs (r +ℤ j) < unsigned_abs j) × ((r +ℤ j) <ℤ pos 0)
fewer_is_less (pos a) (negsuc b) h k l = (abs_less (pos a +ℤ negsuc b) (suc b) (omega (arith, ints, l)) (omega (arith, ints, l, h)), omega (arith, ints, l))
fewer_is_less (negsuc a) j h k l = absurd (omega (arith, ints, h))
fewer_is_less (pos a) (pos b) h k l = absurd (omega (arith, ints, k))

less_one : (n : ℕ) → pos (suc n) -ℤ pos 1 ≡ pos n
less_one n = omega (arith, ints)

one_times_more : (j : ℤ) (n : ℕ) → j *ℤ pos n +ℤ j ≡ j *ℤ pos (suc n)
one_times_more (pos a) n = omega (arith, ints)
one_times_more (negsuc a) n = omega (arith, ints)

times_less : (j q : ℤ) → j *ℤ (q -ℤ pos 1) +ℤ j ≡ j *ℤ q
times_less (pos a) (pos zero) = omega (arith, ints)
times_less (pos a) (pos (suc n)) = ap (λ z. pos a *ℤ z +ℤ pos a) (less_one n) ∙ one_times_more (pos a) n
times_less (pos a) (negsuc n) = omega (arith, ints)
times_less (negsuc a) (pos zero) = omega (arith, ints)
times_less (negsuc a) (pos (suc n)) = ap (λ z. negsuc a *ℤ z +ℤ negsuc a) (less_one n) ∙ one_times_more (negsuc a) n
times_less (negsuc a) (negsuc n) = omega (arith, ints)

regrouped : (x r j : ℤ) → x +ℤ (r +ℤ j) ≡ (x +ℤ j) +ℤ r
regrouped x r j = omega (arith, ints)

one_more : (i j q r : ℤ) → i ≡ j *ℤ q +ℤ r → i ≡ j *ℤ (q -ℤ pos 1) +ℤ (r +ℤ j)
one_more i j q r e = e ∙ sym (regrouped (j *ℤ (q -ℤ pos 1)) r j ∙ ap (λ z. z +ℤ r) (times_less j q))

modulo_leaves : (i j : ℤ) → 0 < unsigned_abs j → Leaves i j j (modulo i j)
modulo_leaves i j some = go (is_zero r) (is_negative r) (is_negative j) refl refl refl
  where
    r : ℤ
    r = int_rem i j

    kept : (r ≡ pos 0) ⊎ SameSign r j → Leaves i j j r
    kept sign = record { multiple = (int_div i j, whole_of i j); less = rem_below i j some; sign = sign }

    moved : unsigned_abs (r +ℤ j) < unsigned_abs j → SameSign (r +ℤ j) j → Leaves i j j (r +ℤ j)
    moved less sign = record { multiple = (int_div i j -ℤ pos 1, one_more i j (int_div i j) r (whole_of i j)); less = less; sign = inr sign }

    up : r <ℤ pos 0 → pos 0 <ℤ j → Leaves i j j (r +ℤ j)
    up h k = let m = more_is_less r j h k (rem_below i j some) in moved m.0 (inl (m.1, k))

    down : pos 0 <ℤ r → j <ℤ pos 0 → Leaves i j j (r +ℤ j)
    down h k = let m = fewer_is_less r j h k (rem_below i j some) in moved m.0 (inr (m.1, k))

    go : (z a b : Bool) → is_zero r ≡ z → is_negative r ≡ a → is_negative j ≡ b → Leaves i j j (if z || is_same a b then r else r +ℤ j)
    go true a b e f g = kept (inl (is_zero_of r e))
    go false true true e f g = kept (inr (inr (below_of r f, below_of j g)))
    go false false false e f g = kept (inr (inl (above_of r f (not_zero_of r e), above_of j g (none_of j some))))
    go false true false e f g = up (below_of r f) (above_of j g (none_of j some))
    go false false true e f g = down (above_of r f (not_zero_of r e)) (below_of j g)

divided_of : (i j : ℤ) → 0 < unsigned_abs j → Divided i j (int_div i j) (int_rem i j) (modulo i j)
divided_of i j some = record { quotient = rounded_of i j some; remainder = remainder_leaves i j some; whole = whole_of i j; modulo = modulo_leaves i j some }

-- ---- the rows

word_neg : (n : ℕ) → n ≤ 9223372036854775808 → is_word (neg_ℤ (pos n)) ≡ true
word_neg zero le = refl
word_neg (suc n) le = lt-ltb n 9223372036854775808 (omega (arith, le))

quotient_word : (i j : ℤ) → is_word i ≡ true → (HasNoQuotient i j → ⊥) → is_word (int_div i j) ≡ true
quotient_word (pos a) (pos b) w some = lt-ltb (a / b) 9223372036854775808 (omega (arith, ltb-true a 9223372036854775808 w, div-le_self a b))
quotient_word (pos a) (negsuc b) w some = word_neg (a / suc b) (omega (arith, ltb-true a 9223372036854775808 w, div-le_self a (suc b)))
quotient_word (negsuc a) (pos b) w some = word_neg (suc a / b) (omega (arith, ltb-true a 9223372036854775808 w, div-le_self (suc a) b))
quotient_word (negsuc a) (negsuc zero) w some = go (eqb_tells a 9223372036854775807)
  where
    go : (((a == 9223372036854775807) ≡ true) × (a ≡ 9223372036854775807)) ⊎ (((a == 9223372036854775807) ≡ false) × (a ≢ 9223372036854775807)) → is_word (int_div (negsuc a) (negsuc zero)) ≡ true
    go (inl e) = absurd (some (inr (ap negsuc e.1, refl)))
    go (inr e) = lt-ltb (suc a / suc zero) 9223372036854775808 (omega (arith, ltb-true a 9223372036854775808 w, div-le_self (suc a) (suc zero), e.1))
quotient_word (negsuc a) (negsuc (suc b)) w some =
    let half : suc a / suc (suc b) * 2 ≤ suc a / suc (suc b) * suc (suc b) = mul-le-mul_left (suc a / suc (suc b)) (omega arith) in
    lt-ltb (suc a / suc (suc b)) 9223372036854775808 (omega (arith, ltb-true a 9223372036854775808 w, half, div-mul-le_self (suc a) (suc (suc b))))

divisor_counts : (i j : ℤ) → (HasNoQuotient i j → ⊥) → 0 < unsigned_abs j
divisor_counts i (pos zero) some = absurd (some (inl refl))
divisor_counts i (pos (suc n)) some = omega arith
divisor_counts i (negsuc n) some = omega arith

divisor_is_some : (i j : ℤ) → (HasNoQuotient i j → ⊥) → is_zero j ≡ false
divisor_is_some i j some = go (is_zero j) refl
  where
    go : (b : Bool) → is_zero j ≡ b → b ≡ false
    go true e = absurd (some (inl (is_zero_of j e)))
    go false e = refl

divides : (f : ℤ → ℤ → ℤ) (i j : ℤ) → is_word i ≡ true → (HasNoQuotient i j → ⊥) → dividing f i j ≡ Ok (f i j)
divides f i j w some =
    ap (λ b. if b then Err ops.Division else if is_word (int_div i j) then Ok (f i j) else Err ops.Division) (divisor_is_some i j some)
    ∙ ap (λ b. if b then Ok (f i j) else Err ops.Division) (quotient_word i j w some)

divides_not : (f : ℤ → ℤ → ℤ) (i j : ℤ) → HasNoQuotient i j → dividing f i j ≡ Err ops.Division
divides_not f i j (inl e) = ap (dividing f i) e
divides_not f i j (inr e) = ap (λ z. dividing f z j) e.0 ∙ ap (dividing f (negsuc 9223372036854775807)) e.1

pub rounded : DivisionsAreRounded
rounded i j stage s wi wj some = record {
  q = int_div i j;
  r = int_rem i j;
  m = modulo i j;
  divided = divided_of i j (divisor_counts i j some);
  quotient = answers int_div;
  remainder = answers int_rem;
  modulo = answers modulo;
}
  where
    answers : (f : ℤ → ℤ → ℤ) → perform_row first_order (arithmetic first_order (dividing f)) (value.Integer i ∷ value.Integer j ∷ []) stage s ≡ answers_integer (f i j) s
    answers f = quiet_arithmetic (dividing f) (value.Integer i ∷ value.Integer j ∷ []) i j (out.Value (value.Integer (f i j))) refl (sym (ap number_out (divides f i j wi some))) stage s

pub undefined : DivisionsAreUndefined
undefined i j stage s none = record { quotient = stops int_div; remainder = stops int_rem; modulo = stops modulo }
  where
    stops : (f : ℤ → ℤ → ℤ) → perform_row first_order (arithmetic first_order (dividing f)) (value.Integer i ∷ value.Integer j ∷ []) stage s ≡ Undefined ops.Division
    stops f = quiet_arithmetic (dividing f) (value.Integer i ∷ value.Integer j ∷ []) i j (out.Undefined ops.Division) refl (sym (ap number_out (divides_not f i j none))) stage s
