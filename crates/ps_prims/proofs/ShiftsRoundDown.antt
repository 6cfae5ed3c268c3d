-- The rows of the shifts multiply and divide by powers of 2.
-- For: shifts_round_down
use Rattle.std.proofs.Common.{◌≡◌, ℕ, ◌/◌, ◌^◌, ◌<◌, ℤ, pos, negsuc, ◌+ℤ◌, ◌*ℤ◌, ◌<ℤ◌, ◌≤ℤ◌, Bool, if◌then◌else◌, [], ◌∷◌, Ok, Err, ◌⊎◌, inl, inr, refl, sym, ap, arith, div-add-mod', div-mul-le_self, mod-lt, pow_pos, lt-ltb, le-ltb}
use Rattle.std.specs.Int.{w64, int_shl, int_shr}
use Rattle.std.proofs.lemmas.Int.{ints}
use Rattle.ps_base.specs.declared.faults.Op.TheVariants as ops
use Rattle.byte_store.specs.declared.pointer.Value.TheVariants as value
use Rattle.ps_prims.specs.declared.outcome.PrimOut.TheVariants as out
use Rattle.ps_prims.specs.Sorts.{first_order}
use Rattle.ps_prims.specs.Rows.{Undefined, arithmetic, logical_shr, perform_row, shifting}
use Rattle.ps_prims.specs.Inside.{number_out}
use Rattle.ps_prims.specs.Shifting.{RoundedDown, ShiftsRoundDown, ShiftsAreUndefined}
use Rattle.ps_prims.proofs.QuietRowsShowNothing.{quiet_arithmetic}

down_above : (a m : ℕ) → 0 < m → ((pos (a / m) *ℤ pos m) ≤ℤ pos a) × (pos a <ℤ ((pos (a / m) *ℤ pos m) +ℤ pos m))
down_above a m some = (omega (arith, ints, div-mul-le_self a m), omega (arith, ints, div-add-mod' a m, mod-lt a some))

down_below : (a m : ℕ) → 0 < m → ((negsuc (a / m) *ℤ pos m) ≤ℤ negsuc a) × (negsuc a <ℤ ((negsuc (a / m) *ℤ pos m) +ℤ pos m))
down_below a m some = (omega (arith, ints, div-add-mod' a m, mod-lt a some), omega (arith, ints, div-mul-le_self a m))

rounded_down : (n : ℤ) (k : ℕ) → RoundedDown n k (int_shr n k)
rounded_down (pos a) k = let h = down_above a (2 ^ k) (pow_pos k) in record { not_above = h.0; greatest = h.1 }
rounded_down (negsuc a) k = let h = down_below a (2 ^ k) (pow_pos k) in record { not_above = h.0; greatest = h.1 }

pub round_down : ShiftsRoundDown
round_down n k stage s lt = record {
  q = int_shr n k;
  rounded = rounded_down n k;
  answer = quiet_arithmetic (shifting int_shr) (value.Integer n ∷ value.Integer (pos k) ∷ []) n (pos k) (out.Value (value.Integer (int_shr n k))) refl (sym (ap (λ (b : Bool). number_out (if b then Ok (int_shr n k) else Err ops.Shift)) (lt-ltb k 64 lt))) stage s;
}

shifts_not : (f : ℤ → ℕ → ℤ) (n c : ℤ) → (c <ℤ pos 0) ⊎ (pos 64 ≤ℤ c) → shifting f n c ≡ Err ops.Shift
shifts_not f n (pos k) (inl lt) = absurd (omega (arith, ints, lt))
shifts_not f n (pos k) (inr le) = ap (λ (b : Bool). if b then Ok (f n k) else Err ops.Shift) (le-ltb k 64 (omega (arith, ints, le)))
shifts_not f n (negsuc k) none = refl

pub undefined : ShiftsAreUndefined
undefined n c stage s none = record { left = stops (λ i k. int_shl w64 i k); arithmetic = stops int_shr; logical = stops logical_shr }
  where
    stops : (f : ℤ → ℕ → ℤ) → perform_row first_order (arithmetic first_order (shifting f)) (value.Integer n ∷ value.Integer c ∷ []) stage s ≡ Undefined ops.Shift
    stops f = quiet_arithmetic (shifting f) (value.Integer n ∷ value.Integer c ∷ []) n c (out.Undefined ops.Shift) refl (sym (ap number_out (shifts_not f n c none))) stage s
