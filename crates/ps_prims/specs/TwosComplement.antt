-- Two's complement of 64 bits, and what the rows of the bitwise operations and of the shifts have to do with it.
--
-- C99 6.2.6.2: the sign bit has the value -(2^N), and each value bit has the value that it has in an unsigned integer. So bits
-- 0 to 62 are worth 2^0 up to 2^62, and bit 63 is worth -2^63. Bits are got back by division alone: bit i of an integer, also
-- of one below 0, is whether it is odd after it was divided by 2^i and rounded down.
--
-- Read `at_integers BitwiseAnd n1 n2 .. ≡ answers_integer (integer_of (λ i. bit n1 i && bit n2 i)) s` as: the row answers the
-- integer whose bit i is set where those of both operands are.
use Rattle.std.specs.Prelude.{◌≡◌, ℕ, ℤ, zero, suc, pos, ◌+◌, ◌-◌, ◌%◌, ◌^◌, ◌<◌, ◌==◌, ◌+ℤ◌, ◌-ℤ◌, ◌*ℤ◌, unsigned_abs, nat_lt, Bool, true, false, not, ◌&&◌, ◌||◌, if◌then◌else◌, [], ◌∷◌}
use Rattle.std.specs.Int.{int_div_euclid}
use Rattle.ps_base.specs.declared.language.PrimName.{PrimName}
use Rattle.ps_base.specs.declared.language.PrimName.TheVariants as prims
use Rattle.ps_base.specs.Numbers.{is_word}
use Rattle.byte_store.specs.declared.pointer.Value.{Value}
use Rattle.byte_store.specs.declared.pointer.Value.TheVariants as value
use Rattle.ps_prims.specs.declared.stages.Stage.{Stage}
use Rattle.ps_prims.specs.Sorts.{first_order}
use Rattle.ps_prims.specs.Rows.{Scene, Performed, perform}
use Rattle.ps_prims.specs.Division.{at_integers, answers_integer}

-- ---- bits

abbrev pub is_odd : ℤ → Bool
is_odd z = unsigned_abs z % 2 == 1

-- bit i of an integer: whether it is odd, divided by 2^i and rounded down
abbrev pub bit : ℤ → ℕ → Bool
bit n i = is_odd (int_div_euclid n (pos (2 ^ i)))

-- what bit i is worth, where it is set
abbrev pub digit : Bool → ℕ → ℕ
digit b i = if b then 2 ^ i else 0

-- what bits 0 to k - 1 are worth
unfoldable pub worth : (ℕ → Bool) → ℕ → ℕ
worth bits zero = 0
worth bits (suc k) = worth bits k + digit (bits k) k

-- the integer of 64 bits
abbrev pub integer_of : (ℕ → Bool) → ℤ
integer_of bits = pos (worth bits 63) -ℤ pos (digit (bits 63) 63)

-- Each integer of 64 bits is that of its bits.
abbrev pub BitsMakeTheInteger : Type 0
BitsMakeTheInteger = (n : ℤ) → is_word n ≡ true → n ≡ integer_of (bit n)

-- No two integers of 64 bits have the same.
abbrev pub BitsTellTheInteger : Type 0
BitsTellTheInteger =
    (n1 n2 : ℤ) → is_word n1 ≡ true → is_word n2 ≡ true → ((i : ℕ) → i < 64 → bit n1 i ≡ bit n2 i) → n1 ≡ n2

-- Whatever 64 bits are chosen, their integer has 64 bits: these.
pub record Has (bits : ℕ → Bool) (z : ℤ) : Type 0 where
  pub word : is_word z ≡ true
  pub each : (i : ℕ) → i < 64 → bit z i ≡ bits i

abbrev pub IntegersHaveTheirBits : Type 0
IntegersHaveTheirBits = (bits : ℕ → Bool) → Has bits (integer_of bits)

-- ---- the bitwise operations

-- one of the two, and not both
abbrev pub unequal : Bool → Bool → Bool
unequal true b = not b
unequal false b = b

-- the row of this name, at one integer; the kinds of records have nothing to do with it
abbrev pub at_integer : PrimName → ℤ → Stage → Scene Value → Performed Value
at_integer p n stage s = perform first_order [] p (value.Integer n ∷ []) stage s

pub record RowsActOnBits (n1 n2 : ℤ) (stage : Stage) (s : Scene Value) : Type 0 where
  pub both : at_integers prims.BitwiseAnd n1 n2 stage s ≡ answers_integer (integer_of (λ i. bit n1 i && bit n2 i)) s
  pub any : at_integers prims.BitwiseOr n1 n2 stage s ≡ answers_integer (integer_of (λ i. bit n1 i || bit n2 i)) s
  pub unequal_ones : at_integers prims.BitwiseXor n1 n2 stage s ≡ answers_integer (integer_of (λ i. unequal (bit n1 i) (bit n2 i))) s

abbrev pub BitsAreCombined : Type 0
BitsAreCombined = (n1 n2 : ℤ) (stage : Stage) (s : Scene Value) → is_word n1 ≡ true → is_word n2 ≡ true → RowsActOnBits n1 n2 stage s

abbrev pub BitsAreTurned : Type 0
BitsAreTurned =
    (n : ℤ) (stage : Stage) (s : Scene Value) →
    is_word n ≡ true → at_integer prims.BitwiseNot n stage s ≡ answers_integer (integer_of (λ i. not (bit n i))) s

-- ---- the shifts

-- the bits, k places up: the lowest k are not set, and what went past bit 63 is lost
abbrev pub up : ℕ → (ℕ → Bool) → ℕ → Bool
up k bits i = if nat_lt i k then false else bits (i - k)

-- the bits, k places down: what went past bit 0 is lost, and the highest k are this one
abbrev pub down : ℕ → Bool → (ℕ → Bool) → ℕ → Bool
down k highest bits i = if nat_lt (i + k) 64 then bits (i + k) else highest

-- a and b differ by a multiple of 2^64
pub record Congruent (a b : ℤ) : Type 0 where
  pub times : ℤ
  pub differ : a ≡ b +ℤ times *ℤ pos (2 ^ 64)

pub record RowsMoveBits (n : ℤ) (k : ℕ) (stage : Stage) (s : Scene Value) : Type 0 where
  pub left : at_integers prims.ShiftLeft n (pos k) stage s ≡ answers_integer (integer_of (up k (bit n))) s
  pub multiple : Congruent (n *ℤ pos (2 ^ k)) (integer_of (up k (bit n)))
  pub arithmetic : at_integers prims.ArithmeticShiftRight n (pos k) stage s ≡ answers_integer (integer_of (down k (bit n 63) (bit n))) s
  pub logical : at_integers prims.LogicalShiftRight n (pos k) stage s ≡ answers_integer (integer_of (down k false (bit n))) s

abbrev pub BitsAreMoved : Type 0
BitsAreMoved = (n : ℤ) (k : ℕ) (stage : Stage) (s : Scene Value) → is_word n ≡ true → k < 64 → RowsMoveBits n k stage s
