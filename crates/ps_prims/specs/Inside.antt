-- What the parts of `perform` have to do with the rows. No public clause cites this file.
use Rattle.std.specs.Prelude.{ℕ, ℤ, pos, ◌+ℤ◌, ◌-ℤ◌, ◌*ℤ◌, Bool, not, int_lt, int_div, int_rem, Result, Ok, Err, List, [], ◌∷◌, ◌++◌, ◌≡◌, length, map, replicate, negsuc, Some, if◌then◌else◌}
use Rattle.std.specs.Ordering.{int_eq}
use Rattle.std.specs.Int.{w64, int_bit_and, int_bit_or, int_bit_xor, int_shl, int_shr}
use Rattle.ps_base.specs.declared.faults.Op.{Op}
use Rattle.ps_base.specs.declared.faults.Op.TheVariants as ops
use Rattle.ps_prims.specs.declared.numbers.Arithmetic.{Arithmetic}
use Rattle.ps_prims.specs.declared.numbers.Arithmetic.TheVariants.{Add, Subtract, Multiply, And, Or, Xor}
use Rattle.ps_prims.specs.declared.numbers.Division.{Division}
use Rattle.ps_prims.specs.declared.numbers.Division.TheVariants.{Quotient, Remainder, Modulo}
use Rattle.ps_prims.specs.declared.numbers.Shift.{Shift}
use Rattle.ps_prims.specs.declared.numbers.Shift.TheVariants.{Left, ArithmeticRight, LogicalRight}
use Rattle.ps_prims.specs.declared.numbers.Comparison.{Comparison}
use Rattle.ps_prims.specs.declared.numbers.Comparison.TheVariants.{Equal, Less, Greater, LessOrEqual, GreaterOrEqual}
use Rattle.ps_prims.specs.declared.numbers.Sign.{Sign}
use Rattle.ps_prims.specs.declared.numbers.Sign.TheVariants.{Zero, Positive, Negative}
use Rattle.byte_store.specs.declared.event.Event.{Event}
use Rattle.byte_store.specs.declared.pointer.Value.{Value}
use Rattle.byte_store.specs.declared.pointer.Value.TheVariants as value
use Rattle.ps_prims.specs.declared.outcome.PrimOut.{PrimOut}
use Rattle.ps_prims.specs.declared.outcome.PrimOut.TheVariants as out
use Rattle.byte_store.specs.Blocks.{Memory, Block, Bytes, Cells, next_number}
use Rattle.byte_store.specs.Operations.{Allocation, and_then, fixed, is_size, text}
use Rattle.byte_store.specs.Worlds.{Surroundings, next_grant}
use Rattle.byte_store.specs.declared.pointer.Pointer.{Pointer}
use Rattle.byte_store.specs.declared.pointer.Pointer.TheVariants.{Null, At}
use Rattle.byte_store.specs.declared.pointer.Base.TheVariants.{Fixed, Made}
use Rattle.ps_prims.specs.Needs.{Events, Takes}
use Rattle.ps_prims.specs.Performing.{State}
use Rattle.ps_prims.specs.declared.stages.Stage.{Stage}
use Rattle.ps_prims.specs.Rows.{Done, seen_at, fitting, dividing, modulo, shifting, logical_shr, is_zero, is_negative}

abbrev pub calculated : Arithmetic → ℤ → ℤ → Result ℤ Op
calculated Add i j = fitting ops.Overflow (i +ℤ j)
calculated Subtract i j = fitting ops.Overflow (i -ℤ j)
calculated Multiply i j = fitting ops.Overflow (i *ℤ j)
calculated And i j = Ok (int_bit_and w64 i j)
calculated Or i j = Ok (int_bit_or w64 i j)
calculated Xor i j = Ok (int_bit_xor w64 i j)

abbrev pub divided : Division → ℤ → ℤ → Result ℤ Op
divided Quotient = dividing int_div
divided Remainder = dividing int_rem
divided Modulo = dividing modulo

abbrev pub shifted : Shift → ℤ → ℤ → Result ℤ Op
shifted Left = shifting (λ i k. int_shl w64 i k)
shifted ArithmeticRight = shifting int_shr
shifted LogicalRight = shifting logical_shr

abbrev pub compared : Comparison → ℤ → ℤ → Bool
compared Equal i j = int_eq i j
compared Less i j = int_lt i j
compared Greater i j = int_lt j i
compared LessOrEqual i j = not (int_lt j i)
compared GreaterOrEqual i j = not (int_lt i j)

abbrev pub tested : Sign → ℤ → Bool
tested Zero i = is_zero i
tested Positive i = int_lt (pos 0) i
tested Negative i = is_negative i

-- what comes of a number, or of the cause for which there is none
abbrev pub number_out : Result ℤ Op → PrimOut
number_out (Ok n) = out.Value (value.Integer n)
number_out (Err op) = out.Undefined op

-- the same of a character
abbrev pub char_out : Result ℕ Op → PrimOut
char_out (Ok c) = out.Value (value.Char c)
char_out (Err op) = out.Undefined op

-- ---- what is seen from outside

-- the answer is this one and these events were seen, or memory for them ran out
abbrev pub Tells : PrimOut → Value → List Event → Stage → List Event → List Event → Type 0
Tells (out.Value x) v es stage old new = (x ≡ v) × (new ≡ old ++ seen_at stage es)
Tells (out.Undefined op) v es stage old new = ⊥
Tells out.Wrong v es stage old new = ⊥
Tells out.NoMemory v es stage old new = Takes Events stage × (new ≡ old)

-- what was found is the answer, and its events were seen; or there is a cause, or memory for them ran out
abbrev pub Found : {X : Type 0} → PrimOut → Result X Op → (X → Value) → (X → List Event) → Stage → List Event → List Event → Type 0
Found {X} (out.Value v) a of tell stage old new = (x : X) × (a ≡ Ok x) × (v ≡ of x) × (new ≡ old ++ seen_at stage (tell x))
Found (out.Undefined op) a of tell stage old new = (a ≡ Err op) × (new ≡ old)
Found out.Wrong a of tell stage old new = ⊥
Found out.NoMemory a of tell stage old new = Takes Events stage × (new ≡ old)

-- the same of what is not seen from outside
abbrev pub FoundQuietly : {X : Type 0} → PrimOut → Result X Op → (X → Value) → Type 0
FoundQuietly {X} (out.Value v) a of = (x : X) × (a ≡ Ok x) × (v ≡ of x)
FoundQuietly (out.Undefined op) a of = a ≡ Err op
FoundQuietly out.Wrong a of = ⊥
FoundQuietly out.NoMemory a of = ⊥

-- the same of what is found in copies, for which memory may run out
abbrev pub FoundInCopies : {X : Type 0} → PrimOut → Result X Op → (X → Value) → Type 0
FoundInCopies {X} (out.Value v) a of = (x : X) × (a ≡ Ok x) × (v ≡ of x)
FoundInCopies (out.Undefined op) a of = a ≡ Err op
FoundInCopies out.Wrong a of = ⊥
FoundInCopies out.NoMemory a of = Unit {0}

-- the memory was changed, and this was seen; or there is a cause, or memory ran out
abbrev pub Changed : PrimOut → Result (Memory Value) Op → Event → Stage → Memory Value → Memory Value → List Event → List Event → Type 0
Changed (out.Value v) answer event stage m m' old new = (v ≡ value.Unit) × (answer ≡ Ok m') × (new ≡ old ++ seen_at stage (event ∷ []))
Changed (out.Undefined op) answer event stage m m' old new = (answer ≡ Err op) × (m' ≡ m) × (new ≡ old)
Changed out.Wrong answer event stage m m' old new = ⊥
Changed out.NoMemory answer event stage m m' old new = Takes Events stage × (m' ≡ m) × (new ≡ old)

-- where the next made block begins, or null where it is refused
abbrev pub next_pointer : {C : Type 0} → Memory C → Surroundings → Pointer
next_pointer m w = if next_grant w.grants then At (Made (length m.made)) (pos 0) else Null

-- a block was made, or its allocation was refused, and this was seen; or there is a cause, or memory ran out
abbrev pub Makes : PrimOut → (Pointer → Value) → Result (Allocation Value) Op → (Pointer → Event) → State → State → Type 0
Makes (out.Value v) of answer event old new =
    (p : Pointer)
    × (v ≡ of p)
    × (answer ≡ Ok (record { memory = new.memory; world = new.world; pointer = p }))
    × (new.events ≡ old.events ++ event p ∷ [])
Makes (out.Undefined op) of answer event old new = (answer ≡ Err op) × (new ≡ old)
Makes out.Wrong of answer event old new = ⊥
Makes out.NoMemory of answer event old new = new ≡ old

-- what was done is the act's, with its answer as a value; or there is its cause, or memory ran out
abbrev pub Acts : {X : Type 0} → PrimOut → (X → Value) → Stage → Result (Done Value X) Op → State → State → Type 0
Acts {X} (out.Value v) of stage r old new =
    (x : X)
    × (es : List Event)
    × (r ≡ Ok (record { answer = x; memory = new.memory; world = new.world; events = es }))
    × (v ≡ of x)
    × (new.events ≡ old.events ++ seen_at stage es)
Acts (out.Undefined op) of stage r old new = (r ≡ Err op) × (new ≡ old)
Acts out.Wrong of stage r old new = ⊥
Acts out.NoMemory of stage r old new = new ≡ old

-- a fixed block was added, the next one, which is answered; or there is a cause, or memory ran out
abbrev pub Fixes : PrimOut → (Pointer → Value) → Result (Block Value) Op → Memory Value → Memory Value → Type 0
Fixes (out.Value v) of r m m' =
    (b : Block Value) × (r ≡ Ok b) × (v ≡ of (At (Fixed (next_number m.fixed)) (pos 0))) × (m' ≡ fixed m (next_number m.fixed) b)
Fixes (out.Undefined op) of r m m' = (r ≡ Err op) × (m' ≡ m)
Fixes out.Wrong of r m m' = ⊥
Fixes out.NoMemory of r m m' = m' ≡ m

-- the block of a vector, and that of a string of two
abbrev pub vector_block : ℤ → Value → Result (Block Value) Op
vector_block (pos n) x = if is_size n then Ok (Cells (replicate n (Some x))) else Err ops.Size
vector_block (negsuc n) x = Err ops.Size

abbrev pub string_block : Memory Value → Pointer → Pointer → Result (Block Value) Op
string_block m p q = and_then (text m p) (λ a. and_then (text m q) (λ b. Ok (Bytes (map Some (a ++ b ++ 0 ∷ [])))))
