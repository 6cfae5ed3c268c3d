-- The primitives, a row each (R5RS 6.2.5 for `quotient`, `remainder` and `modulo`; two's complement of 64 bits for the
-- bitwise operations and the shifts; this project's own for all else).
--
-- Read `row kinds Quotient` as a row of a table: it takes two integers and gives an integer, at both stages; it is undefined with
-- the cause Division where the divisor is 0, or where the quotient has no 64 bits, and else its answer is the quotient,
-- rounded toward zero. What rows do is said in Acts.antt, and for records in Records.antt: `row kinds (Maker k)` is the row of
-- the maker of kind k of `kinds`. A row is wrong exactly where the number or the sorts of its operands are not those that it
-- takes.
use Rattle.std.specs.Prelude.{ℕ, ℤ, pos, negsuc, ◌/◌, ◌^◌, ◌+ℤ◌, ◌-ℤ◌, ◌*ℤ◌, List, [], ◌∷◌, Bool, true, false, not, ◌||◌, nat_eq, nat_lt, int_lt, int_div, int_rem, if◌then◌else◌, Option, Some, None, Result, Ok, Err}
use Rattle.std.specs.Ordering.{int_eq}
use Rattle.std.specs.Int.{w64, int_bit_and, int_bit_or, int_bit_xor, int_bit_not, int_shl, int_shr, cast_signed, cast_unsigned}
use Rattle.ps_base.specs.declared.faults.Op.{Op}
use Rattle.ps_base.specs.declared.faults.Op.TheVariants as ops
use Rattle.ps_base.specs.Numbers.{is_word}
use Rattle.ps_base.specs.declared.language.PrimName.{PrimName}
use Rattle.ps_base.specs.declared.language.PrimName.TheVariants as prims
use Rattle.byte_store.specs.declared.event.Event.{Event}
use Rattle.byte_store.specs.declared.event.Event.TheVariants as events
use Rattle.byte_store.specs.declared.pointer.Pointer.TheVariants.{Null}
use Rattle.byte_store.specs.Operations as store
use Rattle.byte_store.specs.Operations.{and_then, plus}
use Rattle.ps_prims.specs.declared.stages.Stage.{Stage}
use Rattle.ps_prims.specs.declared.stages.Stage.TheVariants.{Compile, Run}
use Rattle.ps_prims.specs.declared.stages.Stages.TheVariants.{Both, CompileOnly, RunOnly}
use Rattle.ps_types.specs.declared.types.RecordKind.{RecordKind}
use Rattle.ps_prims.specs.Sorts.{Integer, Boolean, Char, Unit', Address, Text, Vector, Any, Values, applied, answered}
pub use Rattle.ps_prims.specs.Acts.{Scene, Done, Act, unseen, answers, gives, finds, changes, makes, fixes, byte_of, reads, writes, vector_of, appended, equal_texts, Row}
use Rattle.ps_prims.specs.Records.{maker, predicate, accessor, modifier}

-- ---- numbers

-- the integer, or a cause where it has no 64 bits
abbrev pub fitting : Op → ℤ → Result ℤ Op
fitting op i = if is_word i then Ok i else Err op

abbrev pub is_zero : ℤ → Bool
is_zero i = int_eq i (pos 0)

-- a division is undefined by 0, and where its quotient has no 64 bits
abbrev pub dividing : (ℤ → ℤ → ℤ) → ℤ → ℤ → Result ℤ Op
dividing f i j = if is_zero j then Err ops.Division else if is_word (int_div i j) then Ok (f i j) else Err ops.Division

abbrev pub is_negative : ℤ → Bool
is_negative i = int_lt i (pos 0)

abbrev pub is_same : Bool → Bool → Bool
is_same true b = b
is_same false b = not b

-- the remainder with the sign of the divisor
abbrev pub modulo : ℤ → ℤ → ℤ
modulo i j =
    if is_zero (int_rem i j) || is_same (is_negative (int_rem i j)) (is_negative j) then int_rem i j else int_rem i j +ℤ j

-- a shift by a count from 0 to 63
abbrev pub shifting : (ℤ → ℕ → ℤ) → ℤ → ℤ → Result ℤ Op
shifting f i (pos k) = if nat_lt k 64 then Ok (f i k) else Err ops.Shift
shifting f i (negsuc k) = Err ops.Shift

-- a shift to the right where zeros come in
abbrev pub logical_shr : ℤ → ℕ → ℤ
logical_shr i k = cast_signed w64 (cast_unsigned w64 i / 2 ^ k)

-- the code of a character
abbrev pub char_of : ℤ → Result ℕ Op
char_of (pos n) = if nat_lt n 256 then Ok n else Err ops.Char
char_of (negsuc n) = Err ops.Char

-- ---- the table

module _ {V : Type 0} (values : Values V) where
  -- two integers to an integer
  abbrev pub arithmetic : (ℤ → ℤ → Result ℤ Op) → Row V
  arithmetic f = record { operands = Integer ∷ Integer ∷ []; answer = Integer; stages = Both; does = λ i j. answers (f i j) }

  -- two integers to a boolean
  abbrev pub comparison : (ℤ → ℤ → Bool) → Row V
  comparison f = record { operands = Integer ∷ Integer ∷ []; answer = Boolean; stages = Both; does = λ i j. gives (f i j) }

  -- an integer to a boolean
  abbrev pub test : (ℤ → Bool) → Row V
  test f = record { operands = Integer ∷ []; answer = Boolean; stages = Both; does = λ i. gives (f i) }

  -- nothing to unit
  abbrev pub unspecific : Row V
  unspecific = record { operands = []; answer = Unit'; stages = Both; does = gives tt }

  -- the row of a primitive, where these are the kinds of records
  abbrev pub row : List RecordKind → PrimName → Row V
  row kinds prims.Add = arithmetic (λ i j. fitting ops.Overflow (i +ℤ j))
  row kinds prims.Subtract = arithmetic (λ i j. fitting ops.Overflow (i -ℤ j))
  row kinds prims.Multiply = arithmetic (λ i j. fitting ops.Overflow (i *ℤ j))
  row kinds prims.Quotient = arithmetic (dividing int_div)
  row kinds prims.Remainder = arithmetic (dividing int_rem)
  row kinds prims.Modulo = arithmetic (dividing modulo)
  row kinds prims.Equal = comparison int_eq
  row kinds prims.Less = comparison int_lt
  row kinds prims.Greater = comparison (λ i j. int_lt j i)
  row kinds prims.LessOrEqual = comparison (λ i j. not (int_lt j i))
  row kinds prims.GreaterOrEqual = comparison (λ i j. not (int_lt i j))
  row kinds prims.IsZero = test is_zero
  row kinds prims.IsPositive = test (λ i. int_lt (pos 0) i)
  row kinds prims.IsNegative = test is_negative
  row kinds prims.BitwiseAnd = arithmetic (λ i j. Ok (int_bit_and w64 i j))
  row kinds prims.BitwiseOr = arithmetic (λ i j. Ok (int_bit_or w64 i j))
  row kinds prims.BitwiseXor = arithmetic (λ i j. Ok (int_bit_xor w64 i j))
  row kinds prims.BitwiseNot = record { operands = Integer ∷ []; answer = Integer; stages = Both; does = λ i. gives (int_bit_not w64 i) }
  row kinds prims.ShiftLeft = arithmetic (shifting (λ i k. int_shl w64 i k))
  row kinds prims.ArithmeticShiftRight = arithmetic (shifting int_shr)
  row kinds prims.LogicalShiftRight = arithmetic (shifting logical_shr)
  row kinds prims.Not = record { operands = Boolean ∷ []; answer = Boolean; stages = Both; does = λ b. gives (not b) }
  row kinds prims.BooleanEqual = record { operands = Boolean ∷ Boolean ∷ []; answer = Boolean; stages = Both; does = λ a b. gives (is_same a b) }
  row kinds prims.CharEqual = record { operands = Char ∷ Char ∷ []; answer = Boolean; stages = Both; does = λ c d. gives (nat_eq c d) }
  row kinds prims.CharLess = record { operands = Char ∷ Char ∷ []; answer = Boolean; stages = Both; does = λ c d. gives (nat_lt c d) }
  row kinds prims.CharToAscii = record { operands = Char ∷ []; answer = Integer; stages = Both; does = λ c. gives (pos c) }
  row kinds prims.AsciiToChar = record { operands = Integer ∷ []; answer = Char; stages = Both; does = λ i. answers (char_of i) }
  row kinds prims.Unspecific = unspecific
  row kinds prims.StringLength = record { operands = Text ∷ []; answer = Integer; stages = Both; does = λ p. finds (λ m. store.text_length m p) (λ n. events.Length p n ∷ []) }
  row kinds prims.StringRef = record { operands = Text ∷ Integer ∷ []; answer = Char; stages = Both; does = λ p k. finds (λ m. and_then (store.text_at m p k) char_of) (λ c. events.Load (plus p k) (pos c) ∷ []) }
  row kinds prims.MakeVector = record { operands = Integer ∷ Any ∷ []; answer = Vector; stages = Both; does = λ n x. vector_of values.word n x }
  row kinds prims.VectorRef = record { operands = Vector ∷ Integer ∷ []; answer = Any; stages = Both; does = λ p k. finds (λ m. store.get m p k) (λ x. events.Get (plus p k) (values.word x) ∷ []) }
  row kinds prims.VectorSet = record { operands = Vector ∷ Integer ∷ Any ∷ []; answer = Unit'; stages = Both; does = λ p k x. changes (λ m. store.put m p k x) (events.Put (plus p k) (values.word x)) }
  row kinds prims.IsNullVector = record { operands = Vector ∷ []; answer = Boolean; stages = Both; does = λ p. finds (λ m. store.is_null m p) unseen }
  row kinds prims.DeallocateVector = record { operands = Vector ∷ []; answer = Unit'; stages = RunOnly; does = λ p. changes (λ m. store.release m p) (events.Free p) }
  row kinds prims.ReadByte = record { operands = []; answer = Integer; stages = RunOnly; does = reads }
  row kinds prims.WriteByte = record { operands = Integer ∷ []; answer = Unit'; stages = RunOnly; does = λ i. writes i }
  row kinds prims.NullAddress = record { operands = []; answer = Address; stages = Both; does = gives Null }
  row kinds prims.IsNullAddress = record { operands = Address ∷ []; answer = Boolean; stages = Both; does = λ p. finds (λ m. store.is_null m p) unseen }
  row kinds prims.AllocateMemory = record { operands = Integer ∷ []; answer = Address; stages = RunOnly; does = λ n. makes (λ m w. store.allocate m w n) (λ p. events.Allocate n p) }
  row kinds prims.DeallocateMemory = record { operands = Address ∷ []; answer = Unit'; stages = RunOnly; does = λ p. changes (λ m. store.release m p) (events.Free p) }
  row kinds prims.UnsignedByteRef = record { operands = Address ∷ []; answer = Integer; stages = RunOnly; does = λ p. finds (λ m. store.load m p) (λ n. events.Load p n ∷ []) }
  row kinds prims.UnsignedByteSet = record { operands = Address ∷ Integer ∷ []; answer = Unit'; stages = RunOnly; does = λ p n. changes (λ m. store.set_byte m p n) (events.Keep p n) }
  row kinds prims.WordRef = record { operands = Address ∷ []; answer = Integer; stages = RunOnly; does = λ p. finds (λ m. store.load_word m p) (λ n. events.LoadWord p n ∷ []) }
  row kinds prims.WordSet = record { operands = Address ∷ Integer ∷ []; answer = Unit'; stages = RunOnly; does = λ p n. changes (λ m. store.set_word m p n) (events.KeepWord p n) }
  row kinds prims.AddressAdd = record { operands = Address ∷ Integer ∷ []; answer = Address; stages = RunOnly; does = λ p k. finds (λ m. store.moved m p k) unseen }
  row kinds prims.AddressDifference = record { operands = Address ∷ Address ∷ []; answer = Integer; stages = RunOnly; does = λ p q. finds (λ m. store.difference m p q) unseen }
  row kinds prims.AddressEqual = record { operands = Address ∷ Address ∷ []; answer = Boolean; stages = RunOnly; does = λ p q. finds (λ m. store.same m p q) unseen }
  row kinds prims.AddressLess = record { operands = Address ∷ Address ∷ []; answer = Boolean; stages = RunOnly; does = λ p q. finds (λ m. store.before m p q) unseen }
  row kinds prims.StringAppend = record { operands = Text ∷ Text ∷ []; answer = Text; stages = CompileOnly; does = λ p q. appended p q }
  row kinds prims.StringEqual = record { operands = Text ∷ Text ∷ []; answer = Boolean; stages = CompileOnly; does = λ p q. finds (λ m. equal_texts m p q) unseen }
  row kinds prims.VectorLength = record { operands = Vector ∷ []; answer = Integer; stages = CompileOnly; does = λ p. finds (λ m. store.cell_count m p) unseen }
  row kinds (prims.Maker k) = maker values kinds k
  row kinds (prims.Predicate k) = predicate k
  row kinds (prims.Accessor k f) = accessor values k f
  row kinds (prims.Modifier k f) = modifier values kinds k f

-- ---- performing

-- what came of a primitive
pub data Performed (V : Type 0) : Type 0 where
  Answers : (done : Done V V) → Performed V
  Undefined : (op : Op) → Performed V
  Wrong : Performed V

-- at compile time nothing is seen from outside
abbrev pub seen_at : Stage → List Event → List Event
seen_at Compile es = []
seen_at Run es = es

module _ {V X : Type 0} where
  abbrev pub performed : (X → V) → Stage → Option (Result (Done V X) Op) → Performed V
  performed of stage None = Wrong
  performed of stage (Some (Err op)) = Undefined op
  performed of stage (Some (Ok d)) = Answers (record { answer = of d.answer; memory = d.memory; world = d.world; events = seen_at stage d.events })

  abbrev pub at_scene : Stage → Scene V → Option (Act V X) → Option (Result (Done V X) Op)
  at_scene stage s None = None
  at_scene stage s (Some act) = Some (act stage s)

module _ {V : Type 0} (values : Values V) where
  abbrev pub perform_row : Row V → List V → Stage → Scene V → Performed V
  perform_row r vs stage s = performed (answered values r.answer) stage (at_scene stage s (applied values r.operands r.does vs))

  -- the primitive of this name, at these operands, where these are the kinds of records
  abbrev pub perform : List RecordKind → PrimName → List V → Stage → Scene V → Performed V
  perform kinds p vs stage s = perform_row (row values kinds p) vs stage s
