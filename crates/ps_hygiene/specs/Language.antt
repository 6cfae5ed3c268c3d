-- The names of the language, and what they mean (R5RS 4, 6; Pre-Scheme). A name has one binding in all built-in structures.
use Rattle.std.specs.Prelude.{ℕ, List, [], ◌∷◌, ◌++◌, codes}
use Rattle.ps_base.specs.declared.language.Core.TheVariants as core
use Rattle.ps_base.specs.declared.language.PrimName.TheVariants as prim
use Rattle.ps_pattern.specs.declared.binding.Binding.{Binding}
use Rattle.ps_pattern.specs.declared.binding.Binding.TheVariants as b

-- a name of the language, and what it means
pub record Word : Type 0 where
  pub text : List ℕ
  pub binding : Binding

infixl 10 ◌means◌
abbrev pub ◌means◌ : List ℕ → Binding → Word
text means binding = record { text = text; binding = binding }

-- the special forms but `define-record-type`
abbrev pub form_words : List Word
form_words = (codes "define" means b.Core core.Define) ∷ (codes "define-syntax" means b.Core core.DefineSyntax) ∷ (codes "lambda" means b.Core core.Lambda)
    ∷ (codes "if" means b.Core core.If) ∷ (codes "let" means b.Core core.Let) ∷ (codes "let*" means b.Core core.LetStar) ∷ (codes "letrec" means b.Core core.Letrec)
    ∷ (codes "begin" means b.Core core.Begin) ∷ (codes "set!" means b.Core core.Set) ∷ (codes "quote" means b.Core core.Quote) ∷ (codes "cond" means b.Core core.Cond)
    ∷ (codes "case" means b.Core core.Case) ∷ (codes "and" means b.Core core.And) ∷ (codes "or" means b.Core core.Or) ∷ (codes "do" means b.Core core.Do)
    ∷ (codes "goto" means b.Core core.Goto) ∷ (codes "let-syntax" means b.Core core.LetSyntax) ∷ (codes "letrec-syntax" means b.Core core.LetrecSyntax) ∷ []

-- the primitives on numbers, booleans and characters
abbrev pub number_words : List Word
number_words = (codes "+" means b.Primitive prim.Add) ∷ (codes "-" means b.Primitive prim.Subtract) ∷ (codes "*" means b.Primitive prim.Multiply)
    ∷ (codes "quotient" means b.Primitive prim.Quotient) ∷ (codes "remainder" means b.Primitive prim.Remainder) ∷ (codes "modulo" means b.Primitive prim.Modulo)
    ∷ (codes "=" means b.Primitive prim.Equal) ∷ (codes "<" means b.Primitive prim.Less) ∷ (codes ">" means b.Primitive prim.Greater)
    ∷ (codes "<=" means b.Primitive prim.LessOrEqual) ∷ (codes ">=" means b.Primitive prim.GreaterOrEqual) ∷ (codes "zero?" means b.Primitive prim.IsZero)
    ∷ (codes "positive?" means b.Primitive prim.IsPositive) ∷ (codes "negative?" means b.Primitive prim.IsNegative)
    ∷ (codes "bitwise-and" means b.Primitive prim.BitwiseAnd) ∷ (codes "bitwise-ior" means b.Primitive prim.BitwiseOr)
    ∷ (codes "bitwise-xor" means b.Primitive prim.BitwiseXor) ∷ (codes "bitwise-not" means b.Primitive prim.BitwiseNot)
    ∷ (codes "shift-left" means b.Primitive prim.ShiftLeft) ∷ (codes "arithmetic-shift-right" means b.Primitive prim.ArithmeticShiftRight)
    ∷ (codes "logical-shift-right" means b.Primitive prim.LogicalShiftRight) ∷ (codes "not" means b.Primitive prim.Not)
    ∷ (codes "boolean=?" means b.Primitive prim.BooleanEqual) ∷ (codes "char=?" means b.Primitive prim.CharEqual) ∷ (codes "char<?" means b.Primitive prim.CharLess)
    ∷ (codes "char->ascii" means b.Primitive prim.CharToAscii) ∷ (codes "ascii->char" means b.Primitive prim.AsciiToChar) ∷ []

-- those on strings and vectors, and of input and output
abbrev pub block_words : List Word
block_words = (codes "unspecific" means b.Primitive prim.Unspecific) ∷ (codes "string-length" means b.Primitive prim.StringLength)
    ∷ (codes "string-ref" means b.Primitive prim.StringRef) ∷ (codes "make-vector" means b.Primitive prim.MakeVector) ∷ (codes "vector-ref" means b.Primitive prim.VectorRef)
    ∷ (codes "vector-set!" means b.Primitive prim.VectorSet) ∷ (codes "null-vector?" means b.Primitive prim.IsNullVector)
    ∷ (codes "deallocate-vector" means b.Primitive prim.DeallocateVector) ∷ (codes "read-byte" means b.Primitive prim.ReadByte) ∷ (codes "write-byte" means b.Primitive prim.WriteByte)
    ∷ (codes "string-append" means b.Primitive prim.StringAppend) ∷ (codes "string=?" means b.Primitive prim.StringEqual)
    ∷ (codes "vector-length" means b.Primitive prim.VectorLength) ∷ []

-- those on addresses
abbrev pub memory_words : List Word
memory_words = (codes "null-address" means b.Primitive prim.NullAddress) ∷ (codes "null-address?" means b.Primitive prim.IsNullAddress)
    ∷ (codes "allocate-memory" means b.Primitive prim.AllocateMemory) ∷ (codes "deallocate-memory" means b.Primitive prim.DeallocateMemory)
    ∷ (codes "unsigned-byte-ref" means b.Primitive prim.UnsignedByteRef) ∷ (codes "unsigned-byte-set!" means b.Primitive prim.UnsignedByteSet)
    ∷ (codes "word-ref" means b.Primitive prim.WordRef) ∷ (codes "word-set!" means b.Primitive prim.WordSet) ∷ (codes "address+" means b.Primitive prim.AddressAdd)
    ∷ (codes "address-difference" means b.Primitive prim.AddressDifference) ∷ (codes "address=" means b.Primitive prim.AddressEqual)
    ∷ (codes "address<" means b.Primitive prim.AddressLess) ∷ []

abbrev pub record_words : List Word
record_words = (codes "define-record-type" means b.Core core.DefineRecordType) ∷ []

abbrev pub all_words : List Word
all_words = form_words ++ number_words ++ block_words ++ memory_words ++ record_words
