-- The words of the text of a kernel (this project's own): the names of primitives, definitions, locals and kinds of records,
-- and what stands for a constant (R5RS 4.1.2, 6.3).
use Rattle.std.specs.Prelude.{ℕ, ℤ, pos, negsuc, nat_lt, nat_eq, Bool, true, false, List, [], codes, decimal, ◌==◌, if◌then◌else◌}
use Rattle.std.specs.List.{position_or_len}
use Rattle.std.specs.Fmt.{signed_decimal}
use Rattle.ps_base.specs.declared.language.PrimName.{PrimName}
use Rattle.ps_base.specs.declared.language.PrimName.TheVariants as prims
use Rattle.ps_datum.specs.Writing.{char_text}
use Rattle.ps_kernel.specs.declared.expr.CaseKind.{CaseKind}
use Rattle.ps_kernel.specs.declared.expr.CaseKind.TheVariants as cases
use Rattle.ps_show.specs.Shown.{Shown, Text, ◌⋄◌}

-- a word and a number behind it
unfoldable pub numbered : List ℕ → ℕ → Shown
numbered word n = Text word ⋄ Text (decimal n)

-- ---- kinds of records

-- the type of kind k
unfoldable pub kind_type : ℕ → Shown
kind_type k = numbered (codes ":%r") k

-- the words of kind k, and of its field f
unfoldable pub maker_word : ℕ → Shown
maker_word k = numbered (codes "%r") k ⋄ Text (codes "-make")

unfoldable pub predicate_word : ℕ → Shown
predicate_word k = numbered (codes "%r") k ⋄ Text (codes "?")

unfoldable pub field_word : ℕ → ℕ → Shown
field_word k f = numbered (codes "%r") k ⋄ numbered (codes "-") f

unfoldable pub accessor_word : ℕ → ℕ → Shown
accessor_word k f = field_word k f ⋄ Text (codes "-get")

unfoldable pub modifier_word : ℕ → ℕ → Shown
modifier_word k f = field_word k f ⋄ Text (codes "-set")

-- ---- definitions and locals

-- definition g, where this one is main
unfoldable pub global_word : ℕ → ℕ → Shown
global_word main g = if g == main then Text (codes "main") else numbered (codes "%g") g

-- a local, by its place among those that are listed; one that is not there has the place behind the last
unfoldable pub local_word : List ℕ → ℕ → Shown
local_word order x = numbered (codes "%l") (position_or_len (nat_eq x) order)

-- ---- primitives

-- a primitive that is no record's
unfoldable pub plain_word : PrimName → List ℕ
plain_word prims.Add = codes "+"
plain_word prims.Subtract = codes "-"
plain_word prims.Multiply = codes "*"
plain_word prims.Quotient = codes "quotient"
plain_word prims.Remainder = codes "remainder"
plain_word prims.Modulo = codes "modulo"
plain_word prims.Equal = codes "="
plain_word prims.Less = codes "<"
plain_word prims.Greater = codes ">"
plain_word prims.LessOrEqual = codes "<="
plain_word prims.GreaterOrEqual = codes ">="
plain_word prims.IsZero = codes "zero?"
plain_word prims.IsPositive = codes "positive?"
plain_word prims.IsNegative = codes "negative?"
plain_word prims.BitwiseAnd = codes "bitwise-and"
plain_word prims.BitwiseOr = codes "bitwise-ior"
plain_word prims.BitwiseXor = codes "bitwise-xor"
plain_word prims.BitwiseNot = codes "bitwise-not"
plain_word prims.ShiftLeft = codes "shift-left"
plain_word prims.ArithmeticShiftRight = codes "arithmetic-shift-right"
plain_word prims.LogicalShiftRight = codes "logical-shift-right"
plain_word prims.Not = codes "not"
plain_word prims.BooleanEqual = codes "boolean=?"
plain_word prims.CharEqual = codes "char=?"
plain_word prims.CharLess = codes "char<?"
plain_word prims.CharToAscii = codes "char->ascii"
plain_word prims.AsciiToChar = codes "ascii->char"
plain_word prims.Unspecific = codes "unspecific"
plain_word prims.StringLength = codes "string-length"
plain_word prims.StringRef = codes "string-ref"
plain_word prims.MakeVector = codes "make-vector"
plain_word prims.VectorRef = codes "vector-ref"
plain_word prims.VectorSet = codes "vector-set!"
plain_word prims.IsNullVector = codes "null-vector?"
plain_word prims.DeallocateVector = codes "deallocate-vector"
plain_word prims.ReadByte = codes "read-byte"
plain_word prims.WriteByte = codes "write-byte"
plain_word prims.NullAddress = codes "null-address"
plain_word prims.IsNullAddress = codes "null-address?"
plain_word prims.AllocateMemory = codes "allocate-memory"
plain_word prims.DeallocateMemory = codes "deallocate-memory"
plain_word prims.UnsignedByteRef = codes "unsigned-byte-ref"
plain_word prims.UnsignedByteSet = codes "unsigned-byte-set!"
plain_word prims.WordRef = codes "word-ref"
plain_word prims.WordSet = codes "word-set!"
plain_word prims.AddressAdd = codes "address+"
plain_word prims.AddressDifference = codes "address-difference"
plain_word prims.AddressEqual = codes "address="
plain_word prims.AddressLess = codes "address<"
plain_word prims.StringAppend = codes "string-append"
plain_word prims.StringEqual = codes "string=?"
plain_word prims.VectorLength = codes "vector-length"
plain_word (prims.Maker k) = []
plain_word (prims.Predicate k) = []
plain_word (prims.Accessor k f) = []
plain_word (prims.Modifier k f) = []

-- a primitive
unfoldable pub prim_word : PrimName → Shown
prim_word (prims.Maker k) = maker_word k
prim_word (prims.Predicate k) = predicate_word k
prim_word (prims.Accessor k f) = accessor_word k f
prim_word (prims.Modifier k f) = modifier_word k f
prim_word p = Text (plain_word p)

-- `null-address` is a constant
abbrev pub is_null : PrimName → Bool
is_null prims.NullAddress = true
is_null p = false

-- ---- constants

abbrev pub boolean_word : Bool → List ℕ
boolean_word true = codes "#t"
boolean_word false = codes "#f"

-- a label of a case (R5RS 4.2.1): an integer, or the character of a code
unfoldable pub label_word : CaseKind → ℤ → Shown
label_word cases.Integer l = Text (signed_decimal l)
label_word cases.Char (pos n) = if nat_lt n 256 then Text (char_text n) else Text (signed_decimal (pos n))
label_word cases.Char (negsuc n) = Text (signed_decimal (negsuc n))
