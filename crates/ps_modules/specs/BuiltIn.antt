-- The built-in structures, by their names, and the names that they give (this project's own): `prescheme` gives every special form and
-- primitive, `ps-memory` the primitives on addresses, and `ps-record-types` the form `define-record-type`.
use Rattle.std.specs.Prelude.{ℕ, List, [], ◌∷◌, ◌++◌, Option, Some, None, codes, if◌then◌else◌}
use Rattle.std.specs.Str.{bytes_eq}
use Rattle.ps_modules.specs.declared.types.Opened.{Opened}
use Rattle.ps_modules.specs.declared.types.Opened.TheVariants as opened

abbrev pub built_in : List ℕ → Option Opened
built_in name = if bytes_eq name (codes "prescheme") then Some opened.Prescheme
    else (if bytes_eq name (codes "ps-memory") then Some opened.Memory else (if bytes_eq name (codes "ps-record-types") then Some opened.Records else None))

abbrev pub memory_names : List (List ℕ)
memory_names = codes "null-address" ∷ codes "null-address?" ∷ codes "allocate-memory" ∷ codes "deallocate-memory" ∷ codes "unsigned-byte-ref"
    ∷ codes "unsigned-byte-set!" ∷ codes "word-ref" ∷ codes "word-set!" ∷ codes "address+" ∷ codes "address-difference" ∷ codes "address="
    ∷ codes "address<" ∷ []

abbrev pub record_names : List (List ℕ)
record_names = codes "define-record-type" ∷ []

-- the special forms but `define-record-type`
abbrev pub form_names : List (List ℕ)
form_names = codes "define" ∷ codes "define-syntax" ∷ codes "lambda" ∷ codes "if" ∷ codes "let" ∷ codes "let*" ∷ codes "letrec" ∷ codes "begin"
    ∷ codes "set!" ∷ codes "quote" ∷ codes "cond" ∷ codes "case" ∷ codes "and" ∷ codes "or" ∷ codes "do" ∷ codes "goto" ∷ codes "let-syntax"
    ∷ codes "letrec-syntax" ∷ []

-- the primitives on numbers, booleans and characters
abbrev pub number_names : List (List ℕ)
number_names = codes "+" ∷ codes "-" ∷ codes "*" ∷ codes "quotient" ∷ codes "remainder" ∷ codes "modulo" ∷ codes "=" ∷ codes "<" ∷ codes ">"
    ∷ codes "<=" ∷ codes ">=" ∷ codes "zero?" ∷ codes "positive?" ∷ codes "negative?" ∷ codes "bitwise-and" ∷ codes "bitwise-ior"
    ∷ codes "bitwise-xor" ∷ codes "bitwise-not" ∷ codes "shift-left" ∷ codes "arithmetic-shift-right" ∷ codes "logical-shift-right"
    ∷ codes "not" ∷ codes "boolean=?" ∷ codes "char=?" ∷ codes "char<?" ∷ codes "char->ascii" ∷ codes "ascii->char" ∷ []

-- those on strings and vectors, and of input and output
abbrev pub block_names : List (List ℕ)
block_names = codes "unspecific" ∷ codes "string-length" ∷ codes "string-ref" ∷ codes "make-vector" ∷ codes "vector-ref" ∷ codes "vector-set!"
    ∷ codes "null-vector?" ∷ codes "deallocate-vector" ∷ codes "read-byte" ∷ codes "write-byte" ∷ codes "string-append" ∷ codes "string=?"
    ∷ codes "vector-length" ∷ []

abbrev pub language_names : List (List ℕ)
language_names = form_names ++ number_names ++ block_names

abbrev pub all_names : List (List ℕ)
all_names = language_names ++ memory_names ++ record_names
