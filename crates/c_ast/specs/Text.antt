-- The text of a unit (the subset of C99 6.7 to 6.9 that is written, with the macros of C99 7.18.4).
use Rattle.std.specs.Prelude.{◌≡◌, ℕ, zero, suc, ℤ, pos, negsuc, List, [], ◌∷◌, ◌++◌, if◌then◌else◌, ◌==◌, codes, decimal}
use Rattle.ps_base.specs.Texts.{◌&◌, each}
use Rattle.c_ast.specs.declared.unit.Atom.{Atom}
use Rattle.c_ast.specs.declared.unit.Atom.TheVariants as atoms
use Rattle.c_ast.specs.declared.unit.BinaryOperator.{BinaryOperator}
use Rattle.c_ast.specs.declared.unit.BinaryOperator.TheVariants as operators
use Rattle.c_ast.specs.declared.unit.Statement.{Statement}
use Rattle.c_ast.specs.declared.unit.Statement.TheVariants as statements
use Rattle.c_ast.specs.declared.unit.CFunction.{CFunction}
use Rattle.c_ast.specs.declared.unit.CUnit.{CUnit}
use Rattle.c_ast.specs.declared.prelude.TheConstants.{PRELUDE}
use Rattle.c_ast.specs.WellFormed.{IsWellFormed}

-- a constant that is not negative
unfoldable pub natural_text : ℕ → List ℕ
natural_text n = codes "INT64_C(" & decimal n & codes ")"

-- the negative of a constant
unfoldable pub negative_text : ℕ → List ℕ
negative_text n = codes "(-INT64_C(" & decimal n & codes "))"

-- an integer of 64 bits; the least one has no literal of its own (C99 6.4.4.1)
unfoldable pub integer_text : ℤ → List ℕ
integer_text (pos n) = natural_text n
integer_text (negsuc n) = if n == 9223372036854775807 then codes "(-INT64_C(9223372036854775807)-INT64_C(1))" else negative_text (suc n)

unfoldable pub atom_text : Atom → List ℕ
atom_text (atoms.Variable k) = codes "v" & decimal k
atom_text (atoms.Integer i) = integer_text i

unfoldable pub operator_text : BinaryOperator → List ℕ
operator_text operators.Add = codes "+"
operator_text operators.Subtract = codes "-"
operator_text operators.Multiply = codes "*"
operator_text operators.Less = codes "<"
operator_text operators.Equal = codes "=="

-- an argument of a call that is not the first
unfoldable pub next_argument : ℕ → ℕ → List ℕ
next_argument place k = codes ", v" & decimal k

-- the arguments of a call, with `, ` between them
unfoldable pub arguments_text : List ℕ → List ℕ
arguments_text [] = []
arguments_text (k ∷ ks) = codes "v" & decimal k & each next_argument 0 ks

-- a statement's line, without its end
unfoldable pub statement_text : Statement → List ℕ
statement_text (statements.Move k a) = codes "  v" & decimal k & codes " = " & atom_text a & codes ";"
statement_text (statements.Operation k a o b) =
    codes "  v" & decimal k & codes " = " & atom_text a & codes " " & operator_text o & codes " " & atom_text b & codes ";"
statement_text (statements.Read k) = codes "  v" & decimal k & codes " = ps_read();"
statement_text (statements.Write k a) = codes "  v" & decimal k & codes " = ps_write(" & atom_text a & codes ");"
statement_text (statements.Call k f vs) = codes "  v" & decimal k & codes " = ps_f" & decimal f & codes "(" & arguments_text vs & codes ");"
statement_text (statements.IfGoto a n) = codes "  if (" & atom_text a & codes ") goto L" & decimal n & codes ";"
statement_text (statements.Goto n) = codes "  goto L" & decimal n & codes ";"
statement_text (statements.Label n) = codes "L" & decimal n & codes ":;"
statement_text (statements.Return a) = codes "  return " & atom_text a & codes ";"

-- so many parameters behind the first ones, of which there are k
unfoldable pub next_parameters : ℕ → ℕ → List ℕ
next_parameters k zero = []
next_parameters k (suc n) = codes ", int64_t v" & decimal k & next_parameters (suc k) n

-- so many parameters
unfoldable pub parameters_text : ℕ → List ℕ
parameters_text zero = codes "void"
parameters_text (suc n) = codes "int64_t v0" & next_parameters 1 n

-- how function n is declared, without the end of the line
unfoldable pub head_text : ℕ → ℕ → List ℕ
head_text n parameters = codes "static int64_t ps_f" & decimal n & codes "(" & parameters_text parameters & codes ")"

-- The lines after the prelude: a function's declaration, the head of its definition, a variable, a statement, the end of the
-- definition, and the C program's own main.
pub data Line : Type 0 where
  Announces : (function parameters : ℕ) → Line
  Opens : (function parameters : ℕ) → Line
  Declares : (variable : ℕ) → Line
  Does : (statement : Statement) → Line
  Closes : Line
  Main : Line

unfoldable pub line_text : Line → List ℕ
line_text (Announces n k) = head_text n k & codes ";"
line_text (Opens n k) = head_text n k & codes " {"
line_text (Declares k) = codes "  int64_t v" & decimal k & codes ";"
line_text (Does s) = statement_text s
line_text Closes = codes "}"
line_text Main = codes "int main(void) { return (int)(ps_f0() & 255); }"

-- lines, each with byte 10 behind it
unfoldable pub lines_text : List Line → List ℕ
lines_text [] = []
lines_text (l ∷ ls) = line_text l & codes "\n" & lines_text ls

-- the variables from k on, so many
unfoldable pub variable_lines : ℕ → ℕ → List Line
variable_lines k zero = []
variable_lines k (suc n) = Declares k ∷ variable_lines (suc k) n

unfoldable pub statement_lines : List Statement → List Line
statement_lines [] = []
statement_lines (s ∷ ss) = Does s ∷ statement_lines ss

-- the functions from number n on, each declared
unfoldable pub declaration_lines : ℕ → List CFunction → List Line
declaration_lines n [] = []
declaration_lines n (f ∷ fs) = Announces n f.parameters ∷ declaration_lines (suc n) fs

-- the definition of function n
unfoldable pub function_lines : ℕ → CFunction → List Line
function_lines n f = Opens n f.parameters ∷ (variable_lines f.parameters f.locals ++ (statement_lines f.statements ++ (Closes ∷ [])))

-- the functions from number n on, each defined
unfoldable pub definition_lines : ℕ → List CFunction → List Line
definition_lines n [] = []
definition_lines n (f ∷ fs) = function_lines n f ++ definition_lines (suc n) fs

unfoldable pub unit_lines : CUnit → List Line
unit_lines u = declaration_lines 0 u.functions ++ (definition_lines 0 u.functions ++ (Main ∷ []))

unfoldable pub text_of : CUnit → List ℕ
text_of u = PRELUDE.now & lines_text (unit_lines u)

-- The grammar: the bytes are the text of the unit, which is well formed.
pub record CText (bytes : List ℕ) (u : CUnit) : Type 0 where
  pub well_formed : IsWellFormed u
  pub text : bytes ≡ text_of u
