-- The numbers in the lines of a well-formed unit are small.
-- For: one_unit
use Rattle.std.proofs.Common.{◌≡◌, ℕ, zero, suc, ◌+◌, ◌<◌, ◌^◌, List, [], ◌∷◌, ◌++◌, length, Some, arith}
use Rattle.std.specs.Prelude.{slice_get}
use Rattle.std.specs.List.{AllByRecursion}
use Rattle.std.proofs.lemmas.List.{length-map}
use Rattle.std.proofs.lemmas.Option.{slice_get_within}
use Rattle.c_ast.specs.declared.unit.Atom.{Atom}
use Rattle.c_ast.specs.declared.unit.Atom.TheVariants as atoms
use Rattle.c_ast.specs.declared.unit.Statement.{Statement}
use Rattle.c_ast.specs.declared.unit.Statement.TheVariants as statements
use Rattle.c_ast.specs.declared.unit.CFunction.{CFunction}
use Rattle.c_ast.specs.declared.unit.CUnit.{CUnit}
use Rattle.c_ast.specs.Text.{Line, variable_lines, statement_lines, declaration_lines, function_lines, definition_lines, unit_lines}
use Rattle.c_ast.specs.WellFormed.{IsAtom, Declared, IsStatement, arities_of, declared_in, IsFunction, IsWellFormed}
use Rattle.c_ast.proofs.AtomsReadBack.{FitsAtom, FitArguments}
use Rattle.c_ast.proofs.LinesReadBack.{Fits, FitsStatement}

abbrev AllFit : List Line → Type 0
AllFit = AllByRecursion Fits

all_fit : (ls ms : List Line) → AllFit ls → AllFit ms → AllFit (ls ++ ms)
all_fit [] ms h k = k
all_fit (l ∷ ls) ms h k = (h.0, all_fit ls ms h.1 k)

-- what is declared has small numbers
record Small (d : Declared) : Type 0 where
  variables : d.variables < 2 ^ 32
  labels : d.labels < 2 ^ 32
  functions : length d.functions < 2 ^ 32

atom_fits : (n : ℕ) (a : Atom) → n < 2 ^ 32 → IsAtom n a → FitsAtom a
atom_fits n (atoms.Variable k) lt h = omega arith
atom_fits n (atoms.Integer i) lt h = h

arguments_fit : (n : ℕ) (ks : List ℕ) → n < 2 ^ 32 → AllByRecursion (λ v. v < n) ks → FitArguments ks
arguments_fit n [] lt h = tt
arguments_fit n (k ∷ ks) lt h = (let x = h.0 in omega arith, arguments_fit n ks lt h.1)

function_number : (xs : List ℕ) (f n : ℕ) → slice_get xs f ≡ Some n → f < length xs
function_number xs f n e = slice_get_within xs f n e

statement_fits : (d : Declared) (s : Statement) → Small d → IsStatement d s → FitsStatement s
statement_fits d (statements.Move k a) m h = (let x = h.0 in let y = m.variables in omega arith, atom_fits d.variables a m.variables h.1)
statement_fits d (statements.Operation k a o b) m h = (let x = h.0 in let y = m.variables in omega arith, atom_fits d.variables a m.variables h.1, atom_fits d.variables b m.variables h.2)
statement_fits d (statements.Read k) m h = let y = m.variables in omega arith
statement_fits d (statements.Write k a) m h = (let x = h.0 in let y = m.variables in omega arith, atom_fits d.variables a m.variables h.1)
statement_fits d (statements.Call k f vs) m h = (let x = h.0 in let y = m.variables in omega arith, let x = function_number d.functions f (length vs) h.2 in let y = m.functions in omega arith, arguments_fit d.variables vs m.variables h.1)
statement_fits d (statements.IfGoto a n) m h = (atom_fits d.variables a m.variables h.0, let x = h.1 in let y = m.labels in omega arith)
statement_fits d (statements.Goto n) m h = let y = m.labels in omega arith
statement_fits d (statements.Label n) m h = let y = m.labels in omega arith
statement_fits d (statements.Return a) m h = atom_fits d.variables a m.variables h

statements_fit : (d : Declared) (ss : List Statement) → Small d → AllByRecursion (IsStatement d) ss → AllFit (statement_lines ss)
unfolding statement_lines
statements_fit d [] m h = tt
statements_fit d (s ∷ ss) m h = (statement_fits d s m h.0, statements_fit d ss m h.1)

variables_fit : (k n : ℕ) → k + n < 2 ^ 32 → AllFit (variable_lines k n)
unfolding variable_lines
variables_fit k zero lt = tt
variables_fit k (suc n) lt = (omega arith, variables_fit (suc k) n (omega arith))

declarations_fit : (n : ℕ) (fs : List CFunction) (arities : List ℕ) → n + length fs < 2 ^ 32 → AllByRecursion (IsFunction arities) fs → AllFit (declaration_lines n fs)
unfolding declaration_lines
declarations_fit n [] arities lt h = tt
declarations_fit n (f ∷ fs) arities lt h = ((omega arith, let x = h.0.few_parameters in omega arith), declarations_fit (suc n) fs arities (omega arith) h.1)

function_fits : (n : ℕ) (f : CFunction) (arities : List ℕ) → n < 2 ^ 32 → length arities < 2 ^ 32 → IsFunction arities f → AllFit (function_lines n f)
unfolding function_lines
function_fits n f arities lt few h =
    let small : Small (declared_in arities f) = record { variables = h.few_variables; labels = h.few_labels; functions = few } in
    ((omega arith, let x = h.few_parameters in omega arith), all_fit _ _ (variables_fit f.parameters f.locals h.few_variables) (all_fit _ _ (statements_fit (declared_in arities f) f.statements small h.declared) (tt, tt)))

definitions_fit : (n : ℕ) (fs : List CFunction) (arities : List ℕ) → n + length fs < 2 ^ 32 → length arities < 2 ^ 32 → AllByRecursion (IsFunction arities) fs → AllFit (definition_lines n fs)
unfolding definition_lines
definitions_fit n [] arities lt few h = tt
definitions_fit n (f ∷ fs) arities lt few h = all_fit _ _ (function_fits n f arities (omega arith) few h.0) (definitions_fit (suc n) fs arities (omega arith) few h.1)

pub unit_fits : (u : CUnit) → IsWellFormed u → AllFit (unit_lines u)
unfolding unit_lines
unit_fits u w =
    let few : length (arities_of u) < 2 ^ 32 = rw (length-map u.functions (λ f. f.parameters)) w.few in
    let lt : 0 + length u.functions < 2 ^ 32 = let x = w.few in omega arith in
    all_fit _ _ (declarations_fit 0 u.functions (arities_of u) lt w.functions) (all_fit _ _ (definitions_fit 0 u.functions (arities_of u) lt few w.functions) (tt, tt))
