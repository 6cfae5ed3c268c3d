-- When a unit is well formed: its numbers have their sizes, each variable, label and function is declared, calls have the
-- right number of arguments, and each function returns or jumps at its end (C99 6.2.1, 6.5.2.2, 6.8.1, 6.8.6).
use Rattle.std.specs.Prelude.{◌≡◌, ℕ, suc, ◌+◌, ◌<◌, ◌≤◌, ◌^◌, List, [], ◌∷◌, length, map, slice_get, Some}
use Rattle.std.specs.List.{AllByRecursion}
use Rattle.ps_base.specs.Numbers.{IsWord}
use Rattle.c_ast.specs.declared.unit.Atom.{Atom}
use Rattle.c_ast.specs.declared.unit.Atom.TheVariants as atoms
use Rattle.c_ast.specs.declared.unit.Statement.{Statement}
use Rattle.c_ast.specs.declared.unit.Statement.TheVariants as statements
use Rattle.c_ast.specs.declared.unit.CFunction.{CFunction}
use Rattle.c_ast.specs.declared.unit.CUnit.{CUnit}

-- the atom is one of the first n variables, or a constant of 64 bits
abbrev pub IsAtom : ℕ → Atom → Type 0
IsAtom n (atoms.Variable k) = k < n
IsAtom n (atoms.Integer i) = IsWord i

-- what a statement may name: so many variables, so many labels, and functions with these numbers of parameters
pub record Declared : Type 0 where
  pub variables : ℕ
  pub labels : ℕ
  pub functions : List ℕ

-- the statement names what is declared alone
abbrev pub IsStatement : Declared → Statement → Type 0
IsStatement d (statements.Move k a) = (k < d.variables) × IsAtom d.variables a
IsStatement d (statements.Operation k a o b) = (k < d.variables) × IsAtom d.variables a × IsAtom d.variables b
IsStatement d (statements.Read k) = k < d.variables
IsStatement d (statements.Write k a) = (k < d.variables) × IsAtom d.variables a
IsStatement d (statements.Call k f vs) =
    (k < d.variables) × AllByRecursion (λ v. v < d.variables) vs × (slice_get d.functions f ≡ Some (length vs))
IsStatement d (statements.IfGoto a m) = IsAtom d.variables a × (m < d.labels)
IsStatement d (statements.Goto m) = m < d.labels
IsStatement d (statements.Label m) = m < d.labels
IsStatement d (statements.Return a) = IsAtom d.variables a

-- the last statement returns or jumps
abbrev pub EndsWell : List Statement → Type 0
EndsWell [] = ⊥
EndsWell (statements.Return a ∷ []) = Unit {0}
EndsWell (statements.Goto n ∷ []) = Unit {0}
EndsWell (statements.Move k a ∷ []) = ⊥
EndsWell (statements.Operation k a o b ∷ []) = ⊥
EndsWell (statements.Read k ∷ []) = ⊥
EndsWell (statements.Write k a ∷ []) = ⊥
EndsWell (statements.Call k f vs ∷ []) = ⊥
EndsWell (statements.IfGoto a n ∷ []) = ⊥
EndsWell (statements.Label n ∷ []) = ⊥
EndsWell (s ∷ t ∷ ss) = EndsWell (t ∷ ss)

-- the labels in order of the text
abbrev pub labels_of : List Statement → List ℕ
labels_of [] = []
labels_of (statements.Label n ∷ ss) = n ∷ labels_of ss
labels_of (statements.Move k a ∷ ss) = labels_of ss
labels_of (statements.Operation k a o b ∷ ss) = labels_of ss
labels_of (statements.Read k ∷ ss) = labels_of ss
labels_of (statements.Write k a ∷ ss) = labels_of ss
labels_of (statements.Call k f vs ∷ ss) = labels_of ss
labels_of (statements.IfGoto a n ∷ ss) = labels_of ss
labels_of (statements.Goto n ∷ ss) = labels_of ss
labels_of (statements.Return a ∷ ss) = labels_of ss

-- the numbers are k, k + 1 and so on
abbrev pub CountsFrom : ℕ → List ℕ → Type 0
CountsFrom k [] = Unit {0}
CountsFrom k (n ∷ ns) = (n ≡ k) × CountsFrom (suc k) ns

abbrev pub variables_of : CFunction → ℕ
variables_of f = f.parameters + f.locals

-- how many parameters each function has
abbrev pub arities_of : CUnit → List ℕ
arities_of u = map (λ f. f.parameters) u.functions

-- what the statements of a function may name, where the functions have these numbers of parameters
abbrev pub declared_in : List ℕ → CFunction → Declared
declared_in functions f = record { variables = variables_of f; labels = length (labels_of f.statements); functions = functions }

-- a function among functions with these numbers of parameters. Labels are numbered from 0 in order of the text, each once.
pub record IsFunction (functions : List ℕ) (f : CFunction) : Type 0 where
  pub few_parameters : f.parameters ≤ 127
  pub few_variables : variables_of f < 2 ^ 32
  pub few_labels : length (labels_of f.statements) < 2 ^ 32
  pub labels : CountsFrom 0 (labels_of f.statements)
  pub declared : AllByRecursion (IsStatement (declared_in functions f)) f.statements
  pub returns : EndsWell f.statements

-- the first function has no parameters
pub record IsWellFormed (u : CUnit) : Type 0 where
  pub few : length u.functions < 2 ^ 32
  pub main : slice_get (arities_of u) 0 ≡ Some 0
  pub functions : AllByRecursion (IsFunction (arities_of u)) u.functions
