-- The values of a program, and procedures as values (R5RS 4.1.4).
--
-- At compile time a value is one of first order. At run time it may also be a procedure: a lambda with the values of the
-- locals that it keeps.
use Rattle.std.specs.Prelude.{ℕ, pos, List, [], ◌∷◌, map, Option, Some, None}
use Rattle.byte_store.specs.declared.pointer.Value.{Value}
use Rattle.byte_store.specs.declared.pointer.Word.{Word}
use Rattle.byte_store.specs.declared.pointer.Word.TheVariants.{Number}
use Rattle.byte_store.specs.Words.{word_of}
use Rattle.ps_prims.specs.Sorts.{Values}
use Rattle.ps_runs.specs.Runs.{Env}
use Rattle.ps_runs.specs.Locals.{found}
pub use Rattle.ps_meaning.specs.declared.values.RunValue.{RunValue, out-RunValue}
pub use Rattle.ps_meaning.specs.declared.values.RunValue.TheVariants.{Plain, Procedure}
use Rattle.ps_meaning.specs.declared.values.RunValue.TheOpen.{RunValue-F}
pub use Rattle.ps_meaning.specs.declared.values.Binding.{Binding, out-Binding, roll-Binding}

-- ---- values at run time

-- what a value is of first order
abbrev pub seen_of : RunValue-F RunValue Binding → Option Value
seen_of (RunValue-F.Plain v) = Some v
seen_of (RunValue-F.Procedure l env) = None

-- the word of a procedure is 0
abbrev pub word_in : RunValue-F RunValue Binding → Word
word_in (RunValue-F.Plain v) = word_of v
word_in (RunValue-F.Procedure l env) = Number (pos 0)

abbrev pub run_values : Values RunValue
run_values = record { seen = λ v. seen_of (out-RunValue v); of = Plain; word = λ v. word_in (out-RunValue v) }

-- a procedure: its lambda, and the values that it keeps
pub record Closure : Type 0 where
  pub lambda : ℕ
  pub kept : List Binding

abbrev pub closure_of : RunValue-F RunValue Binding → Option Closure
closure_of (RunValue-F.Plain v) = None
closure_of (RunValue-F.Procedure l env) = Some (record { lambda = l; kept = env })

abbrev pub as_procedure : RunValue → Option Closure
as_procedure v = closure_of (out-RunValue v)

-- ---- the locals that a procedure keeps

abbrev pub bound : ℕ → RunValue → Binding
bound x v = roll-Binding (record { local = x; value = v })

abbrev pub pair_of : Binding → ℕ × RunValue
pair_of b = ((out-Binding b).local, (out-Binding b).value)

-- the locals that a procedure keeps, in scope again
abbrev pub pairs_of : List Binding → Env RunValue
pairs_of bs = map pair_of bs

abbrev pub with_known : ℕ → Option RunValue → List Binding → List Binding
with_known x None bs = bs
with_known x (Some v) bs = bound x v ∷ bs

-- the values of these locals alone
abbrev pub only : List ℕ → Env RunValue → List Binding
only [] env = []
only (x ∷ xs) env = with_known x (found x env) (only xs env)
