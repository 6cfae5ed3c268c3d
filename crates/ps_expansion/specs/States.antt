-- What an expansion knows and has counted so far, and its small steps (this project's own). What is numbered is numbered from 0.
use Rattle.std.specs.Prelude.{ℕ, zero, suc, ◌+◌, ◌==◌, nat_lt, List, [], ◌∷◌, ◌++◌, length, if◌then◌else◌}
use Rattle.ps_base.specs.declared.faults.Fault.TheVariants as faults
use Rattle.ps_base.specs.declared.faults.FormKind.TheVariants.{TooDeep}
use Rattle.ps_base.specs.declared.faults.Place.{Place}
use Rattle.ps_base.specs.declared.limits.Limits.{Limits}
use Rattle.ps_datum.specs.declared.datum.Datum.{Datum}
use Rattle.ps_kernel.specs.Texts.{expr_at}
use Rattle.ps_kernel.specs.declared.expr.Constant.TheVariants.{Unit as TheUnit}
use Rattle.ps_kernel.specs.declared.expr.Expr.{Expr}
use Rattle.ps_kernel.specs.declared.expr.ExprKind.TheVariants as k
use Rattle.ps_kernel.specs.declared.kernel.Definition.{Definition}
use Rattle.ps_kernel.specs.declared.kernel.Lambda.{Lambda}
use Rattle.ps_modules.specs.declared.types.Structure.{Structure}
use Rattle.ps_pattern.specs.declared.binding.Binding.TheVariants as b
use Rattle.ps_pattern.specs.declared.syntax.Ident.{Ident}
use Rattle.ps_pattern.specs.declared.syntax.Syntax.{Syntax}
use Rattle.ps_scope.specs.Environments.{Env, Entry, pair_of, word_of}
use Rattle.ps_types.specs.declared.types.RecordKind.{RecordKind}
use Rattle.ps_hygiene.specs.Runs.{Step, Goes, Stops, Run, stop}
use Rattle.ps_hygiene.specs.Transcriptions as macros
use Rattle.ps_hygiene.specs.Worlds.{World}

-- what is expanded: the structures in order, the table of names, and the limits
pub record Task : Type 0 where
  pub names : List (List ℕ)
  pub order : List Structure
  pub limits : Limits

pub record State : Type 0 where
  -- what tells the meaning of identifiers
  pub world : World
  -- the names of record types, as `:n` in a definition of one, each with the predicate of its kind
  pub types : List Entry
  -- how many nodes and locals the kernel has
  pub nodes : ℕ
  pub locals : ℕ
  -- its lambdas; one that is numbered and not finished has a unit as its body
  pub lambdas : List Lambda
  pub literals : List Datum
  pub kinds : List RecordKind
  pub definitions : List Definition

abbrev pub carried : {A : Type 0} → State → Step World A → Step State A
carried s (Goes a w) = Goes a (record s { world = w })
carried s (Stops fault) = Stops fault

-- a step that only the meaning of identifiers is touched by
abbrev pub in_world : {A : Type 0} → Run World A → Run State A
in_world p = λ s. carried s (p s.world)

-- a form, transcribed until it is no macro use
abbrev pub settled : Limits → Env → Syntax → Run State Syntax
settled limits env f = in_world (macros.settled limits env f)

-- A node of the kernel is made, where a level is left and one more is allowed.
abbrev pub node : Limits → ℕ → Place → Run State (Unit {0})
node limits left at = λ s. if left == 0 then stop TooDeep at s
    else (if nat_lt s.nodes limits.nodes then Goes tt (record s { nodes = s.nodes + 1 }) else Stops (faults.CoreSpent limits.nodes))

abbrev pub next_local : Run State ℕ
next_local = λ s. Goes s.locals (record s { locals = s.locals + 1 })

-- so many locals in a row
abbrev pub numbers_from : ℕ → ℕ → List ℕ
numbers_from first zero = []
numbers_from first (suc n) = first ∷ numbers_from (first + 1) n

abbrev pub next_locals : ℕ → Run State (List ℕ)
next_locals n = λ s. Goes (numbers_from s.locals n) (record s { locals = s.locals + n })

abbrev pub unit_at : Place → Expr
unit_at at = expr_at at (k.Constant TheUnit)

abbrev pub unfinished : Place → Lambda
unfinished at = record { place = at; parameters = []; captured = []; body = unit_at at }

-- a lambda is numbered
abbrev pub next_lambda : Place → Run State ℕ
next_lambda at = λ s. Goes (length s.lambdas) (record s { lambdas = s.lambdas ++ unfinished at ∷ [] })

abbrev pub put_at : {A : Type 0} → ℕ → A → List A → List A
put_at n a [] = []
put_at zero a (x ∷ xs) = a ∷ xs
put_at (suc n) a (x ∷ xs) = x ∷ put_at n a xs

-- a lambda is finished
abbrev pub finished : ℕ → Lambda → Run State (Unit {0})
finished n l = λ s. Goes tt (record s { lambdas = put_at n l s.lambdas })

abbrev pub next_literal : Datum → Run State ℕ
next_literal d = λ s. Goes (length s.literals) (record s { literals = s.literals ++ d ∷ [] })

-- identifiers stand for locals, each for its own
abbrev pub bind_all : List Ident → List ℕ → Env → Env
bind_all [] ls env = env
bind_all (x ∷ xs) [] env = env
bind_all (x ∷ xs) (l ∷ ls) env = bind_all xs ls (pair_of (word_of x) (b.Local l) ∷ env)
