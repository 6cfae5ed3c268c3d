-- What has a meaning at run time alone is told at its own place, before its parts (this project's own).
--
-- Read a line of `RunOnlyAtItsPlace` as: at compile time this form, at this place, stops every run as run-only at the place,
-- and leaves the state as it was, without its locals.
use Rattle.std.specs.Prelude.{◌≡◌, ℕ, List, true, Some, None}
use Rattle.std.specs.List.{list_any}
use Rattle.ps_base.specs.declared.faults.Place.{Place}
use Rattle.ps_base.specs.declared.language.PrimName.{PrimName}
use Rattle.byte_store.specs.declared.pointer.Value.{Value}
use Rattle.ps_prims.specs.declared.stages.Stage.TheVariants.{Compile}
use Rattle.ps_prims.specs.declared.stages.Stages.TheVariants.{RunOnly as AtRunOnly}
use Rattle.ps_prims.specs.Sorts.{first_order}
use Rattle.ps_prims.specs.Rows.{row}
use Rattle.ps_kernel.specs.declared.expr.Expr.{Expr}
use Rattle.ps_kernel.specs.declared.expr.ExprKind.{ExprKind}
use Rattle.ps_kernel.specs.declared.expr.ExprKind.TheVariants.{Local, Global, Lambda, Letrec, SetGlobal, Call, ProperCall}
use Rattle.ps_kernel.specs.declared.expr.GroupEntry.{GroupEntry}
use Rattle.ps_kernel.specs.declared.kernel.Kernel.{Kernel}
use Rattle.ps_kernel.specs.Texts.{expr_at}
use Rattle.ps_kernel.specs.Texts.{procedure_of}
use Rattle.ps_runs.specs.Runs.{State, Stops, RunOnly, stopped}
use Rattle.ps_meaning.specs.Eval.{CompileEnter, letrec_lambda, keeps_locals, part_of, compile, operation}

-- whatever calls do, at each depth and in each state
abbrev pub IsRunOnlyAt : Kernel → Place → ExprKind → Type 0
IsRunOnlyAt k p kind = (enter : CompileEnter) (d : ℕ) (s : State Value) →
    compile k enter (expr_at p kind) d s ≡ Stops (RunOnly p) (stopped s)

-- an operator that is no mention of a procedure
abbrev pub NamesNone : Kernel → Expr → Type 0
NamesNone k f = (enter : CompileEnter) → (part_of k enter f).names ≡ None

pub record RunOnlyAtItsPlace : Type 0 where
  -- a lambda
  pub lambda : (k : Kernel) (p : Place) (l : ℕ) → IsRunOnlyAt k p (Lambda l)
  -- a letrec of which a lambda keeps a local
  pub letrec : (k : Kernel) (p : Place) (g : List GroupEntry) (b : Expr) → list_any (keeps_locals k) g ≡ true → IsRunOnlyAt k p (Letrec g b)
  -- a mention of a procedure definition, or of a local that a letrec binds
  pub procedure : (k : Kernel) (p : Place) (x l : ℕ) → procedure_of k x ≡ Some l → IsRunOnlyAt k p (Global x)
  pub group_local : (k : Kernel) (p : Place) (x l : ℕ) → letrec_lambda k x ≡ Some l → IsRunOnlyAt k p (Local x)
  -- an assignment of a procedure definition
  pub assignment : (k : Kernel) (p : Place) (x l : ℕ) (a : Expr) → procedure_of k x ≡ Some l → IsRunOnlyAt k p (SetGlobal x a)
  -- a call of what is no such mention
  pub call : (k : Kernel) (p : Place) (f : Expr) (es : List Expr) → NamesNone k f → IsRunOnlyAt k p (Call f es)
  pub proper_call : (k : Kernel) (p : Place) (f : Expr) (es : List Expr) → NamesNone k f → IsRunOnlyAt k p (ProperCall f es)
  -- a primitive for run time alone, once it has its operands, whatever they are
  pub primitive : (k : Kernel) (p : Place) (q : PrimName) (vs : List Value) (s : State Value) →
      (row first_order k.kinds q).stages ≡ AtRunOnly → operation k Compile first_order p q vs s ≡ Stops (RunOnly p) (stopped s)
