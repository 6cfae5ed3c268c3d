-- A run of the machine begins as its expression does, and ends when no cell waits.
-- For: `run`
use Rattle.std.proofs.Common.{◌≡◌, Bool, true, false, List, [], ◌∷◌, refl, sym, subst}
use denote.Ref.{Bor}
use Rattle.byte_store.specs.declared.pointer.Value.{Value}
use Rattle.ps_kernel.specs.declared.expr.Expr.{Expr}
use Rattle.ps_kernel.specs.declared.kernel.Kernel.{Kernel}
use Rattle.ps_meaning.specs.Eval.{CompileEnter, compile}
use Rattle.ps_static_eval.specs.declared.machine.Control.TheVariants.{Work, Give}
use Rattle.ps_static_eval.specs.InsideMachine.{Cells, Left, at, rest}
use Rattle.ps_static_eval.specs.InsideWeight.{is_over}
use Rattle.ps_static_eval.proofs.Joins.{then_pure}

abbrev IsNotTrue : Bool → Type 0
IsNotTrue true = ⊥
IsNotTrue false = Unit {0}

no_false : false ≡ true → ⊥
no_false e = subst IsNotTrue e tt

pub over_empty : (v : Value) (cells : Cells) → is_over (Give v) cells ≡ true → cells ≡ []
over_empty v [] over = refl
over_empty v (c ∷ cs) over = absurd (no_false over)

pub begins_run : (k : Kernel) (f : CompileEnter) (e : Bor Expr) (given : List Value) (m : Left) → compile k f e.now 0 (at m []) ≡ rest k f (Work e) given [] m
begins_run k f e given m = sym (then_pure (compile k f e.now 0 (at m [])))
