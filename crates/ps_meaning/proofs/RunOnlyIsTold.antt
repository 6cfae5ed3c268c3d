-- What has a meaning at run time alone is told at its own place.
-- For: `run_only_at_its_place`
use Rattle.std.proofs.Common.{◌≡◌, ℕ, List, Option, None, refl, ap, ◌∙◌}
use Rattle.std.specs.Prelude.{Bool, true, if◌then◌else◌, is_some}
use Rattle.std.specs.List.{list_any}
use Rattle.ps_base.specs.declared.faults.Place.{Place}
use Rattle.byte_store.specs.declared.pointer.Value.{Value}
use Rattle.ps_prims.specs.declared.stages.Stage.TheVariants.{Compile}
use Rattle.ps_prims.specs.declared.stages.Stages.{Stages}
use Rattle.ps_prims.specs.Sorts.{first_order}
use Rattle.ps_prims.specs.Rows.{perform}
use Rattle.ps_prims.specs.Cells.{asked_at}
use Rattle.ps_kernel.specs.declared.expr.ExprKind.{ExprKind, fold-ExprKind}
use Rattle.ps_kernel.specs.declared.expr.ExprKind.TheVariants as kinds
use Rattle.ps_kernel.specs.declared.kernel.Kernel.{Kernel}
use Rattle.ps_kernel.specs.Texts.{expr_at, procedure_of}
use Rattle.ps_kernel.proofs.FoldsByNode.{fold-expr, fold-local, fold-global, fold-lambda, fold-letrec, fold-set, fold-call, fold-proper}
use Rattle.ps_runs.specs.Runs.{State, Stops, RunOnly, stop, stopped}
use Rattle.ps_runs.specs.Effects.{performing}
use Rattle.ps_meaning.specs.Eval.{CompileEnter, CompileMeaning, Part, Choice, letrec_lambda, keeps_locals, unless, call_of, compile_node, part_of, compile, belongs, misplaced}
use Rattle.ps_meaning.specs.RunOnly.{RunOnlyAtItsPlace}

module _ (k : Kernel) (p : Place) (enter : CompileEnter) where
  -- a form of a kind, by the clause of its kind
  by_kind : (x : ExprKind) (m : Place → Part) → fold-ExprKind (Place → Part) Part (Choice Value) (compile_node k enter) (λ e. e.kind e.place) (λ b. record { labels = b.labels; does = b.body.does }) x ≡ m → compile k enter (expr_at p x) ≡ (m p).does
  by_kind x m is = ap (λ (q : Part). q.does) (fold-expr (compile_node k enter) (λ e. e.kind e.place) (λ b. record { labels = b.labels; does = b.body.does }) p x) ∙ ap (λ (n : Place → Part). (n p).does) is

  abbrev IsStopped : CompileMeaning → Type 0
  IsStopped m = (d : ℕ) (s : State Value) → m d s ≡ Stops (RunOnly p) (stopped s)

  stopped_by : (x : ExprKind) (m : Place → Part) → fold-ExprKind (Place → Part) Part (Choice Value) (compile_node k enter) (λ e. e.kind e.place) (λ b. record { labels = b.labels; does = b.body.does }) x ≡ m → IsStopped (m p).does → IsStopped (compile k enter (expr_at p x))
  stopped_by x m is done d s = ap (λ (n : CompileMeaning). n d s) (by_kind x m is) ∙ done d s

  unless_true : (b : Bool) (m : CompileMeaning) → b ≡ true → IsStopped (unless k b p m)
  unless_true b m is d s = ap (λ c. unless k c p m d s) is

  called_none : (o : Option ℕ) (deeper : ℕ) (ps : List Part) → o ≡ None → IsStopped (call_of k enter o deeper p ps)
  called_none o deeper ps is d s = ap (λ q. call_of k enter q deeper p ps d s) is

pub run_only_at_its_place : RunOnlyAtItsPlace
run_only_at_its_place = record {
  lambda = λ k p l enter. stopped_by k p enter (kinds.Lambda l) _ (fold-lambda (compile_node k enter) (λ e. e.kind e.place) (λ b. record { labels = b.labels; does = b.body.does }) l) (λ d s. refl);
  letrec = λ k p g b keeps enter. stopped_by k p enter (kinds.Letrec g b) _ (fold-letrec (compile_node k enter) (λ e. e.kind e.place) (λ b. record { labels = b.labels; does = b.body.does }) g b) (unless_true k p enter (list_any (keeps_locals k) g) _ keeps);
  procedure = λ k p x l is enter. stopped_by k p enter (kinds.Global x) _ (fold-global (compile_node k enter) (λ e. e.kind e.place) (λ b. record { labels = b.labels; does = b.body.does }) x) (unless_true k p enter (is_some (procedure_of k x)) _ (ap is_some is));
  group_local = λ k p x l is enter. stopped_by k p enter (kinds.Local x) _ (fold-local (compile_node k enter) (λ e. e.kind e.place) (λ b. record { labels = b.labels; does = b.body.does }) x) (unless_true k p enter (is_some (letrec_lambda k x)) _ (ap is_some is));
  assignment = λ k p x l a is enter. stopped_by k p enter (kinds.SetGlobal x a) _ (fold-set (compile_node k enter) (λ e. e.kind e.place) (λ b. record { labels = b.labels; does = b.body.does }) x a) (unless_true k p enter (is_some (procedure_of k x)) _ (ap is_some is));
  call = λ k p f es none enter. stopped_by k p enter (kinds.Call f es) _ (fold-call (compile_node k enter) (λ e. e.kind e.place) (λ b. record { labels = b.labels; does = b.body.does }) f es) (called_none k p enter (part_of k enter f).names 1 _ (none enter));
  proper_call = λ k p f es none enter. stopped_by k p enter (kinds.ProperCall f es) _ (fold-proper (compile_node k enter) (λ e. e.kind e.place) (λ b. record { labels = b.labels; does = b.body.does }) f es) (called_none k p enter (part_of k enter f).names 0 _ (none enter));
  primitive = λ k p q vs s is. ap (λ (st : Stages). (if belongs st Compile then performing p (asked_at first_order k.kinds q vs Compile) (perform first_order k.kinds q vs Compile) else stop (misplaced Compile p)) s) is;
}
