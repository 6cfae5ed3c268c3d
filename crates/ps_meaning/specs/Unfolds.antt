-- A case does what it unfolds to (R5RS 4.2.1).
--
-- Read `lacks_node` as a table with a row for each kind of expression: the local occurs nowhere in the expression, and no
-- procedure that is made there keeps it. The local of what a case unfolds to is such a one. Then the law is an equation: at
-- each stage, at each depth and in each state, with however many calls, the two do the same.
use Rattle.std.specs.Prelude.{◌≡◌, ℕ, Bool, true, not, ◌&&◌, nat_eq, List, None}
use Rattle.std.specs.List.{list_all}
use Rattle.ps_base.specs.declared.faults.Place.{Place}
use Rattle.byte_store.specs.declared.pointer.Value.{Value}
use Rattle.ps_kernel.specs.declared.expr.CaseKind.{CaseKind}
use Rattle.ps_kernel.specs.declared.expr.GroupEntry.{GroupEntry}
use Rattle.ps_kernel.specs.declared.expr.Expr.{Expr, fold-Expr}
use Rattle.ps_kernel.specs.declared.expr.ExprKind.TheVariants.{Case}
use Rattle.ps_kernel.specs.declared.expr.ExprKind.TheOpen.{ExprKind-F}
use Rattle.ps_kernel.specs.declared.expr.Labelled.{Labelled}
use Rattle.ps_kernel.specs.declared.kernel.Kernel.{Kernel}
use Rattle.ps_kernel.specs.Marks.{body_of}
use Rattle.ps_kernel.specs.Rules.{are_branches}
use Rattle.ps_kernel.specs.Scoped.{captured_of}
use Rattle.ps_kernel.specs.Texts.{entry_of, expr_at}
use Rattle.ps_kernel.specs.Unfold.{unfolded}
use Rattle.ps_runs.specs.Runs.{State}
use Rattle.ps_meaning.specs.Values.{RunValue}
use Rattle.ps_meaning.specs.Eval.{run, run_enters, compile, compile_enters}

module _ (k : Kernel) (x : ℕ) where
  abbrev pub is_other : ℕ → Bool
  is_other y = not (nat_eq y x)

  -- the procedure of a lambda does not keep the local
  abbrev pub keeps_not : ℕ → Bool
  keeps_not l = list_all is_other (captured_of k l)

  abbrev pub entry_lacks : GroupEntry → Bool
  entry_lacks e = keeps_not e.lambda

  abbrev pub all_lack : List Bool → Bool
  all_lack bs = list_all (λ b. b) bs

  abbrev pub lacks_node : ExprKind-F Bool Bool Bool → Bool
  lacks_node (ExprKind-F.Constant c) = true
  lacks_node (ExprKind-F.Local y) = is_other y
  lacks_node (ExprKind-F.Global g) = true
  lacks_node (ExprKind-F.Lambda l) = keeps_not l
  lacks_node (ExprKind-F.If a b c) = a && (b && c)
  lacks_node (ExprKind-F.Let y a b) = a && b
  lacks_node (ExprKind-F.Letrec g b) = list_all entry_lacks g && b
  lacks_node (ExprKind-F.Begin es) = all_lack es
  lacks_node (ExprKind-F.SetGlobal g a) = a
  lacks_node (ExprKind-F.SetLocal y a) = is_other y && a
  lacks_node (ExprKind-F.Case kind a bs e) = a && (all_lack bs && e)
  lacks_node (ExprKind-F.Call f es) = f && all_lack es
  lacks_node (ExprKind-F.ProperCall f es) = f && all_lack es
  lacks_node (ExprKind-F.Primitive p es) = all_lack es

  abbrev pub lacks : Expr → Bool
  lacks = fold-Expr Bool Bool Bool lacks_node (λ e. e.kind) (λ b. b.body)

  -- the local occurs in none of the branches, nor in the last expression, and no letrec binds it
  pub record IsHidden (bs : List Labelled) (e : Expr) : Type 0 where
    pub branches : list_all (λ b. lacks (body_of b)) bs ≡ true
    pub last : lacks e ≡ true
    pub no_entry : entry_of k x ≡ None

module _ (k : Kernel) (at : Place) (kind : CaseKind) (x : ℕ) (a : Expr) (bs : List Labelled) (e : Expr) where
  abbrev pub SameAtRun : Type 0
  SameAtRun = (n d : ℕ) (s : State RunValue) →
      run k (run_enters k n) (expr_at at (Case kind a bs e)) d s ≡ run k (run_enters k n) (unfolded at kind x a bs e) d s

  abbrev pub SameAtCompile : Type 0
  SameAtCompile = (n d : ℕ) (s : State Value) →
      compile k (compile_enters k n) (expr_at at (Case kind a bs e)) d s ≡ compile k (compile_enters k n) (unfolded at kind x a bs e) d s

abbrev pub CasesDoWhatTheyUnfoldTo : Type 0
CasesDoWhatTheyUnfoldTo = (k : Kernel) (at : Place) (kind : CaseKind) (x : ℕ) (a : Expr) (bs : List Labelled) (e : Expr) →
    are_branches kind bs ≡ true → IsHidden k x bs e → SameAtRun k at kind x a bs e × SameAtCompile k at kind x a bs e
