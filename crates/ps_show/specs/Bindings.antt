-- The locals of a kernel in the order in which its text binds them (R5RS 4.1.4, 4.2.2; the order is this project's own).
--
-- Read `binds` first: where an expression binds locals, a line for each kind of expression. A `let` binds its local before the
-- value, since the local stands before it in the text; a `letrec` binds each local before its lambda, and the next local behind
-- that lambda. The body of a lambda is read where the lambda stands. What lies below so many levels binds nothing: each level
-- of expressions opens a bracket, so that there is no text that deep.
use Rattle.std.specs.Prelude.{ℕ, zero, suc, nat_eq, List, [], ◌∷◌, ◌++◌, Option, Some, None, slice_get, if◌then◌else◌}
use Rattle.std.specs.List.{flat_map, fold, list_any}
use Rattle.ps_kernel.specs.declared.expr.GroupEntry.{GroupEntry}
use Rattle.ps_kernel.specs.declared.expr.Expr.{Expr, out-Expr}
use Rattle.ps_kernel.specs.declared.expr.ExprKind.{ExprKind, out-ExprKind}
use Rattle.ps_kernel.specs.declared.expr.ExprKind.TheOpen.{ExprKind-F}
use Rattle.ps_kernel.specs.declared.expr.Labelled.{Labelled}
use Rattle.ps_kernel.specs.declared.kernel.Kernel.{Kernel}
use Rattle.ps_kernel.specs.declared.kernel.Lambda.{Lambda}
use Rattle.ps_kernel.specs.Marks.{body_of}
use Rattle.ps_kernel.specs.Texts.{expr_of}

-- the most levels of brackets that a text has
abbrev pub most_levels : ℕ
most_levels = 200

-- how an expression is read
abbrev pub Reading : Type 0
Reading = Expr → List ℕ

abbrev pub lambda_binds : Reading → Option Lambda → List ℕ
lambda_binds inner None = []
lambda_binds inner (Some m) = m.parameters ++ inner m.body

abbrev pub all_bind : Reading → List Expr → List ℕ
all_bind inner es = flat_map inner es

abbrev pub branches_bind : Reading → List Labelled → List ℕ
branches_bind inner bs = flat_map (λ b. inner (body_of b)) bs

module _ (k : Kernel) where
  abbrev pub group_binds : Reading → List GroupEntry → List ℕ
  group_binds inner g = flat_map (λ (e : GroupEntry). e.local ∷ lambda_binds inner (slice_get k.lambdas e.lambda)) g

  abbrev pub kind_binds : Reading → ExprKind-F ExprKind Expr Labelled → List ℕ
  kind_binds inner (ExprKind-F.Constant c) = []
  kind_binds inner (ExprKind-F.Local x) = []
  kind_binds inner (ExprKind-F.Global g) = []
  kind_binds inner (ExprKind-F.Lambda l) = lambda_binds inner (slice_get k.lambdas l)
  kind_binds inner (ExprKind-F.If a b c) = inner a ++ (inner b ++ inner c)
  kind_binds inner (ExprKind-F.Let x a b) = x ∷ (inner a ++ inner b)
  kind_binds inner (ExprKind-F.Letrec g b) = group_binds inner g ++ inner b
  kind_binds inner (ExprKind-F.Begin es) = all_bind inner es
  kind_binds inner (ExprKind-F.SetGlobal g a) = inner a
  kind_binds inner (ExprKind-F.SetLocal x a) = inner a
  kind_binds inner (ExprKind-F.Case kind a bs e) = inner a ++ (branches_bind inner bs ++ inner e)
  kind_binds inner (ExprKind-F.Call f es) = inner f ++ all_bind inner es
  kind_binds inner (ExprKind-F.ProperCall f es) = inner f ++ all_bind inner es
  kind_binds inner (ExprKind-F.Primitive p es) = all_bind inner es

  -- the locals that an expression binds, read to so many levels
  unfoldable pub binds : ℕ → Reading
  binds zero e = []
  binds (suc n) e = kind_binds (binds n) (out-ExprKind (out-Expr e).kind)

  -- those of the forms in order
  unfoldable pub bound_locals : List ℕ
  bound_locals = flat_map (λ f. binds most_levels (expr_of f)) k.forms

-- a local behind those that were met before, where it was not met
abbrev pub met : List ℕ → ℕ → List ℕ
met seen x = if list_any (nat_eq x) seen then seen else seen ++ x ∷ []

-- the locals of a kernel, each once, in order of their binding
unfoldable pub order_of : Kernel → List ℕ
order_of k = fold met [] (bound_locals k)
