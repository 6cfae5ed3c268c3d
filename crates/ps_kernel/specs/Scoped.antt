-- Which locals an expression may name (R5RS 3.1), without the bodies of the lambdas that stand in it.
--
-- Read `scoped_node` as a table with a row for each kind of expression. The locals in scope are told apart: those that the
-- expression's own lambda binds as parameters or by lets, and those that its procedure keeps or a letrec binds. A local of
-- either kind may be mentioned, and one of the first kind assigned. Where a lambda stands, what its procedure keeps is in
-- scope, and its group is the one in which it stands.
use Rattle.std.specs.Prelude.{◌≡◌, ℕ, Bool, true, ◌||◌, ◌&&◌, List, [], ◌∷◌, ◌++◌, Option, Some, None, slice_get, filter, ◌==◌, false}
use Rattle.std.specs.List.{list_all}
use Rattle.ps_kernel.specs.declared.expr.Expr.{Expr, fold-Expr}
use Rattle.ps_kernel.specs.declared.expr.ExprKind.TheOpen.{ExprKind-F}
use Rattle.ps_kernel.specs.declared.expr.GroupEntry.{GroupEntry}
use Rattle.ps_kernel.specs.declared.kernel.Form.{Form}
use Rattle.ps_kernel.specs.declared.kernel.Kernel.{Kernel}
use Rattle.ps_kernel.specs.declared.kernel.Lambda.{Lambda}
use Rattle.ps_kernel.specs.Lists.{stands_in, Each}
use Rattle.ps_kernel.specs.Marks.{locals_of}
use Rattle.ps_kernel.specs.Texts.{named, lambda_text, group_of, expr_of}

-- whether an expression names what it may, where its lambda binds these locals, and keeps those
abbrev pub Scoping : Type 0
Scoping = List ℕ → List ℕ → Bool

abbrev pub is_seen : ℕ → Scoping
is_seen x own kept = stands_in x own || stands_in x kept

abbrev pub each_scoped : List Scoping → Scoping
each_scoped [] own kept = true
each_scoped (p ∷ ps) own kept = p own kept && each_scoped ps own kept

abbrev pub captured_in : Option Lambda → List ℕ
captured_in None = []
captured_in (Some m) = m.captured

abbrev pub same_group : List GroupEntry → List GroupEntry → Bool
same_group [] [] = true
same_group [] (e ∷ es) = false
same_group (d ∷ ds) [] = false
same_group (d ∷ ds) (e ∷ es) = (d.local == e.local && d.lambda == e.lambda) && same_group ds es

module _ (k : Kernel) where
  -- the locals that the procedure of a lambda keeps
  abbrev pub captured_of : ℕ → List ℕ
  captured_of l = captured_in (slice_get k.lambdas l)

  -- the procedure of a lambda can be made
  abbrev pub can_make : ℕ → Scoping
  can_make l own kept = list_all (λ x. is_seen x own kept) (captured_of l)

  -- a lambda that stands in this group or in none, and whose procedure can be made
  abbrev pub stands_right : ℕ → List GroupEntry → Scoping
  stands_right l g own kept = same_group (group_of k l) g && can_make l own kept

  abbrev pub scoped_node : ExprKind-F Scoping Scoping Scoping → Scoping
  scoped_node (ExprKind-F.Constant c) own kept = true
  scoped_node (ExprKind-F.Local x) own kept = is_seen x own kept
  scoped_node (ExprKind-F.Global g) own kept = true
  scoped_node (ExprKind-F.Lambda l) own kept = stands_right l [] own kept
  scoped_node (ExprKind-F.If a b c) own kept = a own kept && (b own kept && c own kept)
  scoped_node (ExprKind-F.Let x a b) own kept = a own kept && b (x ∷ own) kept
  scoped_node (ExprKind-F.Letrec g b) own kept =
      list_all (λ (e : GroupEntry). stands_right e.lambda g own kept) g && b own (locals_of g ++ kept)
  scoped_node (ExprKind-F.Begin es) own kept = each_scoped es own kept
  scoped_node (ExprKind-F.SetGlobal g a) own kept = a own kept
  scoped_node (ExprKind-F.SetLocal x a) own kept = stands_in x own && a own kept
  scoped_node (ExprKind-F.Case kind a bs e) own kept = a own kept && (each_scoped bs own kept && e own kept)
  scoped_node (ExprKind-F.Call f es) own kept = f own kept && each_scoped es own kept
  scoped_node (ExprKind-F.ProperCall f es) own kept = f own kept && each_scoped es own kept
  scoped_node (ExprKind-F.Primitive p es) own kept = each_scoped es own kept

  abbrev pub scoped : Expr → Scoping
  scoped = fold-Expr Scoping Scoping Scoping scoped_node (λ e. e.kind) (λ b. b.body)

  -- the locals of the group of a lambda that its text mentions: entering binds them
  abbrev pub mentioned : ℕ → List GroupEntry
  mentioned l = filter (λ (e : GroupEntry). stands_in e.local (named (lambda_text k l))) (group_of k l)

  -- a body may name its parameters, the locals of its group that its text mentions, and what its procedure keeps
  pub record IsScopedBody (l : ℕ) (m : Lambda) : Type 0 where
    pub scopes : scoped m.body m.parameters (locals_of (mentioned l) ++ m.captured) ≡ true
    -- and the procedures of those locals can be made of what its own procedure keeps
    pub makes : list_all (λ (e : GroupEntry). can_make e.lambda [] m.captured) (mentioned l) ≡ true

  abbrev pub IsScopedForm : Form → Type 0
  IsScopedForm f = scoped (expr_of f) [] [] ≡ true

  pub record AreScoped : Type 0 where
    pub bodies : (l : ℕ) (m : Lambda) → slice_get k.lambdas l ≡ Some m → IsScopedBody l m
    pub forms : Each IsScopedForm k.forms
