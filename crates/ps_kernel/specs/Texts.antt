-- The texts of forms and of lambdas, and what the text of a kernel says of its numbers (R5RS 4.1.4 and 4.2.2 for lambdas and
-- locals). All of it is read off marks.
use Rattle.std.specs.Prelude.{ℕ, ◌==◌, false, List, [], ◌∷◌, Option, Some, None, slice_get, if◌then◌else◌}
use Rattle.std.specs.List.{flat_map}
use Rattle.ps_base.specs.declared.faults.Place.{Place}
use Rattle.ps_kernel.specs.declared.expr.Expr.{Expr, fold-Expr, roll-Expr}
use Rattle.ps_kernel.specs.declared.expr.ExprKind.{ExprKind}
use Rattle.ps_kernel.specs.declared.expr.ExprKind.TheOpen.{ExprKind-F}
use Rattle.ps_kernel.specs.declared.expr.GroupEntry.{GroupEntry}
use Rattle.ps_kernel.specs.declared.kernel.Kernel.{Kernel}
use Rattle.ps_kernel.specs.declared.kernel.Form.{Form}
use Rattle.ps_kernel.specs.declared.kernel.Form.TheVariants.{Define, Do}
use Rattle.ps_kernel.specs.Most.{most_depth}
use Rattle.ps_kernel.specs.Marks.{Mark, Stands, BindsParameter, BindsLet, BindsEntry, Mentions, Sets, Whole, marks, body_marks}

-- ---- what marks say

-- the lambdas that stand there, in order
abbrev pub standing : List Mark → List ℕ
standing [] = []
standing (Stands l g ∷ ms) = l ∷ standing ms
standing (m ∷ ms) = standing ms

-- the locals that are bound
abbrev pub bound : List Mark → List ℕ
bound [] = []
bound (BindsParameter x ∷ ms) = x ∷ bound ms
bound (BindsLet x ∷ ms) = x ∷ bound ms
bound (BindsEntry e ∷ ms) = e.local ∷ bound ms
bound (m ∷ ms) = bound ms

-- the locals that are mentioned or assigned
abbrev pub named : List Mark → List ℕ
named [] = []
named (Mentions x scope ∷ ms) = x ∷ named ms
named (Sets x scope ∷ ms) = x ∷ named ms
named (m ∷ ms) = named ms

-- the locals that are assigned
abbrev pub assigned : List Mark → List ℕ
assigned [] = []
assigned (Sets x scope ∷ ms) = x ∷ assigned ms
assigned (m ∷ ms) = assigned ms

-- the locals that letrecs bind
abbrev pub entries : List Mark → List ℕ
entries [] = []
entries (BindsEntry e ∷ ms) = e.local ∷ entries ms
entries (m ∷ ms) = entries ms

-- the group in which a lambda stands, or no entries where it stands in none
abbrev pub group_in : ℕ → List Mark → List GroupEntry
group_in l [] = []
group_in l (Stands n g ∷ ms) = if l == n then g else group_in l ms
group_in l (m ∷ ms) = group_in l ms

-- the entry of a local that a letrec binds
abbrev pub entry_in : ℕ → List Mark → Option GroupEntry
entry_in x [] = None
entry_in x (BindsEntry e ∷ ms) = if x == e.local then Some e else entry_in x ms
entry_in x (m ∷ ms) = entry_in x ms

-- ---- texts

-- an expression of a kind at a place
abbrev pub expr_at : Place → ExprKind → Expr
expr_at at kind = roll-Expr (record { place = at; kind = kind })

-- the expression of a form
abbrev pub expr_of : Form → Expr
expr_of (Define g e) = e
expr_of (Do e) = e

-- the marks of forms, read to so many levels: their expressions stand in no tail position, and no local is in scope
abbrev pub form_marks : Kernel → ℕ → List Form → List Mark
form_marks k n fs = flat_map (λ f. marks k n false [] (Whole (expr_of f))) fs

unfoldable pub text : Kernel → List Mark
text k = form_marks k most_depth k.forms

-- the text of a lambda: its parameters and its body, with the lambdas inside
unfoldable pub lambda_text : Kernel → ℕ → List Mark
lambda_text k l = body_marks (marks k most_depth) [] (slice_get k.lambdas l)

unfoldable pub group_of : Kernel → ℕ → List GroupEntry
group_of k l = group_in l (text k)

unfoldable pub entry_of : Kernel → ℕ → Option GroupEntry
entry_of k x = entry_in x (text k)

-- ---- definitions

-- the lambda that an expression is
abbrev pub lambda_node : ExprKind-F (Option ℕ) (Option ℕ) (Option ℕ) → Option ℕ
lambda_node (ExprKind-F.Lambda l) = Some l
lambda_node _ = None

abbrev pub lambda_in : Expr → Option ℕ
lambda_in = fold-Expr (Option ℕ) (Option ℕ) (Option ℕ) lambda_node (λ e. e.kind) (λ b. b.body)

-- a definition whose form defines it by a lambda is a procedure definition
abbrev pub defined_by : ℕ → List Form → Option ℕ
defined_by g [] = None
defined_by g (Define d e ∷ fs) = if g == d then lambda_in e else defined_by g fs
defined_by g (Do e ∷ fs) = defined_by g fs

abbrev pub procedure_of : Kernel → ℕ → Option ℕ
procedure_of k g = defined_by g k.forms
