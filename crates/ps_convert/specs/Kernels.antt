-- The kernel of a program of procedures of integers (this project's own).
--
-- Read `kernel_of structure p` as: each procedure is a definition by a lambda, in the order of the program, so that `main` is
-- definition 0; each form of its body is a node of the kernel with the place of that form. Parameters are locals, numbered
-- from 0 through all procedures. Every call is one that nests.
use Rattle.std.specs.Prelude.{ℕ, zero, suc, ◌+◌, List, [], ◌∷◌, ◌++◌, map}
use Rattle.ps_base.specs.declared.faults.Place.{Place}
use Rattle.ps_base.specs.declared.names.Name.{Name}
use Rattle.ps_base.specs.declared.language.PrimName.{PrimName}
use Rattle.ps_base.specs.declared.language.PrimName.TheVariants as prims
use Rattle.ps_kernel.specs.declared.expr.Expr.{Expr}
use Rattle.ps_kernel.specs.declared.expr.ExprKind.TheVariants as kinds
use Rattle.ps_kernel.specs.declared.expr.Constant.TheVariants as constants
use Rattle.ps_kernel.specs.Texts.{expr_at}
use Rattle.ps_kernel.specs.declared.kernel.Lambda.{Lambda}
use Rattle.ps_kernel.specs.declared.kernel.Definition.{Definition}
use Rattle.ps_kernel.specs.declared.kernel.Form.{Form}
use Rattle.ps_kernel.specs.declared.kernel.Form.TheVariants.{Define}
use Rattle.ps_kernel.specs.declared.kernel.Kernel.{Kernel}
use Rattle.ps_plain.specs.declared.program.Operator.{Operator}
use Rattle.ps_plain.specs.declared.program.Operator.TheVariants as operators
use Rattle.ps_plain.specs.declared.program.Comparison.{Comparison}
use Rattle.ps_plain.specs.declared.program.Comparison.TheVariants as comparisons
use Rattle.ps_plain.specs.declared.program.Expr.{Expr as Plain, Expr-F, fold-Expr}
use Rattle.ps_plain.specs.declared.program.Write.{Write}
use Rattle.ps_plain.specs.declared.program.Procedure.{Procedure}
use Rattle.ps_plain.specs.declared.program.Program.{Program}

abbrev pub operator : Operator → PrimName
operator operators.Add = prims.Add
operator operators.Subtract = prims.Subtract
operator operators.Multiply = prims.Multiply

abbrev pub comparison : Comparison → PrimName
comparison comparisons.Less = prims.Less
comparison comparisons.Equal = prims.Equal

-- a primitive and its operands
abbrev pub primitive : Place → PrimName → List Expr → Expr
primitive p name es = expr_at p (kinds.Primitive name es)

-- one form, where its parts are converted, in a procedure whose first parameter is this local
abbrev pub node : ℕ → Expr-F Expr → Expr
node first (Expr-F.Integer p i) = expr_at p (kinds.Constant (constants.Integer i))
node first (Expr-F.Parameter p k) = expr_at p (kinds.Local (first + k))
node first (Expr-F.Operation p o a b) = primitive p (operator o) (a ∷ b ∷ [])
node first (Expr-F.If p at q a b c d) = expr_at p (kinds.If (primitive at (comparison q) (a ∷ b ∷ [])) c d)
node first (Expr-F.Call p at f es) = expr_at p (kinds.Call (expr_at at (kinds.Global f)) es)
node first (Expr-F.ReadByte p) = primitive p prims.ReadByte []

abbrev pub expr_of : ℕ → Plain → Expr
expr_of first = fold-Expr Expr (node first)

-- (write-byte e)
abbrev pub write_of : ℕ → Write → Expr
write_of first w = primitive w.place prims.WriteByte (expr_of first w.value ∷ [])

-- The writes, and then the value. A body of one form is that form.
abbrev pub sequence : Place → List Expr → Expr → Expr
sequence p [] value = value
sequence p (w ∷ ws) value = expr_at p (kinds.Begin ((w ∷ ws) ++ value ∷ []))

abbrev pub body_of : ℕ → Procedure → Expr
body_of first q = sequence q.place (map (write_of first) q.writes) (expr_of first q.value)

-- so many numbers from one on
abbrev pub numbers_from : ℕ → ℕ → List ℕ
numbers_from first zero = []
numbers_from first (suc n) = first ∷ numbers_from (suc first) n

abbrev pub lambda_of : ℕ → Procedure → Lambda
lambda_of first q = record { place = q.place; parameters = numbers_from first q.parameters; captured = []; body = body_of first q }

abbrev pub lambdas_from : ℕ → List Procedure → List Lambda
lambdas_from first [] = []
lambdas_from first (q ∷ qs) = lambda_of first q ∷ lambdas_from (first + q.parameters) qs

abbrev pub definition_of : Name → Procedure → Definition
definition_of structure q = record { structure = structure; name = q.name; place = q.place }

-- each definition by the lambda of its own number
abbrev pub forms_from : ℕ → List Procedure → List Form
forms_from n [] = []
forms_from n (q ∷ qs) = Define n (expr_at q.place (kinds.Lambda n)) ∷ forms_from (suc n) qs

abbrev pub kernel_of : Name → Program → Kernel
kernel_of structure p = record {
  definitions = map (definition_of structure) p.procedures;
  lambdas = lambdas_from 0 p.procedures;
  literals = [];
  kinds = [];
  forms = forms_from 0 p.procedures;
  main = 0;
}
