-- The statements that compute a program (this project's own).
use Rattle.std.specs.Prelude.{ℕ, ◌+◌, List, [], ◌∷◌, ◌++◌, map}
use Rattle.ps_plain.specs.declared.program.Expr.{Expr, fold-Expr}
use Rattle.ps_plain.specs.declared.program.Expr.TheOpen.{Expr-F}
use Rattle.ps_plain.specs.declared.program.Operator.{Operator}
use Rattle.ps_plain.specs.declared.program.Operator.TheVariants as source
use Rattle.ps_plain.specs.declared.program.Comparison.{Comparison}
use Rattle.ps_plain.specs.declared.program.Comparison.TheVariants as comparisons
use Rattle.ps_plain.specs.declared.program.Write.{Write}
use Rattle.ps_plain.specs.declared.program.Procedure.{Procedure}
use Rattle.ps_plain.specs.declared.program.Program.{Program}
use Rattle.c_ast.specs.declared.unit.Atom.{Atom}
use Rattle.c_ast.specs.declared.unit.Atom.TheVariants as atoms
use Rattle.c_ast.specs.declared.unit.BinaryOperator.{BinaryOperator}
use Rattle.c_ast.specs.declared.unit.BinaryOperator.TheVariants as operators
use Rattle.c_ast.specs.declared.unit.Statement.{Statement}
use Rattle.c_ast.specs.declared.unit.Statement.TheVariants as statements
use Rattle.c_ast.specs.declared.unit.CFunction.{CFunction}
use Rattle.c_ast.specs.declared.unit.CUnit.{CUnit}

-- Code that takes its variables and its labels from two numbers on.
pub record Coded : Type 0 where
  -- how many variables it takes
  pub size : ℕ
  -- how many labels it takes
  pub labels : ℕ
  -- where the value is at the end
  pub atom : ℕ → Atom
  pub statements : ℕ → ℕ → List Statement

abbrev pub operator_of : Operator → BinaryOperator
operator_of source.Add = operators.Add
operator_of source.Subtract = operators.Subtract
operator_of source.Multiply = operators.Multiply

abbrev pub comparison_of : Comparison → BinaryOperator
comparison_of comparisons.Less = operators.Less
comparison_of comparisons.Equal = operators.Equal

-- the left operand, the right operand, and then the operation, whose result has a variable of its own
abbrev pub operation_code : BinaryOperator → Coded → Coded → ℕ → ℕ → List Statement
operation_code o a b k l =
    a.statements k l ++ (b.statements (k + a.size) (l + a.labels)
    ++ (statements.Operation (k + a.size + b.size) (a.atom k) o (b.atom (k + a.size)) ∷ []))

-- an expression whose value goes to a variable
abbrev pub branch_code : Coded → ℕ → ℕ → ℕ → List Statement
branch_code e target k l = e.statements k l ++ (statements.Move target (e.atom k) ∷ [])

-- The test; a jump behind the first label where it holds; the second branch, and a jump to the end; the first label and the
-- first branch; the end. Both branches assign the variable of the test.
abbrev pub if_code : BinaryOperator → Coded → Coded → Coded → Coded → ℕ → ℕ → List Statement
if_code o a b c d k l =
    let target = k + a.size + b.size in
    let inner = l + a.labels + b.labels in
    let then_label = inner + d.labels in
    let end_label = then_label + 1 + c.labels in
    operation_code o a b k l
    ++ (statements.IfGoto (atoms.Variable target) then_label
    ∷ (branch_code d target (target + 1) inner
    ++ (statements.Goto end_label
    ∷ statements.Label then_label
    ∷ (branch_code c target (target + 1 + d.size) (then_label + 1) ++ (statements.Label end_label ∷ [])))))

-- The operands of a call: each is computed, and goes to a variable of its own.
abbrev pub operands_size : List Coded → ℕ
operands_size [] = 0
operands_size (c ∷ cs) = c.size + 1 + operands_size cs

abbrev pub operands_labels : List Coded → ℕ
operands_labels [] = 0
operands_labels (c ∷ cs) = c.labels + operands_labels cs

abbrev pub operands_code : List Coded → ℕ → ℕ → List Statement
operands_code [] k l = []
operands_code (c ∷ cs) k l = branch_code c (k + c.size) k l ++ operands_code cs (k + (c.size + 1)) (l + c.labels)

-- the variables of the operands
abbrev pub operands_places : List Coded → ℕ → List ℕ
operands_places [] k = []
operands_places (c ∷ cs) k = (k + c.size) ∷ operands_places cs (k + (c.size + 1))

abbrev pub coded_node : Expr-F Coded → Coded
coded_node (Expr-F.Integer p i) = record { size = 0; labels = 0; atom = λ k. atoms.Integer i; statements = λ k l. [] }
coded_node (Expr-F.Parameter p i) = record { size = 0; labels = 0; atom = λ k. atoms.Variable i; statements = λ k l. [] }
coded_node (Expr-F.Operation p o a b) = record {
  size = a.size + b.size + 1;
  labels = a.labels + b.labels;
  atom = λ k. atoms.Variable (k + a.size + b.size);
  statements = operation_code (operator_of o) a b;
}
coded_node (Expr-F.If p at q a b c d) = record {
  size = a.size + b.size + 1 + d.size + c.size;
  labels = a.labels + b.labels + d.labels + 1 + c.labels + 1;
  atom = λ k. atoms.Variable (k + a.size + b.size);
  statements = if_code (comparison_of q) a b c d;
}
coded_node (Expr-F.Call p at f cs) = record {
  size = operands_size cs + 1;
  labels = operands_labels cs;
  atom = λ k. atoms.Variable (k + operands_size cs);
  statements = λ k l. operands_code cs k l ++ (statements.Call (k + operands_size cs) f (operands_places cs k) ∷ []);
}
coded_node (Expr-F.ReadByte p) = record { size = 1; labels = 0; atom = λ k. atoms.Variable k; statements = λ k l. statements.Read k ∷ [] }

abbrev pub coded : Expr → Coded
coded = fold-Expr Coded coded_node

-- how many variables and labels some writes take, and their statements
abbrev pub writes_size : List Write → ℕ
writes_size [] = 0
writes_size (w ∷ ws) = (coded w.value).size + 1 + writes_size ws

abbrev pub writes_labels : List Write → ℕ
writes_labels [] = 0
writes_labels (w ∷ ws) = (coded w.value).labels + writes_labels ws

-- each write computes its operand, and has a variable of its own
abbrev pub writes_code : List Write → ℕ → ℕ → List Statement
writes_code [] k l = []
writes_code (w ∷ ws) k l =
    ((coded w.value).statements k l ++ (statements.Write (k + (coded w.value).size) ((coded w.value).atom k) ∷ []))
    ++ writes_code ws (k + ((coded w.value).size + 1)) (l + (coded w.value).labels)

-- The function of a procedure: its first variables are its parameters.
abbrev pub statements_of : Procedure → List Statement
statements_of q =
    let k = q.parameters + writes_size q.writes in
    let l = writes_labels q.writes in
    writes_code q.writes q.parameters 0 ++ ((coded q.value).statements k l ++ (statements.Return ((coded q.value).atom k) ∷ []))

abbrev pub function_of : Procedure → CFunction
function_of q = record {
  parameters = q.parameters;
  locals = writes_size q.writes + (coded q.value).size;
  statements = statements_of q;
}

-- a function for each procedure, with its number
abbrev pub unit_of : Program → CUnit
unit_of p = record { functions = map function_of p.procedures }
