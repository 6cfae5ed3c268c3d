-- A number that falls at each turn of the machine. No public clause cites this file.
use Rattle.std.specs.Prelude.{ℕ, ◌+◌, ◌*◌, Bool, true, false, List, [], ◌∷◌, sum, map, length}
use Rattle.ps_kernel.specs.declared.expr.Expr.{Expr, fold-Expr}
use Rattle.ps_kernel.specs.declared.expr.ExprKind.TheOpen.{ExprKind-F}
use Rattle.ps_kernel.specs.declared.expr.Labelled.{Labelled}
use Rattle.ps_kernel.specs.declared.kernel.Kernel.{Kernel}
use Rattle.ps_kernel.specs.declared.kernel.Lambda.{Lambda}
use Rattle.ps_kernel.specs.Marks.{body_of}
use Rattle.ps_slots.specs.declared.cell.Cell.{Cell}
use Rattle.ps_slots.specs.declared.cell.Cell.TheVariants.{Entered, Local, Waits}
use Rattle.ps_static_eval.specs.declared.machine.Waiting.{Waiting}
use Rattle.ps_static_eval.specs.declared.machine.Waiting.TheVariants as waiting
use Rattle.ps_static_eval.specs.declared.machine.Control.{Control}
use Rattle.ps_static_eval.specs.declared.machine.Control.TheVariants.{Work, Give, Take, Halted}

-- of operands: one more for each, for its value
abbrev pub operands_weight : List ℕ → ℕ
operands_weight [] = 0
operands_weight (w ∷ ws) = 1 + w + operands_weight ws

abbrev pub weight_node : ExprKind-F ℕ ℕ ℕ → ℕ
weight_node (ExprKind-F.Constant c) = 2
weight_node (ExprKind-F.Local x) = 2
weight_node (ExprKind-F.Global g) = 2
weight_node (ExprKind-F.Lambda l) = 2
weight_node (ExprKind-F.If a b c) = 1 + a + b + c
weight_node (ExprKind-F.Let x a b) = 2 + a + b
weight_node (ExprKind-F.Letrec g b) = 1 + b
weight_node (ExprKind-F.Begin es) = 3 + sum es
weight_node (ExprKind-F.SetGlobal g a) = 2 + a
weight_node (ExprKind-F.SetLocal x a) = 2 + a
weight_node (ExprKind-F.Case kind a bs e) = 1 + a + sum bs + e
weight_node (ExprKind-F.Call f es) = 4 + operands_weight es
weight_node (ExprKind-F.ProperCall f es) = 4 + operands_weight es
weight_node (ExprKind-F.Primitive p es) = 4 + operands_weight es

abbrev pub weight : Expr → ℕ
weight = fold-Expr ℕ ℕ ℕ weight_node (λ e. e.kind) (λ b. b.body)

abbrev pub branches_weight : List Labelled → ℕ
branches_weight [] = 0
branches_weight (b ∷ bs) = weight (body_of b) + branches_weight bs

abbrev pub waiting_weight : Waiting → ℕ
waiting_weight (waiting.Branch at b c) = weight b.now + weight c.now
waiting_weight (waiting.Choice at kind bs e) = branches_weight bs.now + weight e.now
waiting_weight (waiting.Body x b) = 1 + weight b.now
waiting_weight (waiting.Rest at es) = 1 + sum (map weight es.now)
waiting_weight (waiting.Assigned g) = 1
waiting_weight (waiting.Put at x) = 1
waiting_weight (waiting.Gather job at) = 1
waiting_weight (waiting.Operand v) = 1
waiting_weight (waiting.Operands es) = 2 + operands_weight (map weight es.now)

abbrev pub cell_weight : Cell Waiting → ℕ
cell_weight Entered = 1
cell_weight (Local x v) = 1
cell_weight (Waits w) = waiting_weight w

abbrev pub cells_weight : List (Cell Waiting) → ℕ
cells_weight cs = sum (map cell_weight cs)

abbrev pub control_weight : Control → ℕ
control_weight (Work e) = weight e.now
control_weight (Give v) = 1
control_weight Take = 1
control_weight (Halted h) = 0

abbrev pub bodies_of : List Lambda → ℕ
bodies_of [] = 0
bodies_of (m ∷ ms) = length m.parameters + weight m.body + bodies_of ms

abbrev pub bodies : Kernel → ℕ
bodies k = bodies_of k.lambdas

-- by the calls that are left
abbrev pub total : Kernel → Control → List (Cell Waiting) → ℕ → ℕ
total k c cs calls = calls * (bodies k + 1) + control_weight c + cells_weight cs

abbrev pub is_over : Control → List (Cell Waiting) → Bool
is_over (Halted h) cs = true
is_over (Give v) [] = true
is_over _ cs = false
