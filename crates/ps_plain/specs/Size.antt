-- How large a program is: no larger than its text has tokens (this project's own).
use Rattle.std.specs.Prelude.{ℕ, ◌+◌, map}
use Rattle.ps_base.specs.Numbers.{sum_of}
use Rattle.ps_plain.specs.declared.program.Expr.{Expr, fold-Expr}
use Rattle.ps_plain.specs.declared.program.Expr.TheOpen.{Expr-F}
use Rattle.ps_plain.specs.declared.program.Write.{Write}
use Rattle.ps_plain.specs.declared.program.Procedure.{Procedure}
use Rattle.ps_plain.specs.declared.program.Program.{Program}

abbrev pub size_node : Expr-F ℕ → ℕ
size_node (Expr-F.Integer p i) = 1
size_node (Expr-F.Parameter p k) = 1
size_node (Expr-F.Operation p o a b) = 1 + a + b
size_node (Expr-F.If p at q a b c d) = 2 + a + b + c + d
size_node (Expr-F.Call p at f es) = 2 + sum_of es
size_node (Expr-F.ReadByte p) = 2

abbrev pub size : Expr → ℕ
size = fold-Expr ℕ size_node

abbrev pub write_size : Write → ℕ
write_size w = size w.value

abbrev pub procedure_size : Procedure → ℕ
procedure_size q = 1 + q.parameters + sum_of (map write_size q.writes) + size q.value

abbrev pub program_size : Program → ℕ
program_size p = sum_of (map procedure_size p.procedures)
