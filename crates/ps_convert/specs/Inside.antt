-- What the parts of the conversion promise each other. No public clause cites this file.
use Rattle.std.specs.Prelude.{ℕ, ◌+◌, List, [], ◌∷◌, Bool, true, ◌&&◌, nat_lt, map}
use Rattle.ps_plain.specs.declared.program.Expr.{Expr, Expr-F, fold-Expr}
use Rattle.ps_plain.specs.declared.program.Procedure.{Procedure}
use Rattle.ps_plain.specs.declared.program.Write.{Write}
use Rattle.ps_plain.specs.Valid.{all_true}

-- the parameters that an expression names are among the first n
abbrev pub within_node : ℕ → Expr-F Bool → Bool
within_node n (Expr-F.Integer p i) = true
within_node n (Expr-F.Parameter p k) = nat_lt k n
within_node n (Expr-F.Operation p o a b) = a && b
within_node n (Expr-F.If p at q a b c d) = a && (b && (c && d))
within_node n (Expr-F.Call p at f es) = all_true es
within_node n (Expr-F.ReadByte p) = true

abbrev pub within : ℕ → Expr → Bool
within n = fold-Expr Bool (within_node n)

-- the same of a whole procedure
abbrev pub write_within : ℕ → Write → Bool
write_within n w = within n w.value

abbrev pub procedure_within : Procedure → Bool
procedure_within q = all_true (map (write_within q.parameters) q.writes) && within q.parameters q.value

-- how many parameters procedures have together
abbrev pub parameters_in : List Procedure → ℕ
parameters_in [] = 0
parameters_in (q ∷ qs) = q.parameters + parameters_in qs
