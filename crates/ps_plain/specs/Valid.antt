-- When a program is valid: each parameter and each procedure that it names is there, calls have the right number of operands,
-- integers have 64 bits, and `main` has no parameters (this project's own).
use Rattle.std.specs.Prelude.{◌≡◌, ℕ, ◌≤◌, List, [], ◌∷◌, length, map, Bool, true, ◌&&◌, nat_lt, Some, slice_get}
use Rattle.std.specs.List.{AllByRecursion}
use Rattle.ps_base.specs.Numbers.{is_word}
use Rattle.ps_plain.specs.Most.{most_parameters}
use Rattle.ps_plain.specs.declared.program.Expr.{Expr, fold-Expr}
use Rattle.ps_plain.specs.declared.program.Expr.TheOpen.{Expr-F}
use Rattle.ps_plain.specs.declared.program.Write.{Write}
use Rattle.ps_plain.specs.declared.program.Procedure.{Procedure}
use Rattle.ps_plain.specs.declared.program.Program.{Program}
use Rattle.ps_plain.specs.Forms.{has_arity}

-- what an expression may name: so many parameters, and procedures with these numbers of parameters
pub record Named : Type 0 where
  pub parameters : ℕ
  pub procedures : List ℕ

abbrev pub all_true : List Bool → Bool
all_true [] = true
all_true (b ∷ bs) = b && all_true bs

-- one node, where it is said of its parts whether they are valid
abbrev pub valid_node : Named → Expr-F Bool → Bool
valid_node n (Expr-F.Integer p i) = is_word i
valid_node n (Expr-F.Parameter p k) = nat_lt k n.parameters
valid_node n (Expr-F.Operation p o a b) = a && b
valid_node n (Expr-F.If p at q a b c d) = a && b && c && d
valid_node n (Expr-F.Call p at f es) = has_arity (length es) (slice_get n.procedures f) && all_true es
valid_node n (Expr-F.ReadByte p) = true

abbrev pub valid : Named → Expr → Bool
valid n = fold-Expr Bool (valid_node n)

-- how many parameters each procedure has
abbrev pub arities_of : Program → List ℕ
arities_of p = map (λ q. q.parameters) p.procedures

-- what the body of a procedure may name
abbrev pub named_in : List ℕ → Procedure → Named
named_in arities q = record { parameters = q.parameters; procedures = arities }

pub record IsProcedure (arities : List ℕ) (q : Procedure) : Type 0 where
  pub few : q.parameters ≤ most_parameters
  pub writes : AllByRecursion (λ (w : Write). valid (named_in arities q) w.value ≡ true) q.writes
  pub value : valid (named_in arities q) q.value ≡ true

pub record IsValid (p : Program) : Type 0 where
  pub main : slice_get (arities_of p) 0 ≡ Some 0
  pub procedures : AllByRecursion (IsProcedure (arities_of p)) p.procedures
