-- The code of a program takes no more variables and labels than the program is large.
-- For: build_unit, build
use Rattle.std.proofs.Common.{◌≡◌, ℕ, zero, suc, ◌+◌, ◌<◌, ◌≤◌, List, [], ◌∷◌, length, map, get_or, sym, ap, subst, arith}
use Rattle.std.specs.List.{AllByRecursion}
use Rattle.ps_base.specs.Numbers.{sum_of}
use Rattle.ps_plain.specs.declared.program.Expr.{Expr}
use Rattle.ps_plain.specs.declared.program.Expr.TheVariants as exprs
use Rattle.ps_plain.specs.declared.program.Write.{Write}
use Rattle.ps_plain.specs.declared.program.Procedure.{Procedure}
use Rattle.ps_plain.specs.Size.{size_node, size, write_size, procedure_size}
use Rattle.ps_plain.proofs.Trees.{induction, fold-integer, fold-parameter, fold-operation, fold-if, fold-call, fold-read}
use Rattle.c_emit.specs.InsideCode.{Coded, coded_node, coded, operands_size, operands_labels, writes_size, writes_labels}

-- the code has fewer variables and labels than the size says
pub record Smaller (c : Coded) (n : ℕ) : Type 0 where
  pub variables : c.size + 1 ≤ n
  pub labels : c.labels + 1 ≤ n

abbrev pub IsSmaller : Expr → Type 0
IsSmaller e = Smaller (coded e) (size e)

-- what is said of a node is said of the expression
by-clauses : (e : Expr) (c : Coded) (n : ℕ) → coded e ≡ c → size e ≡ n → Smaller c n → IsSmaller e
by-clauses e c n is size_is h = subst (λ x. Smaller x (size e)) (sym is) (subst (Smaller c) (sym size_is) h)

operands-small : (es : List Expr) → AllByRecursion IsSmaller es → (operands_size (map coded es) ≤ sum_of (map size es)) × (operands_labels (map coded es) ≤ sum_of (map size es))
operands-small [] h = (omega arith, omega arith)
operands-small (e ∷ es) h =
    let rest = operands-small es h.1 in
    let first = h.0 in
    (omega (arith, rest.0, first.variables), omega (arith, rest.1, first.labels))

pub smaller : (e : Expr) → Smaller (coded e) (size e)
smaller = induction IsSmaller
    (λ p i. by-clauses (exprs.Integer p i) _ _ (fold-integer coded_node p i) (fold-integer size_node p i) (record { variables = omega arith; labels = omega arith }))
    (λ p k. by-clauses (exprs.Parameter p k) _ _ (fold-parameter coded_node p k) (fold-parameter size_node p k) (record { variables = omega arith; labels = omega arith }))
    (λ p o a b ha hb. by-clauses (exprs.Operation p o a b) _ _ (fold-operation coded_node p o a b) (fold-operation size_node p o a b) (record { variables = omega (arith, ha.variables, hb.variables); labels = omega (arith, ha.labels, hb.labels) }))
    (λ p at q a b c d ha hb hc hd. by-clauses (exprs.If p at q a b c d) _ _ (fold-if coded_node p at q a b c d) (fold-if size_node p at q a b c d)
    (record { variables = omega (arith, ha.variables, hb.variables, hc.variables, hd.variables); labels = omega (arith, ha.labels, hb.labels, hc.labels, hd.labels) }))
    (λ p at f es hs. let small = operands-small es hs in by-clauses (exprs.Call p at f es) _ _ (fold-call coded_node p at f es) (fold-call size_node p at f es) (record { variables = omega (arith, small.0); labels = omega (arith, small.1) }))
    (λ p. by-clauses (exprs.ReadByte p) _ _ (fold-read coded_node p) (fold-read size_node p) (record { variables = omega arith; labels = omega arith }))

writes-small : (ws : List Write) → (writes_size ws ≤ sum_of (map write_size ws)) × (writes_labels ws ≤ sum_of (map write_size ws))
writes-small [] = (omega arith, omega arith)
writes-small (w ∷ ws) =
    let rest = writes-small ws in
    let first = smaller w.value in
    (omega (arith, rest.0, first.variables), omega (arith, rest.1, first.labels))

pub procedure-small : (q : Procedure) → (q.parameters + (writes_size q.writes + (coded q.value).size) + 1 ≤ procedure_size q) × (writes_labels q.writes + (coded q.value).labels + 1 ≤ procedure_size q)
procedure-small q =
    let ws = writes-small q.writes in
    let v = smaller q.value in
    (omega (arith, ws.0, v.variables), omega (arith, ws.1, v.labels))

-- each procedure is no larger than all of them
pub one-small : (qs : List Procedure) (i : ℕ) (q : Procedure) → i < length qs → q ≡ get_or qs i q → procedure_size q ≤ sum_of (map procedure_size qs)
one-small [] i q lt is = absurd (omega arith)
one-small (x ∷ qs) zero q lt is = omega (arith, ap procedure_size is)
one-small (x ∷ qs) (suc i) q lt is = omega (arith, one-small qs i q (omega arith) is)
