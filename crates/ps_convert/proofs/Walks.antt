-- Lists that are converted one member after another, and what is within of an expression.
-- For: `convert`
use Rattle.std.proofs.Common.{◌≡◌, ℕ, suc, ◌+◌, ◌-◌, ◌≤◌, ◌<◌, List, [], ◌∷◌, length, map, refl, sym, ap, ◌∙◌, arith}
use Rattle.std.specs.Prelude.{Bool, true, false, ◌&&◌, nat_lt, slice_get}
use Rattle.std.specs.List.{AllByRecursion}
use Rattle.std.proofs.lemmas.Bool.{and_parts}
use Rattle.ps_base.specs.Numbers.{sum_of}
use Rattle.ps_base.specs.declared.faults.Place.{Place}
use Rattle.ps_plain.specs.declared.program.Comparison.{Comparison}
use Rattle.ps_plain.specs.declared.program.Operator.{Operator}
use Rattle.ps_plain.specs.declared.program.Expr.{Expr as Plain}
use Rattle.ps_plain.specs.declared.program.Expr.TheVariants as plain
use Rattle.ps_plain.specs.declared.program.Write.{Write}
use Rattle.ps_plain.specs.declared.program.Procedure.{Procedure}
use Rattle.ps_plain.specs.declared.program.Program.{Program}
use Rattle.ps_plain.specs.Size.{procedure_size, program_size}
use Rattle.ps_plain.specs.Valid.{all_true, Named, valid_node, valid, named_in, arities_of, IsProcedure, IsValid}
use Rattle.ps_plain.specs.Forms.{has_arity}
use Rattle.ps_plain.proofs.Trees.{induction, fold-integer, fold-parameter, fold-operation, fold-if, fold-call, fold-read}
use Rattle.ps_convert.specs.Kernels.{numbers_from}
use Rattle.ps_convert.specs.Inside.{within_node, within, write_within, procedure_within, parameters_in}

-- ---- numbers

-- the first of some numbers, and the others
pub numbers_step : (n m : ℕ) → n < m → numbers_from n (m - n) ≡ n ∷ numbers_from (n + 1) (m - (n + 1))
numbers_step n m lt =
    let one : suc n ≡ n + 1 = omega arith in
    let left : m - n ≡ suc (m - (n + 1)) = omega arith in
    ap (numbers_from n) left ∙ ap (λ k. n ∷ numbers_from k (m - (n + 1))) one

-- ---- within: its parts

pub operation_parts : (n : ℕ) (p : Place) (o : Operator) (a b : Plain) → within n (plain.Operation p o a b) ≡ true → (within n a ≡ true) × (within n b ≡ true)
operation_parts n p o a b is = and_parts (within n a) (within n b) (sym (fold-operation (within_node n) p o a b) ∙ is)

pub call_parts : (n : ℕ) (p at : Place) (f : ℕ) (es : List Plain) → within n (plain.Call p at f es) ≡ true → all_true (map (within n) es) ≡ true
call_parts n p at f es is = sym (fold-call (within_node n) p at f es) ∙ is

pub parameter_parts : (n : ℕ) (p : Place) (k : ℕ) → within n (plain.Parameter p k) ≡ true → nat_lt k n ≡ true
parameter_parts n p k is = sym (fold-parameter (within_node n) p k) ∙ is

pub if_parts : (n : ℕ) (p at : Place) (q : Comparison) (a b c d : Plain) → within n (plain.If p at q a b c d) ≡ true → (within n a ≡ true) × (within n b ≡ true) × (within n c ≡ true) × (within n d ≡ true)
if_parts n p at q a b c d is =
    let all : (within n a && (within n b && (within n c && within n d))) ≡ true = sym (fold-if (within_node n) p at q a b c d) ∙ is in
    let one = and_parts (within n a) (within n b && (within n c && within n d)) all in
    let two = and_parts (within n b) (within n c && within n d) one.1 in
    let three = and_parts (within n c) (within n d) two.1 in
    (one.0, two.0, three.0, three.1)

-- ---- valid expressions are within

holds_both : (a b : Bool) → a ≡ true → b ≡ true → (a && b) ≡ true
holds_both a b h i = ap (λ x. x && b) h ∙ i

module _ (n : Named) where
  abbrev IsWithin : Plain → Type 0
  IsWithin e = valid n e ≡ true → within n.parameters e ≡ true

  all_within : (es : List Plain) → AllByRecursion IsWithin es → all_true (map (valid n) es) ≡ true → all_true (map (within n.parameters) es) ≡ true
  all_within [] all is = refl
  all_within (e ∷ es) all is =
      let parts = and_parts (valid n e) (all_true (map (valid n) es)) is in
      holds_both (within n.parameters e) (all_true (map (within n.parameters) es)) (all.0 parts.0) (all_within es all.1 parts.1)

  pub valid_within : (e : Plain) → IsWithin e
  valid_within = induction IsWithin
      (λ p i is. fold-integer (within_node n.parameters) p i)
      (λ p k is. fold-parameter (within_node n.parameters) p k ∙ (sym (fold-parameter (valid_node n) p k) ∙ is))
      (λ p o a b ha hb is.
      let parts = and_parts (valid n a) (valid n b) (sym (fold-operation (valid_node n) p o a b) ∙ is) in
      fold-operation (within_node n.parameters) p o a b ∙ holds_both (within n.parameters a) (within n.parameters b) (ha parts.0) (hb parts.1))
      (λ p at q a b c d ha hb hc hd is. if_within p at q a b c d ha hb hc hd (sym (fold-if (valid_node n) p at q a b c d) ∙ is))
      (λ p at f es all is.
      let parts = and_parts (has_arity (length (map (valid n) es)) (slice_get n.procedures f)) (all_true (map (valid n) es)) (sym (fold-call (valid_node n) p at f es) ∙ is) in
      fold-call (within_node n.parameters) p at f es ∙ all_within es all parts.1)
      (λ p is. fold-read (within_node n.parameters) p)
    where
      four : (a b c d : Bool) → (a && b && c && d) ≡ true → (a ≡ true) × (b ≡ true) × (c ≡ true) × (d ≡ true)
      four true true true true is = (refl, refl, refl, refl)
      four true true true false is = cc
      four true true false d is = cc
      four true false c d is = cc
      four false b c d is = cc

      if_within : (p at : Place) (q : Comparison) (a b c d : Plain) → IsWithin a → IsWithin b → IsWithin c → IsWithin d → (valid n a && valid n b && valid n c && valid n d) ≡ true → within n.parameters (plain.If p at q a b c d) ≡ true
      if_within p at q a b c d ha hb hc hd is =
          let parts : (valid n a ≡ true) × (valid n b ≡ true) × (valid n c ≡ true) × (valid n d ≡ true) = four (valid n a) (valid n b) (valid n c) (valid n d) is in
          fold-if (within_node n.parameters) p at q a b c d
          ∙ holds_both (within n.parameters a) (within n.parameters b && (within n.parameters c && within n.parameters d)) (ha parts.0) (holds_both (within n.parameters b) (within n.parameters c && within n.parameters d) (hb parts.1) (holds_both (within n.parameters c) (within n.parameters d) (hc parts.2) (hd parts.3)))

writes_within : (n : Named) (ws : List Write) → AllByRecursion (λ (w : Write). valid n w.value ≡ true) ws → all_true (map (write_within n.parameters) ws) ≡ true
writes_within n [] all = refl
writes_within n (w ∷ ws) all = holds_both (within n.parameters w.value) (all_true (map (write_within n.parameters) ws)) (valid_within n w.value all.0) (writes_within n ws all.1)

one_within : (arities : List ℕ) (q : Procedure) → IsProcedure arities q → procedure_within q ≡ true
one_within arities q is =
    holds_both (all_true (map (write_within q.parameters) q.writes)) (within q.parameters q.value) (writes_within (named_in arities q) q.writes is.writes) (valid_within (named_in arities q) q.value is.value)

procedures_within : (arities : List ℕ) (qs : List Procedure) → AllByRecursion (IsProcedure arities) qs → all_true (map procedure_within qs) ≡ true
procedures_within arities [] all = refl
procedures_within arities (q ∷ qs) all = holds_both (procedure_within q) (all_true (map procedure_within qs)) (one_within arities q all.0) (procedures_within arities qs all.1)

pub program_within : (p : Program) → IsValid p → all_true (map procedure_within p.procedures) ≡ true
program_within p is = procedures_within (arities_of p) p.procedures is.procedures

-- ---- sizes

parameters_small : (qs : List Procedure) → parameters_in qs + length qs ≤ sum_of (map procedure_size qs)
parameters_small [] = omega arith
parameters_small (q ∷ qs) = let rest = parameters_small qs in omega arith

pub few_parameters : (p : Program) → program_size p + 1 < 4294967296 → parameters_in p.procedures < 4294967296
few_parameters p small = let s = parameters_small p.procedures in omega arith

pub few_procedures : (p : Program) → program_size p + 1 < 4294967296 → length p.procedures < 4294967296
few_procedures p small = let s = parameters_small p.procedures in omega arith
