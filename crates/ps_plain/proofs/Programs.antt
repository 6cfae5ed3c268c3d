-- A program of data is valid, and no larger than the data.
-- For: `data_have_one_program` and `program_is_valid`
use Rattle.std.proofs.Common.{◌≡◌, ℕ, ◌≤◌, List, [], ◌∷◌, ◌++◌, length, map, Option, Some, None, refl, sym, ap, ◌∙◌, subst, arith}
use Rattle.std.specs.Prelude.{slice_get, true}
use Rattle.std.specs.List.{AllByRecursion}
use Rattle.ps_base.specs.Numbers.{sum_of}
use Rattle.ps_datum.specs.Weight.{weight, weights}
use Rattle.ps_datum.specs.declared.datum.Datum.{Datum}
use Rattle.ps_plain.specs.declared.program.Write.{Write}
use Rattle.ps_plain.specs.declared.program.Procedure.{Procedure}
use Rattle.ps_plain.specs.declared.program.Program.{Program}
use Rattle.ps_plain.specs.Forms.{Head, part, heads_of, arities_in, scope_in, procedures_in, main_head, IsHead, IsProgram}
use Rattle.ps_plain.specs.Size.{procedure_size, program_size}
use Rattle.ps_plain.specs.Valid.{Named, valid, named_in, IsProcedure, IsValid}
use Rattle.ps_plain.specs.Laws.{DataHaveOneProgram, ProgramIsValid}
use Rattle.ps_plain.proofs.Lists.{joined}
use Rattle.ps_plain.proofs.Order.{same_order}
use Rattle.ps_plain.proofs.Fine.{FineHead, IsFineProcedure, FineProcedure, fine, named}

-- what is said of definitions with these heads, and their procedures
record AreFine (heads hs : List Head) (ds : List Datum) (qs : List Procedure) : Type 0 where
  arities : map (λ (q : Procedure). q.parameters) qs ≡ arities_in hs
  procedures : AllByRecursion (IsProcedure (arities_in heads)) qs
  small : sum_of (map procedure_size qs) ≤ weights ds

-- one definition
record IsOneFine (heads : List Head) (h : Head) (d : Datum) (q : Procedure) : Type 0 where
  arity : q.parameters ≡ length h.parameters
  procedure : IsProcedure (arities_in heads) q
  small : procedure_size q ≤ weight d

one_fine : (names : List (List ℕ)) (heads : List Head) (h : Head) (d : Datum) (q : Procedure) → IsHead h → (part names d).head ≡ Some h → (part names d).procedure (scope_in heads h) ≡ Some q → IsOneFine heads h d q
one_fine names heads h d q is_head at is =
    let whole = (fine names d).definition in
    let head : length h.parameters ≤ whole.above = subst (λ (o : Option Head). FineHead o whole.above) at whole.head in
    let body : IsFineProcedure (scope_in heads h) q whole.within = subst (λ (o : Option Procedure). FineProcedure (scope_in heads h) o whole.within) is (whole.procedure (scope_in heads h)) in
    let arity : q.parameters ≡ length h.parameters = body.parameters in
    let same : named (scope_in heads h) ≡ named_in (arities_in heads) q = ap (λ (n : ℕ). record { parameters = n; procedures = arities_in heads }) (sym arity) in
    record {
      arity = arity;
      procedure = record {
        few = let few = is_head.few in omega arith;
        writes = subst (λ (n : Named). AllByRecursion (λ (w : Write). valid n w.value ≡ true) q.writes) same body.writes;
        value = subst (λ (n : Named). valid n q.value ≡ true) same body.value;
      };
      small = let s = body.small in let a = whole.all in omega arith;
    }

all_fine : (names : List (List ℕ)) (heads hs : List Head) (ds : List Datum) (qs : List Procedure) → AllByRecursion IsHead hs → heads_of names ds ≡ Some hs → procedures_in names heads hs ds ≡ Some qs → AreFine heads hs ds qs
all_fine names heads [] [] qs are at is = let none : [] ≡ qs = cc in subst (AreFine heads [] []) none (record { arities = refl; procedures = tt; small = omega arith })
all_fine names heads [] (d ∷ ds) qs are at is = cc
all_fine names heads (h ∷ hs) [] qs are at is = cc
all_fine names heads (h ∷ hs) (d ∷ ds) qs are at is =
    let first = joined ((part names d).head) (heads_of names ds) (h ∷ hs) at in
    let same : first.first ≡ h = cc in
    let others : first.rest ≡ hs = cc in
    let body = joined ((part names d).procedure (scope_in heads h)) (procedures_in names heads hs ds) qs is in
    let one = one_fine names heads h d body.first are.0 (first.is_first ∙ ap (λ x. Some x) same) body.is_first in
    let rest = all_fine names heads hs ds body.rest are.1 (first.is_rest ∙ ap (λ x. Some x) others) body.is_rest in
    subst (AreFine heads (h ∷ hs) (d ∷ ds)) (sym body.is) (record {
      arities = (let x = one.arity in let y = rest.arities in cc);
      procedures = (one.procedure, rest.procedures);
      small = (let x = one.small in let y = rest.small in omega arith);
    })

program_fine : (names : List (List ℕ)) (ds : List Datum) (p : Program) (is : IsProgram names ds p) → AreFine is.heads is.heads (is.main ∷ (is.before ++ is.after)) p.procedures
program_fine names ds p is = all_fine names is.heads is.heads (is.main ∷ (is.before ++ is.after)) p.procedures is.parameters is.are_heads is.procedures

-- the order makes no difference to the weight
weights_in_order : (before : List Datum) (main : Datum) (after : List Datum) → weights (main ∷ (before ++ after)) ≡ weights (before ++ main ∷ after)
weights_in_order [] main after = refl
weights_in_order (d ∷ before) main after = let e = weights_in_order before main after in omega arith

pub program_small : (names : List (List ℕ)) (ds : List Datum) (p : Program) → IsProgram names ds p → program_size p ≤ weights ds
program_small names ds p is =
    let same : weights ds ≡ weights (is.main ∷ (is.before ++ is.after)) = ap weights is.form ∙ sym (weights_in_order is.before is.main is.after) in
    let small = (program_fine names ds p is).small in
    omega arith

-- `main` is the first, and has no parameters
first_arity : (names : List (List ℕ)) (hs : List Head) (main : Datum) (ds : List Datum) → heads_of names (main ∷ ds) ≡ Some hs → (part names main).head ≡ Some main_head → slice_get (arities_in hs) 0 ≡ Some 0
first_arity names hs main ds are is =
    let first = joined ((part names main).head) (heads_of names ds) hs are in
    let same : first.first ≡ main_head = cc in
    subst (λ (x : List Head). slice_get (arities_in x) 0 ≡ Some 0) (sym first.is) (ap (λ (h : Head). Some (length h.parameters)) same)

pub program_valid : (names : List (List ℕ)) (ds : List Datum) (p : Program) → IsProgram names ds p → IsValid p
program_valid names ds p is =
    let all = program_fine names ds p is in
    record {
      main = ap (λ (ns : List ℕ). slice_get ns 0) all.arities ∙ first_arity names is.heads is.main (is.before ++ is.after) is.are_heads is.is_main;
      procedures = subst (λ (ns : List ℕ). AllByRecursion (IsProcedure ns) p.procedures) (sym all.arities) all.procedures;
    }

pub valid_and_small : ProgramIsValid
valid_and_small names ds p is = (program_valid names ds p is, program_small names ds p is)

-- the procedures of definitions in their order
abbrev procedures_from : List (List ℕ) → List Datum → Option (List Head) → Option (List Procedure)
procedures_from names ds None = None
procedures_from names ds (Some heads) = procedures_in names heads heads ds

in_order : (names : List (List ℕ)) (ds : List Datum) (p : Program) (is : IsProgram names ds p) → procedures_from names (is.main ∷ (is.before ++ is.after)) (heads_of names (is.main ∷ (is.before ++ is.after))) ≡ Some p.procedures
in_order names ds p is = ap (procedures_from names (is.main ∷ (is.before ++ is.after))) is.are_heads ∙ is.procedures

pub one_program : DataHaveOneProgram
one_program names ds p q is is' =
    let order = same_order names ds is.before is.after is'.before is'.after is.main is'.main is.heads is.form is'.form is.is_main is'.is_main is.are_heads is.distinct in
    let same : Some p.procedures ≡ Some q.procedures = sym (in_order names ds p is) ∙ ap (λ (xs : List Datum). procedures_from names xs (heads_of names xs)) order ∙ in_order names ds q is' in
    let procedures : p.procedures ≡ q.procedures = cc in
    ap (λ (qs : List Procedure). record { procedures = qs }) procedures
