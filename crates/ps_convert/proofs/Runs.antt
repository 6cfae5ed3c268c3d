-- The kernel of a program comes to nothing at compile time, and does in every run what the program does.
-- For: `forms_do_nothing` and `kernels_do_the_same`
use Rattle.std.proofs.Common.{◌≡◌, ℕ, ℤ, zero, suc, ◌-◌, ◌<◌, List, [], ◌∷◌, length, map, Option, Some, None, refl, sym, ap, ◌∙◌, subst, arith}
use Rattle.std.specs.Prelude.{Bool, true, false, if◌then◌else◌, nat_eq, slice_get, replicate}
use Rattle.std.specs.Option.{option_map}
use Rattle.std.specs.List.{AllByRecursion}
use Rattle.std.proofs.lemmas.Bool.{eqb-true}
use Rattle.std.proofs.Math.Dec.{leb-zero}
use Rattle.ps_base.specs.declared.faults.Place.{Place}
use Rattle.ps_base.specs.declared.names.Name.{Name}
use Rattle.byte_store.specs.declared.pointer.Value.{Value}
use Rattle.byte_store.specs.declared.pointer.Value.TheVariants as value
use Rattle.byte_store.specs.Outcome.{Running, Wrong, StoppedAtCells}
use Rattle.byte_store.specs.Worlds.{Surroundings}
use Rattle.ps_prims.specs.Sorts.{and_seen, as_integer}
use Rattle.ps_runs.specs.Runs as kernel
use Rattle.ps_runs.specs.Runs.{Env, State, Run, Ends, Goes, Stops, or_wrong}
use Rattle.ps_runs.specs.Locals.{push_all, within}
use Rattle.ps_runs.specs.Effects.{defined_in, take_call, at_depth}
use Rattle.ps_runs.specs.Ends.{result, outcome as kernel_outcome}
use Rattle.ps_kernel.specs.declared.expr.ExprKind.TheVariants as kinds
use Rattle.ps_kernel.specs.declared.kernel.Kernel.{Kernel}
use Rattle.ps_kernel.specs.declared.kernel.Lambda.{Lambda}
use Rattle.ps_kernel.specs.Texts.{expr_at, procedure_of}
use Rattle.ps_meaning.specs.declared.values.RunValue.{RunValue}
use Rattle.ps_meaning.specs.declared.values.RunValue.TheVariants.{Procedure, outs-Procedure}
use Rattle.ps_meaning.specs.Values.{Closure, closure_of, run_values}
use Rattle.ps_meaning.specs.Eval.{RunEnter, CompileEnter, lambda_of as lambda_with, entered, run, run_entering, run_enters, compile_enters}
use Rattle.ps_meaning.specs.Source.{Finished, Halted, all_forms, define, top_start, top_end, top_within, run_globals, main_place, procedure_place, definition_place as kernel_definition_place, call_main, integer_of, Source}
use Rattle.ps_plain.specs.Run as plain
use Rattle.ps_plain.specs.declared.program.Procedure.{Procedure as PlainProcedure}
use Rattle.ps_plain.specs.declared.program.Program.{Program as PlainProgram}
use Rattle.ps_plain.specs.Forms.{has_arity}
use Rattle.ps_plain.specs.Valid.{named_in, arities_of, IsProcedure, IsValid}
use Rattle.ps_plain.specs.Meaning.{Enter, body, taking, entering, enters, outcome, start, main_place as plain_main_place, Source as PlainSource}
use Rattle.ps_convert.specs.Kernels.{definition_of, body_of, numbers_from, lambda_of, forms_from, kernel_of}
use Rattle.ps_convert.specs.Laws.{run_of, FormsDoNothing, KernelsDoTheSame}
use Rattle.ps_convert.proofs.Steps.{int, ints, up, up_step, Does, stop_does, then_does, take_does, depth_does, within_does, seen_run}
use Rattle.ps_convert.proofs.Expressions.{body_does}
use Rattle.ps_convert.proofs.LambdasStandAlone.{offset}
use Rattle.ps_convert.proofs.Shapes.{arguments_in, argument, entered_is, lambda_is, lambda_here, procedure_is, defined_is}

length_mapped : {A B : Type 0} (f : A → B) (xs : List A) → length (map f xs) ≡ length xs
length_mapped f [] = refl
length_mapped f (x ∷ xs) = ap suc (length_mapped f xs)

-- ---- compile time

module _ (structure : Name) (p : PlainProgram) where
  abbrev k : Kernel
  k = kernel_of structure p

  forms_nothing : (enter : CompileEnter) (n : ℕ) (qs : List PlainProcedure) (s : State Value) → all_forms k enter (forms_from n qs) s ≡ Goes tt s
  forms_nothing enter n [] s = refl
  forms_nothing enter n (q ∷ qs) s =
      ap (λ o. kernel.and_then (define k enter n (expr_at q.place (kinds.Lambda n)) o s) (λ u. all_forms k enter (forms_from (suc n) qs))) (lambda_here structure p q.place n) ∙ forms_nothing enter (suc n) qs s

  within_nothing : (budget left : ℕ) → top_within k budget left ≡ Finished (run_of structure p).globals (run_of structure p).memory
  within_nothing budget left =
      ap top_end (forms_nothing (compile_enters k budget) 0 p.procedures (top_start k budget left)) ∙ ap (λ n. Finished (replicate n None) (record { fixed = []; made = [] })) (length_mapped (definition_of structure) p.procedures)

pub forms_do_nothing : FormsDoNothing
forms_do_nothing structure p budget cells =
    ap (λ b. if b then top_within (kernel_of structure p) budget (cells - 0) else Halted (Ends StoppedAtCells)) (leb-zero cells) ∙ within_nothing structure p budget (cells - 0)

-- ---- run time

-- what is known of a procedure with so many parameters
record IsTaken (n : ℕ) (o : Option PlainProcedure) (q : PlainProcedure) : Type 0 where
  there : o ≡ Some q
  parameters : q.parameters ≡ n

taken_by : (n : ℕ) (r q : PlainProcedure) (b : Bool) → nat_eq r.parameters n ≡ b → (if b then Some r else None) ≡ Some q → IsTaken n (Some r) q
taken_by n r q true is at = let same : r ≡ q = cc in subst (IsTaken n (Some r)) same (record { there = refl; parameters = eqb-true r.parameters n is })
taken_by n r q false is at = cc

taken : (n : ℕ) (o : Option PlainProcedure) (q : PlainProcedure) → taking n o ≡ Some q → IsTaken n o q
taken n None q is = cc
taken n (Some r) q is = taken_by n r q (nat_eq r.parameters n) refl is

arity_low : (ns : List ℕ) (f n : ℕ) → has_arity n (slice_get ns f) ≡ true → f < length ns
arity_low [] f n is = cc
arity_low (m ∷ ns) zero n is = omega arith
arity_low (m ∷ ns) (suc f) n is = let low = arity_low ns f n is in omega arith

member : (P : PlainProcedure → Type 0) (qs : List PlainProcedure) (f : ℕ) (q : PlainProcedure) → AllByRecursion P qs → slice_get qs f ≡ Some q → P q
member P [] f q all is = cc
member P (r ∷ qs) zero q all is = let same : r ≡ q = cc in subst P same all.0
member P (r ∷ qs) (suc f) q all is = member P qs f q all.1 is

module _ (structure : Name) (p : PlainProgram) (is_valid : IsValid p) where
  abbrev K : Kernel
  K = kernel_of structure p

  abbrev globals : List (Option RunValue)
  globals = run_globals K 0 (replicate (length p.procedures) None)

  -- entering procedures in the two runs is the same, whatever locals are in scope
  record Enters (f : Enter) (g : RunEnter) : Type 0 where
    by : (env : Env RunValue) (at : Place) (d n : ℕ) (vs : List ℤ) → Does globals env int (f at d n vs) (g d at (Procedure n []) (ints vs))

  defined : (f n : ℕ) → has_arity n (slice_get (arities_of p) f) ≡ true → defined_in f globals ≡ Some (Procedure f [])
  defined f n is = defined_is structure p f (let low = arity_low (arities_of p) f n is in let same = length_mapped (λ (q : PlainProcedure). q.parameters) p.procedures in omega arith)

  module _ (f : Enter) (g : RunEnter) (enter : Enters f g) (env : Env RunValue) (at : Place) (d n : ℕ) (vs : List ℤ) where
    abbrev c : Closure
    c = record { lambda = n; kept = [] }

    abbrev off : ℕ
    off = offset 0 p.procedures n

    -- the body of a procedure, where its parameters are the locals
    abbrev plain_body : PlainProcedure → plain.Run ℤ
    plain_body q = body q (record { enter = f; depth = d; arguments = vs })

    abbrev kernel_body : Lambda → Run RunValue RunValue
    kernel_body m = within (entered K c m (ints vs)) (run K g m.body d)

    body_done : (q : PlainProcedure) → IsTaken (length vs) (slice_get p.procedures n) q → Does globals env int (plain_body q) (kernel_body (lambda_of off q))
    body_done q is =
        let procedure = member (IsProcedure (arities_of p)) p.procedures n q is_valid.procedures is.there in
        let locals : entered K c (lambda_of off q) (ints vs) ≡ arguments_in off vs [] = entered_is structure p n (lambda_of off q) (ints vs) ∙ ap (λ m. push_all (numbers_from off m) (ints vs) []) is.parameters in
        subst (λ inner. Does globals env int (plain_body q) (within inner (run K g (body_of off q) d))) (sym locals)
        (within_does globals env (arguments_in off vs []) int (plain_body q) (run K g (body_of off q) d)
        (body_does K globals (arguments_in off vs []) (named_in (arities_of p) q) f g (λ place depth m us. enter.by (arguments_in off vs []) place depth m us) defined d vs off (argument off vs) q procedure.writes procedure.value))

    abbrev plain_rest : PlainProcedure → plain.Run ℤ
    plain_rest q = λ s. plain.and_then (plain.take_call s) (λ u. λ t. plain.and_then (plain.at_depth d t) (λ w. plain_body q))

    abbrev kernel_rest : Lambda → Run RunValue RunValue
    kernel_rest m = λ s. kernel.and_then (take_call s) (λ u. λ t. kernel.and_then (at_depth d t) (λ w. kernel_body m))

    rest_done : (q : PlainProcedure) → IsTaken (length vs) (slice_get p.procedures n) q → Does globals env int (plain_rest q) (kernel_rest (lambda_of off q))
    rest_done q is =
        then_does globals env (λ (u : Unit {0}). u) int (λ u. λ t. plain.and_then (plain.at_depth d t) (λ w. plain_body q)) (λ u. λ t. kernel.and_then (at_depth d t) (λ w. kernel_body (lambda_of off q))) (take_does globals env)
        (λ u. then_does globals env (λ (w : Unit {0}). w) int (λ w. plain_body q) (λ w. kernel_body (lambda_of off q)) (depth_does globals env d) (λ w. body_done q is))

    found_done : (o : Option PlainProcedure) → taking (length vs) (slice_get p.procedures n) ≡ o
        → Does globals env int (λ s. plain.and_then (plain.known (Wrong at) o s) plain_rest) (λ s. kernel.and_then (or_wrong at (option_map (lambda_of off) o) s) kernel_rest)
    found_done None is = record { is = λ s. refl }
    found_done (Some q) is = record { is = λ s. (rest_done q (taken (length vs) (slice_get p.procedures n) q is)).is s }

    lambda_found : lambda_with K (length (ints vs)) n ≡ option_map (lambda_of off) (taking (length vs) (slice_get p.procedures n))
    lambda_found = ap (λ m. lambda_with K m n) (length_mapped int vs) ∙ lambda_is structure p (length vs) n

    -- what is done where a procedure is known
    abbrev kernel_known : Closure → Run RunValue RunValue
    kernel_known e = λ t. kernel.and_then (or_wrong at (lambda_with K (length (ints vs)) e.lambda) t) (λ (m : Lambda). λ r. kernel.and_then (take_call r) (λ u. λ q. kernel.and_then (at_depth d q) (λ w. within (entered K e m (ints vs)) (run K g m.body d))))

    entering_done : Does globals env int (entering p f at d n vs) (run_entering K g d at (Procedure n []) (ints vs))
    entering_done = record {
      is = λ s.
          ap (λ o. kernel.and_then (or_wrong at o (up globals env s)) kernel_known) (ap closure_of (outs-Procedure n []))
          ∙ ap (λ o. kernel.and_then (or_wrong at o (up globals env s)) kernel_rest) lambda_found
          ∙ (found_done (taking (length vs) (slice_get p.procedures n)) refl).is s;
    }

  enters_done : (n : ℕ) → Enters (enters p n) (run_enters K n)
  enters_done zero = record { by = λ env at d n vs. entering_done (λ at d f vs. plain.stop Running) (λ d at v vs. kernel.stop (Ends Running)) (record { by = λ env at d n vs. stop_does globals env int Running }) env at d n vs }
  enters_done (suc m) = record { by = λ env at d n vs. entering_done (enters p m) (run_enters K m) (enters_done m) env at d n vs }

  -- ---- outcomes

  outcome_same : (at : Place) (r : plain.Step ℤ) → kernel_outcome integer_of at (up_step globals [] int r) ≡ outcome r
  outcome_same at (plain.Goes i s) = ap (λ o. record { events = s.events; depth = s.deepest; end = result at (and_seen run_values o as_integer) }) (seen_run (value.Integer i))
  outcome_same at (plain.Stops e s) = refl

  places : (qs : List PlainProcedure) → slice_get (map (λ (q : PlainProcedure). q.parameters) qs) 0 ≡ Some 0 → (o : Option ℕ) → o ≡ Some 0
      → procedure_place (kernel_of structure (record { procedures = qs })) o (kernel_definition_place (slice_get (map (definition_of structure) qs) 0)) ≡ plain_main_place (record { procedures = qs })
  places [] is o at = cc
  places (q ∷ qs) is o at = ap (λ x. procedure_place (kernel_of structure (record { procedures = q ∷ qs })) x q.place) at

  place_same : main_place K ≡ plain_main_place p
  place_same = places p.procedures is_valid.main (procedure_of K 0) (procedure_is structure p 0 (let low = arity_low (arities_of p) 0 0 (ap (has_arity 0) is_valid.main) in let same = length_mapped (λ (q : PlainProcedure). q.parameters) p.procedures in omega arith))

  main_done : (w : Surroundings) (n : ℕ) → call_main K n (up globals [] (start n w)) ≡ up_step globals [] int (enters p n (plain_main_place p) 0 0 [] (start n w))
  main_done w n =
      ap (λ o. kernel.and_then (or_wrong (main_place K) o (up globals [] (start n w))) (λ v. run_enters K n 0 (main_place K) v [])) (defined 0 0 (ap (has_arity 0) is_valid.main))
      ∙ ap (λ at. run_enters K n 0 at (Procedure 0 []) [] (up globals [] (start n w))) place_same
      ∙ ((enters_done n).by [] (plain_main_place p) 0 0 []).is (start n w)

  runs_same : (w : Surroundings) (n : ℕ) → Source (run_of structure p) w n ≡ PlainSource p w n
  runs_same w n = ap (kernel_outcome integer_of (main_place K)) (main_done w n) ∙ outcome_same (main_place K) (enters p n (plain_main_place p) 0 0 [] (start n w))

pub kernels_do_the_same : KernelsDoTheSame
kernels_do_the_same structure p w is_valid n = runs_same structure p is_valid w n
