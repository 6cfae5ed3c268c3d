-- The unit of a program does what the program does, and has at most one frame more than the program's calls are deep.
-- For: build
use Rattle.std.proofs.Common.{◌≡◌, ℕ, ℤ, zero, suc, ◌+◌, ◌≤◌, [], length, Option, Some, None, refl, sym, ap, ◌∙◌, subst, arith}
use Rattle.std.specs.Prelude.{slice_get}
use Rattle.std.proofs.lemmas.List.{length-replicate}
use Rattle.ps_base.specs.declared.faults.Op.TheVariants.{Unset}
use Rattle.byte_store.specs.Agree.{Agree, Shallow}
use Rattle.byte_store.specs.Laws.{FollowsLow, Matches}
use Rattle.byte_store.specs.Machine.{Move, Ends as Halts, greater, outcome_at, after_move, run_from}
use Rattle.byte_store.specs.Outcome.{Outcome, Returned, Running, Wrong}
use Rattle.byte_store.specs.Worlds.{Surroundings}
use Rattle.byte_store.proofs.FollowingAgrees.{following_agrees, following_shallow}
use Rattle.byte_store.proofs.GreaterIsLeast.{greater_le}
use Rattle.ps_plain.specs.declared.program.Procedure.{Procedure}
use Rattle.ps_plain.specs.declared.program.Program.{Program}
use Rattle.ps_plain.specs.Run as source
use Rattle.ps_plain.specs.Run.{Step, Goes, Stops, and_then, known, take_one, at_depth}
use Rattle.ps_plain.specs.Meaning.{Enter, Context, body, entering, enters, outcome, start, main_place, Source}
use Rattle.ps_plain.specs.Valid.{arities_of, named_in, IsValid}
use Rattle.ps_plain.proofs.Bounds.{larger_bound, sound}
use Rattle.c_ast.specs.declared.unit.CUnit.{CUnit}
use Rattle.c_meaning.specs.Machine.{State, with_value, locals_of, leave, step_at, machine, begin, CRun}
use Rattle.c_meaning.proofs.LargerBoundKeeps.{larger_bound as machine_bound, deepens}
use Rattle.c_emit.specs.InsideCode.{coded, writes_size, unit_of}
use Rattle.c_emit.proofs.MachineFollows.{Does, DoesBy}
use Rattle.c_emit.proofs.SimpleExpressionsAreCorrect.{Valued, EnterOk, At}
use Rattle.c_emit.proofs.BodiesAreCorrect.{value_at, return_left, body-does}
use Rattle.c_emit.proofs.CallsEnterAndLeave.{procedure-at, function-at, body-at, valid-at, taken, enters-ok}

module _ (p : Program) (is_valid : IsValid p) (w : Surroundings) where
  abbrev unit : CUnit
  unit = unit_of p

  -- the procedure main
  main-is : (q : Procedure) × (slice_get p.procedures 0 ≡ Some q) × (q.parameters ≡ 0)
  main-is = procedure-at p 0 0 is_valid.main

  abbrev main : Procedure
  main = main-is.0

  abbrev first : State
  first = begin unit w

  -- the source's state where the body of main begins, with m calls left
  abbrev begun : ℕ → source.State
  begun m = record { calls = m; world = w; events = []; deepest = 0 }

  abbrev context : Enter → Context
  context go = record { enter = go; depth = 0; arguments = [] }

  at-main : (m : ℕ) (go : Enter) → EnterOk unit (arities_of p) m go → At unit (named_in (arities_of p) main) m (context go) first (begun m)
  at-main m go ok = record {
    enters = ok;
    enough = omega arith;
    meets = record { world = refl; events = refl; low = omega arith };
    depth = refl;
    count = sym main-is.2;
    given = λ i v e. absurd (let clash : None ≡ Some v = e in cc);
  }

  -- main has the variables of its function
  variables : length first.locals ≡ writes_size main.writes + (coded main.value).size
  variables = length-replicate {A = Option ℤ} (locals_of (slice_get unit.functions 0)) None ∙ ap locals_of (function-at p 0 main main-is.1)

  abbrev T : ℤ → source.State → State → Type 0
  T = Valued first main.parameters ((coded main.value).atom (value_at main)) (return_left main)

  main-does : (m : ℕ) (go : Enter) → EnterOk unit (arities_of p) m go → Does unit first (begun m) T (body main (context go) (begun m))
  main-does m go ok =
      let v = valid-at p 0 main is_valid main-is.1 in
      let size = variables in
      let none = main-is.2 in
      body-does (named_in (arities_of p) main) main refl v.writes v.value unit m (context go) first (begun m) (at-main m go ok) (body-at p 0 main main-is.1) (body-at p 0 main main-is.1) (omega arith)

  -- where main has its value, the machine returns it
  return-step : (v : ℤ) (τ : source.State) (t : State) → T v τ t → (machine unit).step t ≡ Halts (Returned v)
  return-step v τ t g =
      ap (step_at unit t) g.left
      ∙ ap (λ o. with_value Unset o (λ i. leave t t.callers i)) g.value
      ∙ ap (λ cs. leave t cs v) g.keeps.callers

  -- the machine's outcome at some bound, behind the source's call of main with m calls left
  record Outcomes_meet (m : ℕ) (r : Step ℤ) : Type 0 where
    bound : ℕ
    enough : (outcome r).end ≡ Running → m ≤ bound
    matches : Matches (outcome r) (CRun unit w bound)
    low : (CRun unit w bound).depth ≤ (outcome r).depth + 1

  meet-by : (m : ℕ) (r : Step ℤ) → DoesBy unit first (begun m) T r → Outcomes_meet m r
  meet-by m (Goes v τ) h =
      let l = h.leads.by 0 (omega arith) in
      let t = h.after in
      let last : run_from (machine unit) 1 l.0 t ≡ outcome_at (machine unit) t (greater l.0 ((machine unit).frames t)) (Returned v) =
      ap (λ (x : Move State). after_move (machine unit) x t (greater l.0 ((machine unit).frames t)) (λ d y. run_from (machine unit) 0 d y)) (return-step v τ t h.there) in
      let same = l.2 1 ∙ last in
      let frames = h.there.meets.low in
      record {
        bound = h.leads.number + 1;
        enough = λ run. absurd (let clash : Returned v ≡ Running = run in cc);
        matches = subst (λ (o : Outcome). Matches (outcome (Goes v τ)) o) (sym same) (record { did = h.there.meets.events; ends = refl });
        low = subst (λ (o : Outcome). o.depth ≤ τ.deepest + 1) (sym same) (greater_le l.0 ((machine unit).frames t) (τ.deepest + 1) l.1 (omega arith));
      }
  meet-by m (Stops e τ) h =
      let l = h.by 0 (omega arith) in
      record { bound = h.number; enough = h.paid; matches = l.1; low = l.0 }

  -- the source's run at a bound, by the calls that may be made
  abbrev by_calls : ℕ → Enter → source.State → Step ℤ
  by_calls calls go σ = and_then (take_one calls σ) (λ d τ. and_then (at_depth 0 τ) (λ d. body main (context go)))

  source-is : (n : ℕ) (go : Enter) → entering p go (main_place p) 0 0 [] (start n w) ≡ by_calls n go (start n w)
  source-is n go =
      ap (λ o. and_then (known (Wrong (main_place p)) o (start n w)) (λ x τ. and_then (take_one τ.calls τ) (λ d υ. and_then (at_depth 0 υ) (λ d. body x (context go)))))
      (taken p 0 0 main main-is.1 main-is.2)

  follows : (n : ℕ) → FollowsLow 0 1 (Source p w) (CRun unit w) n
  follows zero =
      let is = ap outcome (source-is 0 (λ at d f vs. source.stop Running)) in
      record {
        follows = record { bound = 0; enough = λ r. omega arith; matches = subst (λ (o : Outcome). Matches o (CRun unit w 0)) (sym is) (record { did = refl; ends = refl }) };
        low = subst (λ (o : Outcome). (CRun unit w 0).depth ≤ o.depth + 1) (sym is) (greater_le 0 1 1 (omega arith) (omega arith));
      }
  follows (suc m) =
      let is = ap outcome (source-is (suc m) (enters p m)) in
      let r = body main (context (enters p m)) (begun m) in
      let meet = meet-by m r (main-does m (enters p m) (enters-ok p is_valid m)).by in
      record {
        follows = record {
          bound = meet.bound;
          enough = λ run. (let few = meet.enough (ap (λ (o : Outcome). o.end) (sym is) ∙ run) in omega (arith, few));
          matches = subst (λ (o : Outcome). Matches o (CRun unit w meet.bound)) (sym is) meet.matches;
        };
        low = subst (λ (o : Outcome). (CRun unit w meet.bound).depth ≤ o.depth + 1) (sym is) meet.low;
      }

  pub agrees : Agree (Source p w) (CRun unit w)
  agrees = following_agrees 0 _ _ (larger_bound p w) (machine_bound unit w) (sound p w is_valid) (λ n. (follows n).follows)

  pub is_shallow : Shallow 1 (Source p w) (CRun unit w)
  is_shallow = following_shallow 0 1 _ _ (machine_bound unit w) (deepens unit w) (sound p w is_valid) follows
