-- A procedure that is entered, and the end of a program.
-- For: `enter`, `run` and `evaluate`
use Rattle.std.proofs.Common.{◌≡◌, ℕ, suc, List, [], length, max, Some, None, sym, ap, ◌∙◌, subst}
use Rattle.std.specs.Prelude.{slice_get, if◌then◌else◌}
use Rattle.std.proofs.lemmas.Bool.{eq-eqb}
use Rattle.ps_base.specs.declared.faults.Place.{Place}
use Rattle.byte_store.specs.Worlds.{Surroundings}
use Rattle.ps_kernel.specs.declared.kernel.Kernel.{Kernel}
use Rattle.ps_kernel.specs.declared.kernel.Lambda.{Lambda}
use Rattle.ps_meaning.specs.declared.values.RunValue.{RunValue}
use Rattle.ps_meaning.specs.declared.values.RunValue.TheVariants.{Procedure, outs-Procedure}
use Rattle.ps_meaning.specs.declared.values.Binding.{Binding}
use Rattle.ps_runs.specs.Runs.{State, Goes, Stops, Run, ◌>>=◌, and_then, or_wrong, stopped}
use Rattle.ps_runs.specs.Locals.{within}
use Rattle.ps_runs.specs.Effects.{take_one, take_call, at_depth, defined_in}
use Rattle.ps_runs.specs.Ends.{outcome}
use Rattle.ps_meaning.specs.Values.{Closure, closure_of, pairs_of}
use Rattle.ps_meaning.specs.Eval.{RunEnter, run, run_entering, run_enters, lambda_of, fitting, entered}
use Rattle.ps_meaning.specs.Source.{Program, Source, begun_of, main_place, call_main, run_start, integer_of}
use Rattle.ps_evaluator.specs.declared.machine.Machine.{Machine}
use Rattle.ps_evaluator.specs.declared.machine.Control.{Control}
use Rattle.ps_evaluator.specs.declared.machine.Frame.{Frame}
use Rattle.ps_evaluator.specs.declared.run.Ending.{Ending}
use Rattle.ps_evaluator.specs.declared.run.Ending.TheVariants.{Gave, Halted, Unfinished}
use Rattle.ps_evaluator.specs.declared.evaluating.Evaluated.{Evaluated}
use Rattle.ps_evaluator.specs.InsideLists.{closed}
use Rattle.ps_evaluator.specs.InsideMachine.{state_of, halt_of, now, rest, Ends, EndsAs}
use Rattle.ps_evaluator.specs.Evaluating.{ComesTo}
use Rattle.ps_evaluator.specs.InsideEvaluating.{Begins, IsSeen}

module _ (k : Kernel) (f : RunEnter) (d : ℕ) (at : Place) (vs : List RunValue) where
  -- behind what is found out of the operator
  abbrev body : ℕ → Closure → Lambda → Run RunValue RunValue
  body calls c m = λ s. and_then (take_one calls s) (λ u. (at_depth d >>= (λ w. within (entered k c m vs) (run k f m.body d))))

  found : (l : ℕ) (kept : List Binding) (m : Lambda) (s : State RunValue) → slice_get k.lambdas l ≡ Some m → length m.parameters ≡ length vs
      → run_entering k f d at (Procedure l kept) vs s ≡ body s.calls (closed l kept) m s
  found l kept m s is fits =
      ap (λ o. (or_wrong at o >>= (λ c. or_wrong at (lambda_of k (length vs) c.lambda) >>= (λ m. take_call >>= (λ u. at_depth d >>= (λ w. within (entered k c m vs) (run k f m.body d)))))) s) (ap closure_of (outs-Procedure l kept))
      ∙ ap (λ o. (or_wrong at (fitting k (length vs) o) >>= (λ m. take_call >>= (λ u. at_depth d >>= (λ w. within (entered k (closed l kept) m vs) (run k f m.body d))))) s) is
      ∙ ap (λ b. (or_wrong at (if b then Some m else None) >>= (λ m. take_call >>= (λ u. at_depth d >>= (λ w. within (entered k (closed l kept) m vs) (run k f m.body d))))) s) (eq-eqb (length m.parameters) (length vs) fits)

  pub enters : (v : RunValue) (l : ℕ) (kept : List Binding) (m : Lambda) (s : Machine) (env : List Binding) (calls deepest : ℕ)
      → v ≡ Procedure l kept → slice_get k.lambdas l ≡ Some m → length m.parameters ≡ length vs → s.calls ≡ suc calls → deepest ≡ max s.deepest d → pairs_of env ≡ entered k (closed l kept) m vs
      → run_entering k f d at v vs (state_of s) ≡ within (pairs_of env) (run k f m.body d) (state_of (record s { calls = calls; deepest = deepest }))
  enters v l kept m s env calls deepest names is fits some deeper binds =
      ap (λ z. run_entering k f d at z vs (state_of s)) names
      ∙ found l kept m (state_of s) is fits
      ∙ ap (λ n. body n (closed l kept) m (state_of s)) some
      ∙ ap (λ n. within (entered k (closed l kept) m vs) (run k f m.body d) (state_of (record s { calls = calls; deepest = n }))) (sym deeper)
      ∙ ap (λ z. within z (run k f m.body d) (state_of (record s { calls = calls; deepest = deepest }))) (sym binds)

-- the end of a run, by that of its last turn
pub ends_as : (k : Kernel) (n : ℕ) (c : Control) (s : Machine) (c' : Control) (fs : List Frame) (s' : Machine) (r : Ending)
    → now k (run_enters k n) c (state_of s) ≡ rest k (run_enters k n) c' fs (state_of s') → Ends k (run_enters k n) c' fs r → EndsAs k n c s r s'
ends_as k n c s c' fs s' (Gave v) is ended = is ∙ ap (λ p. p (state_of s')) ended
ends_as k n c s c' fs s' (Halted h) is ended = is ∙ ap (λ p. p (state_of s')) ended
ends_as k n c s c' fs s' Unfinished is ended = tt

called : (p : Program) (w : Surroundings) (n : ℕ) (at : Place) (c : Control) (s : Machine) → at ≡ main_place p.kernel → state_of s ≡ run_start (begun_of p) w n None → Begins p.kernel at (defined_in p.kernel.main s.globals) c
    → now p.kernel (run_enters p.kernel n) c (state_of s) ≡ call_main p.kernel n (run_start (begun_of p) w n None)
called p w n at c s is starts begins =
    ap (λ q. q (state_of s)) (sym (begins (run_enters p.kernel n)))
    ∙ ap (λ z. (or_wrong z (defined_in p.kernel.main s.globals) >>= (λ v. run_enters p.kernel n 0 z v [])) (state_of s)) is
    ∙ ap (λ z. (or_wrong (main_place p.kernel) (defined_in p.kernel.main z.globals) >>= (λ v. run_enters p.kernel n 0 (main_place p.kernel) v [])) z) starts

-- what came of a run of the machine from the call of `main` on
pub comes_to : (p : Program) (w : Surroundings) (n : ℕ) (at : Place) (c : Control) (s s' : Machine) (e : Ending) (r : Evaluated)
    → at ≡ main_place p.kernel → state_of s ≡ run_start (begun_of p) w n None → Begins p.kernel at (defined_in p.kernel.main s.globals) c → EndsAs p.kernel n c s e s' → IsSeen at e s' r → ComesTo r (Source p w n)
comes_to p w n at c s s' (Gave v) r is starts begins ended seen =
    subst (λ o. ComesTo r o) (ap (λ z. outcome integer_of z (Goes v (state_of s'))) is ∙ ap (outcome integer_of (main_place p.kernel)) (sym ended ∙ called p w n at c s is starts begins)) seen
comes_to p w n at c s s' (Halted h) r is starts begins ended seen =
    subst (λ o. ComesTo r o) (ap (λ z. outcome integer_of z (Stops (halt_of h) (stopped (state_of s')))) is ∙ ap (outcome integer_of (main_place p.kernel)) (sym ended ∙ called p w n at c s is starts begins)) seen
comes_to p w n at c s s' Unfinished r is starts begins ended seen = subst (λ z. ComesTo z (Source p w n)) (sym seen) tt
