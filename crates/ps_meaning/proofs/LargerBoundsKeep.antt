-- The laws of the bounds.
-- For: `larger_bound_keeps`, `larger_budget_keeps`, `calls_enter_procedures` and `compile_calls_enter`
use Rattle.std.proofs.Common.{◌≡◌, ◌≢◌, ℕ, zero, suc, ◌+◌, ◌-◌, ◌≤◌, [], Option, Some, None, refl, sym, ap, subst, arith}
use Rattle.std.specs.Prelude.{Bool, true, false, nat_le, if◌then◌else◌, length}
use Rattle.ps_base.specs.declared.faults.Place.{Place}
use Rattle.byte_store.specs.declared.pointer.Value.{Value}
use Rattle.byte_store.specs.Outcome.{Outcome, Returned, Running, Undefined, Stuck, Wrong, StoppedAtCells, Begins}
use Rattle.byte_store.specs.Worlds.{Surroundings}
use Rattle.byte_store.specs.Laws.{Grows}
use Rattle.byte_store.proofs.FrontsCompose.{begins_eq}
use Rattle.byte_store.proofs.FollowingAgrees.{growing_keeps}
use Rattle.ps_prims.specs.declared.stages.Stage.TheVariants.{Compile, Run as AtRun}
use Rattle.ps_prims.specs.Cells.{cells_in}
use Rattle.ps_kernel.specs.declared.kernel.Kernel.{Kernel}
use Rattle.ps_runs.specs.Runs.{Ends, RunOnly, Step, Goes, Stops, stop}
use Rattle.ps_runs.specs.Locals.{push_all}
use Rattle.ps_runs.specs.Ends.{outcome}
use Rattle.ps_runs.proofs.WordsKeep.{wrongs, global_related, within_related}
use Rattle.ps_runs.proofs.MoreCallsExtend.{events_of, Extends, Longer, stop_longer, running_longer, at_depth_longer, take_call_longer, longer_keeps, longer_keeps_locals}
use Rattle.ps_runs.proofs.FewCallsAreSame.{Same, at_depth_same, take_call_same, then_same, looser, same_keeps, same_keeps_locals}
use Rattle.ps_meaning.specs.Values.{RunValue, as_procedure}
use Rattle.ps_meaning.specs.Literals.{lay_all}
use Rattle.ps_meaning.specs.Eval.{RunEnter, run, run_entering, run_enters, CompileEnter, compile, compile_entering, compile_enters, lambda_of, entered}
use Rattle.ps_meaning.specs.Source.{Halted, all_forms, top_start, top_end, top_within, Begun, run_start, main_place, call_main, integer_of, Runs}
use Rattle.ps_meaning.specs.Laws.{LargerBudgetKeeps, LargerBoundKeeps, CallsEnterProcedures, CompileCallsEnter}
use Rattle.ps_meaning.proofs.RunTimeKeeps as at_run
use Rattle.ps_meaning.proofs.CompileTimeKeeps as at_compile

-- ---- a larger bound at run time

abbrev RunLonger : ℕ → RunEnter → RunEnter → Type 0
RunLonger d = at_run.Enters (Longer d)

run_entering_longer : (k : Kernel) (d : ℕ) (f g : RunEnter) → RunLonger d f g → RunLonger d (run_entering k f) (run_entering k g)
run_entering_longer k d f g enter = record {
  by = λ depth at v vs. at_run.entering_related (Longer d) (longer_keeps_locals d) k f g enter depth at v vs (take_call_longer d) (at_depth_longer d depth);
}

-- no procedure may be entered
abbrev run_none : RunEnter
run_none d at v vs = stop (Ends Running)

run_none_longer : (d : ℕ) → RunLonger d run_none run_none
run_none_longer d = record { by = λ depth at v vs. stop_longer d (Ends Running) }

-- whatever enters procedures and only adds events is longer than what enters none
run_after_none : (d : ℕ) (f g : RunEnter) → RunLonger d f g → RunLonger d run_none g
run_after_none d f g l = record { by = λ depth at v vs. running_longer d d (l.by depth at v vs) }

run_enters_longer : (k : Kernel) (n : ℕ) → RunLonger 1 (run_enters k n) (run_enters k (suc n))
run_enters_longer k zero = run_entering_longer k 1 run_none (run_enters k zero) (run_after_none 1 _ _ (run_entering_longer k 1 run_none run_none (run_none_longer 1)))
run_enters_longer k (suc n) = run_entering_longer k 1 (run_enters k n) (run_enters k (suc n)) (run_enters_longer k n)

main_longer : (k : Kernel) (n : ℕ) → Longer 1 RunValue (call_main k n) (call_main k (suc n))
main_longer k n = (longer_keeps 1).thens (global_related (Longer 1) (longer_keeps 1) (main_place k) k.main) (λ v. (run_enters_longer k n).by 0 (main_place k) v [])

-- ---- outcomes

events_shown : (at : Place) (r : Step RunValue RunValue) → (outcome integer_of at r).events ≡ events_of r
events_shown at (Goes i s) = refl
events_shown at (Stops e s) = refl

-- a longer run's outcome has grown
over : (o p : Outcome) → p ≡ o → Grows o p
over o p e = record { stays = λ h. e; adds = begins_eq _ _ (ap (λ (x : Outcome). x.events) (sym e)) }

grown : (at : Place) (d : ℕ) (r r' : Step RunValue RunValue) → Extends d r r' → Grows (outcome integer_of at r) (outcome integer_of at r')
grown at d (Goes i s) r' e = over _ _ (ap (outcome integer_of at) e)
grown at d (Stops (Ends Running) s) r' e = record { stays = λ h. absurd (h refl); adds = subst (Begins s.events) (sym (events_shown at r')) e }
grown at d (Stops (Ends (Returned i)) s) r' e = over _ _ (ap (outcome integer_of at) e)
grown at d (Stops (Ends (Undefined op p)) s) r' e = over _ _ (ap (outcome integer_of at) e)
grown at d (Stops (Ends (Stuck op)) s) r' e = over _ _ (ap (outcome integer_of at) e)
grown at d (Stops (Ends (Wrong p)) s) r' e = over _ _ (ap (outcome integer_of at) e)
grown at d (Stops (Ends StoppedAtCells) s) r' e = over _ _ (ap (outcome integer_of at) e)
grown at d (Stops (RunOnly p) s) r' e = over _ _ (ap (outcome integer_of at) e)

bound_on : (b : Begun) (w : Surroundings) (cells : Option ℕ) (n : ℕ) → Grows (Runs b w cells n) (Runs b w cells (n + 1))
bound_on b w cells n =
    let one : suc n ≡ n + 1 = omega arith in
    let at = main_place b.kernel in
    subst (λ m. Grows (Runs b w cells n) (outcome integer_of at (call_main b.kernel m (run_start b w (n + 1) cells)))) one (grown at 1 _ _ ((main_longer b.kernel n).extends (run_start b w n cells)))

pub larger_bound : LargerBoundKeeps
larger_bound b w cells = growing_keeps (Runs b w cells) (bound_on b w cells)

-- ---- a larger budget at compile time

abbrev CompileLonger : ℕ → CompileEnter → CompileEnter → Type 0
CompileLonger d = at_compile.Enters (Longer d)

compile_entering_longer : (k : Kernel) (d : ℕ) (f g : CompileEnter) → CompileLonger d f g → CompileLonger d (compile_entering k f) (compile_entering k g)
compile_entering_longer k d f g enter = record {
  by = λ depth at l vs. at_compile.entering_related (Longer d) (longer_keeps_locals d) k f g enter depth at l vs (take_call_longer d) (at_depth_longer d depth);
}

abbrev compile_none : CompileEnter
compile_none d at l vs = stop (Ends Running)

compile_none_longer : (d : ℕ) → CompileLonger d compile_none compile_none
compile_none_longer d = record { by = λ depth at l vs. stop_longer d (Ends Running) }

compile_after_none : (d e : ℕ) (f g : CompileEnter) → CompileLonger e f g → CompileLonger d compile_none g
compile_after_none d e f g l = record { by = λ depth at l' vs. running_longer d e (l.by depth at l' vs) }

-- n levels of calls against m, where m is d more
compile_enters_longer : (k : Kernel) (n m d : ℕ) → m ≡ n + d → CompileLonger d (compile_enters k n) (compile_enters k m)
compile_enters_longer k zero zero d is = compile_entering_longer k d compile_none compile_none (compile_none_longer d)
compile_enters_longer k zero (suc m) d is = compile_entering_longer k d compile_none (compile_enters k m) (compile_after_none d m _ _ (compile_enters_longer k zero m m (omega arith)))
compile_enters_longer k (suc n) zero d is = absurd (omega arith)
compile_enters_longer k (suc n) (suc m) d is = compile_entering_longer k d (compile_enters k n) (compile_enters k m) (compile_enters_longer k n m d (omega arith))

top_kept : (d : ℕ) (r r' : Step Value (Unit {0})) → Extends d r r' → top_end r ≢ Halted (Ends Running) → top_end r' ≡ top_end r
top_kept d (Goes i s) r' e over = ap top_end e
top_kept d (Stops (Ends Running) s) r' e over = absurd (over refl)
top_kept d (Stops (Ends (Returned i)) s) r' e over = ap top_end e
top_kept d (Stops (Ends (Undefined op p)) s) r' e over = ap top_end e
top_kept d (Stops (Ends (Stuck op)) s) r' e over = ap top_end e
top_kept d (Stops (Ends (Wrong p)) s) r' e over = ap top_end e
top_kept d (Stops (Ends StoppedAtCells) s) r' e over = ap top_end e
top_kept d (Stops (RunOnly p) s) r' e over = ap top_end e

within_kept : (k : Kernel) (n m left : ℕ) → n ≤ m → top_within k n left ≢ Halted (Ends Running) → top_within k m left ≡ top_within k n left
within_kept k n m left le over =
    let all : m ≡ n + (m - n) = omega arith in
    let longer = at_compile.forms_related (Longer (m - n)) (longer_keeps_locals (m - n)) k (compile_enters k n) (compile_enters k m) (compile_enters_longer k n m (m - n) all) k.forms in
    let kept = top_kept (m - n) (all_forms k (compile_enters k n) k.forms (top_start k n left)) (all_forms k (compile_enters k m) k.forms (top_start k (n + (m - n)) left)) (longer.extends (top_start k n left)) over in
    subst (λ c. top_end (all_forms k (compile_enters k m) k.forms (top_start k c left)) ≡ top_within k n left) (sym all) kept

pub larger_budget : LargerBudgetKeeps
larger_budget k n m cells le = one (nat_le (cells_in (lay_all k.literals).blocks) cells)
  where
    one : (b : Bool) → (if b then top_within k n (cells - cells_in (lay_all k.literals).blocks) else Halted (Ends StoppedAtCells)) ≢ Halted (Ends Running)
        → (if b then top_within k m (cells - cells_in (lay_all k.literals).blocks) else Halted (Ends StoppedAtCells)) ≡ (if b then top_within k n (cells - cells_in (lay_all k.literals).blocks) else Halted (Ends StoppedAtCells))
    one true over = within_kept k n m (cells - cells_in (lay_all k.literals).blocks) le over
    one false over = refl

-- ---- the bound on nesting

-- where fewer than k procedures may still be entered, g does what f does
abbrev RunSame : ℕ → RunEnter → RunEnter → Type 0
RunSame k = at_run.Enters (Same k k)

run_entering_same : (k : Kernel) (n : ℕ) (f g : RunEnter) → RunSame n f g → RunSame (suc n) (run_entering k f) (run_entering k g)
run_entering_same k n f g enter = record {
  by = λ d at v vs.
      then_same (suc n) (suc n) (suc n) (wrongs (Same (suc n) (suc n)) (same_keeps (suc n)) at (as_procedure v)) (λ c.
      then_same (suc n) (suc n) (suc n) (wrongs (Same (suc n) (suc n)) (same_keeps (suc n)) at (lambda_of k (length vs) c.lambda)) (λ m. looser (suc n) n (suc n) (omega arith)
      (then_same (suc n) n n (take_call_same n) (λ u. then_same n n n (at_depth_same n d) (λ t. within_related (Same n n) (same_keeps_locals n) (entered k c m vs) (run k f m.body d) (run k g m.body d) ((at_run.run_related (Same n n) (same_keeps_locals n) k f g enter m.body).by d))))));
}

-- no state has fewer than none left
run_same_at_none : (f g : RunEnter) → RunSame 0 f g
run_same_at_none f g = record { by = λ d at v vs. record { is = λ s few. absurd (omega arith); leaves = λ s few. absurd (omega arith) } }

run_enters_same : (k : Kernel) (n : ℕ) → RunSame (suc n) (run_enters k n) (run_enters k (suc n))
run_enters_same k zero = run_entering_same k 0 run_none (run_enters k zero) (run_same_at_none run_none (run_enters k zero))
run_enters_same k (suc n) = run_entering_same k (suc n) (run_enters k n) (run_enters k (suc n)) (run_enters_same k n)

pub unrolled : CallsEnterProcedures
unrolled k n d at v vs s few = ((run_enters_same k n).by d at v vs).is s (omega arith)

-- the same at compile time
abbrev CompileSame : ℕ → CompileEnter → CompileEnter → Type 0
CompileSame k = at_compile.Enters (Same k k)

compile_entering_same : (k : Kernel) (n : ℕ) (f g : CompileEnter) → CompileSame n f g → CompileSame (suc n) (compile_entering k f) (compile_entering k g)
compile_entering_same k n f g enter = record {
  by = λ d at l vs.
      then_same (suc n) (suc n) (suc n) (wrongs (Same (suc n) (suc n)) (same_keeps (suc n)) at (lambda_of k (length vs) l)) (λ m. looser (suc n) n (suc n) (omega arith)
      (then_same (suc n) n n (take_call_same n) (λ u. then_same n n n (at_depth_same n d) (λ t. within_related (Same n n) (same_keeps_locals n) (push_all m.parameters vs []) (compile k f m.body d) (compile k g m.body d) ((at_compile.compile_related (Same n n) (same_keeps_locals n) k f g enter m.body).by d)))));
}

compile_same_at_none : (f g : CompileEnter) → CompileSame 0 f g
compile_same_at_none f g = record { by = λ d at l vs. record { is = λ s few. absurd (omega arith); leaves = λ s few. absurd (omega arith) } }

compile_enters_same : (k : Kernel) (n : ℕ) → CompileSame (suc n) (compile_enters k n) (compile_enters k (suc n))
compile_enters_same k zero = compile_entering_same k 0 compile_none (compile_enters k zero) (compile_same_at_none compile_none (compile_enters k zero))
compile_enters_same k (suc n) = compile_entering_same k (suc n) (compile_enters k n) (compile_enters k (suc n)) (compile_enters_same k n)

pub unrolled_at_compile : CompileCallsEnter
unrolled_at_compile k n d at l vs s few = ((compile_enters_same k n).by d at l vs).is s (omega arith)
