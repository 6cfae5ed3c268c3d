-- What a run does where more cells may be made, or where cells have no limit.
-- For: `cells_only_stop` and `more_cells_keep_forms`
use Rattle.std.proofs.Common.{◌≡◌, ◌≢◌, ℕ, zero, suc, ◌+◌, ◌-◌, ◌≤◌, [], Option, Some, None, refl, sym, ap, subst, ◌∙◌, arith}
use Rattle.std.specs.Prelude.{Bool, true, false, nat_le, if◌then◌else◌}
use Rattle.std.proofs.lemmas.Bool.{leb-true, le-leb}
use Rattle.ps_base.specs.declared.faults.Place.{Place}
use Rattle.byte_store.specs.declared.pointer.Value.{Value}
use Rattle.byte_store.specs.Outcome.{Outcome, Returned, Running, Undefined, Stuck, Wrong, StoppedAtCells, Begins}
use Rattle.byte_store.proofs.FrontsCompose.{begins_eq}
use Rattle.ps_prims.specs.Cells.{cells_in}
use Rattle.ps_kernel.specs.declared.kernel.Kernel.{Kernel}
use Rattle.ps_runs.specs.Runs.{Ends, RunOnly, Step, Goes, Stops}
use Rattle.ps_runs.specs.Ends.{outcome}
use Rattle.ps_runs.proofs.WordsKeep.{global_related}
use Rattle.ps_runs.proofs.MoreCallsExtend.{events_of}
use Rattle.ps_runs.proofs.MoreCellsWiden.{Wider, Widens, stop_wider, take_call_wider, at_depth_wider, wider_keeps, wider_keeps_locals}
use Rattle.ps_meaning.specs.Values.{RunValue}
use Rattle.ps_meaning.specs.Literals.{lay_all}
use Rattle.ps_meaning.specs.Eval.{RunEnter, run_entering, run_enters, CompileEnter, compile_entering, compile_enters}
use Rattle.ps_meaning.specs.Source.{Halted, all_forms, top_start, top_end, top_within, run_start, main_place, call_main, integer_of}
use Rattle.ps_meaning.specs.Laws.{StopsOnlyAtCells, CellsOnlyStop, MoreCellsKeep, MoreCellsKeepForms}
use Rattle.ps_meaning.proofs.RunTimeKeeps as at_run
use Rattle.ps_meaning.proofs.CompileTimeKeeps as at_compile

-- ---- run time

module _ (k : Kernel) (e : Option ℕ) where
  enters_at_run : (f g : RunEnter) → at_run.Enters (Wider e) f g → at_run.Enters (Wider e) (run_entering k f) (run_entering k g)
  enters_at_run f g enter = record { by = λ d at v vs. at_run.entering_related (Wider e) (wider_keeps_locals e) k f g enter d at v vs (take_call_wider e) (at_depth_wider e d) }

  run_enters_wider : (n : ℕ) → at_run.Enters (Wider e) (run_enters k n) (run_enters k n)
  run_enters_wider zero = enters_at_run _ _ (record { by = λ d at v vs. stop_wider e (Ends Running) })
  run_enters_wider (suc n) = enters_at_run (run_enters k n) (run_enters k n) (run_enters_wider n)

  main_wider : (n : ℕ) → Wider e RunValue (call_main k n) (call_main k n)
  main_wider n = (wider_keeps e).thens (global_related (Wider e) (wider_keeps e) (main_place k) k.main) (λ v. (run_enters_wider n).by 0 (main_place k) v [])

same_outcome : (o p : Outcome) → p ≡ o → StopsOnlyAtCells o p
same_outcome o p i = record { stays = λ h. i; adds = begins_eq _ _ (ap (λ (x : Outcome). x.events) (sym i)) }

events_shown : (at : Place) (r : Step RunValue RunValue) → (outcome integer_of at r).events ≡ events_of r
events_shown at (Goes i s) = refl
events_shown at (Stops h s) = refl

roomier : (at : Place) (e : Option ℕ) (r r' : Step RunValue RunValue) → Widens e r r' → StopsOnlyAtCells (outcome integer_of at r) (outcome integer_of at r')
roomier at e (Goes v s) r' i = same_outcome _ _ (ap (outcome integer_of at) i)
roomier at e (Stops (Ends StoppedAtCells) s) r' i = record { stays = λ h. absurd (h refl); adds = subst (Begins s.events) (sym (events_shown at r')) i }
roomier at e (Stops (Ends Running) s) r' i = same_outcome _ _ (ap (outcome integer_of at) i)
roomier at e (Stops (Ends (Returned j)) s) r' i = same_outcome _ _ (ap (outcome integer_of at) i)
roomier at e (Stops (Ends (Undefined op p)) s) r' i = same_outcome _ _ (ap (outcome integer_of at) i)
roomier at e (Stops (Ends (Stuck op)) s) r' i = same_outcome _ _ (ap (outcome integer_of at) i)
roomier at e (Stops (Ends (Wrong p)) s) r' i = same_outcome _ _ (ap (outcome integer_of at) i)
roomier at e (Stops (RunOnly p) s) r' i = same_outcome _ _ (ap (outcome integer_of at) i)

pub cells_only_stop : CellsOnlyStop
cells_only_stop b w cells n = roomier (main_place b.kernel) None _ _ ((main_wider b.kernel None n).widens (run_start b w n (Some cells)))

pub more_cells_keep : MoreCellsKeep
more_cells_keep b w c d n le =
    let all : c + (d - c) ≡ d = omega arith in
    let at = main_place b.kernel in
    subst (λ z. StopsOnlyAtCells (outcome integer_of at (call_main b.kernel n (run_start b w n (Some c)))) (outcome integer_of at (call_main b.kernel n (run_start b w n (Some z))))) all
    (roomier at (Some (d - c)) _ _ ((main_wider b.kernel (Some (d - c)) n).widens (run_start b w n (Some c))))

-- ---- compile time

module _ (k : Kernel) (e : Option ℕ) where
  enters_at_compile : (f g : CompileEnter) → at_compile.Enters (Wider e) f g → at_compile.Enters (Wider e) (compile_entering k f) (compile_entering k g)
  enters_at_compile f g enter = record { by = λ d at l vs. at_compile.entering_related (Wider e) (wider_keeps_locals e) k f g enter d at l vs (take_call_wider e) (at_depth_wider e d) }

  compile_enters_wider : (n : ℕ) → at_compile.Enters (Wider e) (compile_enters k n) (compile_enters k n)
  compile_enters_wider zero = enters_at_compile _ _ (record { by = λ d at l vs. stop_wider e (Ends Running) })
  compile_enters_wider (suc n) = enters_at_compile (compile_enters k n) (compile_enters k n) (compile_enters_wider n)

top_kept : (e : Option ℕ) (r r' : Step Value (Unit {0})) → Widens e r r' → top_end r ≢ Halted (Ends StoppedAtCells) → top_end r' ≡ top_end r
top_kept e (Goes v s) r' i over = ap top_end i
top_kept e (Stops (Ends StoppedAtCells) s) r' i over = absurd (over refl)
top_kept e (Stops (Ends Running) s) r' i over = ap top_end i
top_kept e (Stops (Ends (Returned j)) s) r' i over = ap top_end i
top_kept e (Stops (Ends (Undefined op p)) s) r' i over = ap top_end i
top_kept e (Stops (Ends (Stuck op)) s) r' i over = ap top_end i
top_kept e (Stops (Ends (Wrong p)) s) r' i over = ap top_end i
top_kept e (Stops (RunOnly p) s) r' i over = ap top_end i

within_kept : (k : Kernel) (n left more : ℕ) → top_within k n left ≢ Halted (Ends StoppedAtCells) → top_within k n (left + more) ≡ top_within k n left
within_kept k n left more over =
    top_kept (Some more) (all_forms k (compile_enters k n) k.forms (top_start k n left)) (all_forms k (compile_enters k n) k.forms (top_start k n (left + more)))
    ((at_compile.forms_related (Wider (Some more)) (wider_keeps_locals (Some more)) k (compile_enters k n) (compile_enters k n) (compile_enters_wider k (Some more) n) k.forms).widens (top_start k n left)) over

pub more_cells_keep_forms : MoreCellsKeepForms
more_cells_keep_forms k n c d le = one (nat_le need c) refl
  where
    need : ℕ
    need = cells_in (lay_all k.literals).blocks

    one : (b : Bool) → nat_le need c ≡ b → (if b then top_within k n (c - need) else Halted (Ends StoppedAtCells)) ≢ Halted (Ends StoppedAtCells)
        → (if nat_le need d then top_within k n (d - need) else Halted (Ends StoppedAtCells)) ≡ (if b then top_within k n (c - need) else Halted (Ends StoppedAtCells))
    one true is over =
        let few : need ≤ c = leb-true need c is in
        let more : nat_le need d ≡ true = le-leb need d (omega arith) in
        let rest : d - need ≡ (c - need) + (d - c) = omega arith in
        ap (λ b. if b then top_within k n (d - need) else Halted (Ends StoppedAtCells)) more ∙ ap (top_within k n) rest ∙ within_kept k n (c - need) (d - c) over
    one false is over = absurd (over refl)
