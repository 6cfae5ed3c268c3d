-- What a run does where more cells may be made, or where cells have no limit.
-- For: the laws of cells of each meaning that is said in the words of runs
use Rattle.std.proofs.Common.{◌≡◌, ◌≢◌, ℕ, zero, suc, ◌+◌, ◌-◌, ◌≤◌, List, [], Option, Some, None, refl, sym, ap, subst, ◌∙◌, arith}
use Rattle.std.specs.Prelude.{Bool, true, false, nat_le, if◌then◌else◌}
use Rattle.std.proofs.lemmas.Bool.{leb-true, le-leb}
use Rattle.ps_base.specs.declared.faults.Place.{Place}
use Rattle.byte_store.specs.Outcome.{Outcome, Returned, Running, Undefined, Stuck, Wrong, StoppedAtCells, Begins}
use Rattle.byte_store.proofs.FrontsCompose.{begins_self, begins_eq, begins_trans}
use Rattle.ps_prims.specs.Rows.{Done, Scene, Performed, Answers}
use Rattle.ps_prims.specs.Rows as rows
use Rattle.ps_runs.specs.Runs.{Env, State, Halt, Ends, RunOnly, Step, Goes, Stops, Run, and_then, ◌>>=◌, pure, stop, stopped}
use Rattle.ps_runs.specs.Locals.{get_locals, put_locals}
use Rattle.ps_runs.specs.Effects.{take_one, take_call, at_depth, get_globals, put_globals, pay, take_cells, get_scene, leave, came, performing}
use Rattle.ps_runs.proofs.WordsKeep.{Keeps, KeepsLocals}
use Rattle.ps_runs.proofs.MoreCallsExtend.{events_of}

-- so many cells more, or no limit
abbrev pub wide : Option ℕ → Option ℕ → Option ℕ
wide None e = None
wide (Some c) None = None
wide (Some c) (Some d) = Some (c + d)

module _ {V : Type 0} (e : Option ℕ) where
  abbrev pub wider : State V → State V
  wider s = record s { cells = wide s.cells e }

  -- only a part that was stopped at its cells goes on
  abbrev pub Widens : {A : Type 0} → Step V A → Step V A → Type 0
  Widens (Goes a s) r = r ≡ Goes a (wider s)
  Widens (Stops (Ends StoppedAtCells) s) r = Begins s.events (events_of r)
  Widens (Stops (Ends Running) s) r = r ≡ Stops (Ends Running) (wider s)
  Widens (Stops (Ends (Returned i)) s) r = r ≡ Stops (Ends (Returned i)) (wider s)
  Widens (Stops (Ends (Undefined op at)) s) r = r ≡ Stops (Ends (Undefined op at)) (wider s)
  Widens (Stops (Ends (Stuck op)) s) r = r ≡ Stops (Ends (Stuck op)) (wider s)
  Widens (Stops (Ends (Wrong at)) s) r = r ≡ Stops (Ends (Wrong at)) (wider s)
  Widens (Stops (RunOnly at) s) r = r ≡ Stops (RunOnly at) (wider s)

  pub record Wider (A : Type 0) (p q : Run V A) : Type 0 where
    pub widens : (s : State V) → Widens (p s) (q (wider s))
    pub grows : (s : State V) → Begins s.events (events_of (q s))

  pure_wider : {A : Type 0} (a : A) → Wider A (pure a) (pure a)
  pure_wider a = record { widens = λ s. refl; grows = λ s. begins_self s.events }

  stop_widens : (A : Type 0) (h : Halt) (s : State V) → Widens {A = A} (Stops h (stopped s)) (Stops h (stopped (wider s)))
  stop_widens A (Ends StoppedAtCells) s = begins_self s.events
  stop_widens A (Ends Running) s = refl
  stop_widens A (Ends (Returned i)) s = refl
  stop_widens A (Ends (Undefined op at)) s = refl
  stop_widens A (Ends (Stuck op)) s = refl
  stop_widens A (Ends (Wrong at)) s = refl
  stop_widens A (RunOnly at) s = refl

  pub stop_wider : {A : Type 0} (h : Halt) → Wider A (stop h) (stop h)
  stop_wider {A} h = record { widens = λ s. stop_widens A h s; grows = λ s. begins_self s.events }

  pub at_depth_wider : (n : ℕ) → Wider (Unit {0}) (at_depth n) (at_depth n)
  at_depth_wider n = record { widens = λ s. refl; grows = λ s. begins_self s.events }

  gets_wider : Wider (List (Option V)) get_globals get_globals
  gets_wider = record { widens = λ s. refl; grows = λ s. begins_self s.events }

  puts_wider : (globals : List (Option V)) → Wider (Unit {0}) (put_globals globals) (put_globals globals)
  puts_wider globals = record { widens = λ s. refl; grows = λ s. begins_self s.events }

  take_one_grows : (n : ℕ) (s : State V) → Begins s.events (events_of (take_one n s))
  take_one_grows zero s = begins_self s.events
  take_one_grows (suc n) s = begins_self s.events

  take_one_widens : (n : ℕ) (s : State V) → Widens (take_one n s) (take_one n (wider s))
  take_one_widens zero s = refl
  take_one_widens (suc n) s = refl

  pub take_call_wider : Wider (Unit {0}) take_call take_call
  take_call_wider = record { widens = λ s. take_one_widens s.calls s; grows = λ s. take_one_grows s.calls s }

  -- ---- one part after another

  module _ {A B : Type 0} (f g : A → Run V B) (h : (a : A) → Wider B (f a) (g a)) where
    then_grows : (r : Step V A) → Begins (events_of r) (events_of (and_then r g))
    then_grows (Goes a s) = (h a).grows s
    then_grows (Stops i s) = begins_self s.events

    then_widens : (r r' : Step V A) → Widens r r' → Widens (and_then r f) (and_then r' g)
    then_widens (Goes a s) r' i = subst (λ z. Widens (f a s) (and_then z g)) (sym i) ((h a).widens s)
    then_widens (Stops (Ends StoppedAtCells) s) r' i = begins_trans s.events (events_of r') (events_of (and_then r' g)) i (then_grows r')
    then_widens (Stops (Ends Running) s) r' i = ap (λ z. and_then z g) i
    then_widens (Stops (Ends (Returned j)) s) r' i = ap (λ z. and_then z g) i
    then_widens (Stops (Ends (Undefined op at)) s) r' i = ap (λ z. and_then z g) i
    then_widens (Stops (Ends (Stuck op)) s) r' i = ap (λ z. and_then z g) i
    then_widens (Stops (Ends (Wrong at)) s) r' i = ap (λ z. and_then z g) i
    then_widens (Stops (RunOnly at) s) r' i = ap (λ z. and_then z g) i

  then_wider : {A B : Type 0} {p q : Run V A} {f g : A → Run V B} → Wider A p q → ((a : A) → Wider B (f a) (g a)) → Wider B (p >>= f) (q >>= g)
  then_wider {A} {B} {p} {q} {f} {g} l h = record {
    widens = λ s. then_widens f g h (p s) (q (wider s)) (l.widens s);
    grows = λ s. begins_trans s.events (events_of (q s)) (events_of (and_then (q s) g)) (l.grows s) (then_grows f g h (q s));
  }

  -- ---- cells

  pays_grow : (n : ℕ) (left : Option ℕ) (s : State V) → Begins s.events (events_of (pay n left s))
  pays_grow n None s = begins_self s.events
  pays_grow n (Some left) s = one (nat_le n left)
    where
      one : (b : Bool) → Begins s.events (events_of ((if b then (λ s. Goes tt (record s { cells = Some (left - n) })) else stop {A = Unit {0}} (Ends StoppedAtCells)) s))
      one true = begins_self s.events
      one false = begins_self s.events

-- a state with so many cells left
abbrev with_cells : {V : Type 0} → Option ℕ → State V → State V
with_cells left s = record s { cells = left }

-- what is paid of so many cells, where they are enough or not
abbrev paid : {V : Type 0} → ℕ → ℕ → Bool → Run V (Unit {0})
paid n left b = if b then (λ t. Goes tt (record t { cells = Some (left - n) })) else stop (Ends StoppedAtCells)

pays_widen : {V : Type 0} (e : Option ℕ) (n : ℕ) (left : Option ℕ) (s : State V) → Widens e (pay n left (with_cells left s)) (pay n (wide left e) (with_cells (wide left e) s))
pays_widen e n None s = refl
pays_widen {V} None n (Some left) s = one (nat_le n left)
  where
    one : (b : Bool) → Widens None (paid n left b (with_cells (Some left) s)) (pay n None (with_cells None s))
    one true = refl
    one false = begins_self s.events
pays_widen {V} (Some d) n (Some left) s = one (nat_le n left) refl
  where
    one : (b : Bool) → nat_le n left ≡ b → Widens (Some d) (paid n left b (with_cells (Some left) s)) (paid n (left + d) (nat_le n (left + d)) (with_cells (Some (left + d)) s))
    one true le =
        let few : n ≤ left = leb-true n left le in
        let more : nat_le n (left + d) ≡ true = le-leb n (left + d) (omega arith) in
        let rest : (left + d) - n ≡ (left - n) + d = omega arith in
        ap (λ c. paid n (left + d) c (with_cells (Some (left + d)) s)) more ∙ ap (λ z. Goes tt (with_cells (Some z) s)) rest
    one false le = pays_grow (Some d) n (Some (left + d)) (with_cells (Some (left + d)) s)

module _ {V : Type 0} (e : Option ℕ) where
  cells_wider : (n : ℕ) → Wider {V = V} e (Unit {0}) (take_cells n) (take_cells n)
  cells_wider n = record { widens = λ s. pays_widen e n s.cells s; grows = λ s. pays_grow e n s.cells s }

  scene_wider : Wider e (Scene V) get_scene get_scene
  scene_wider = record { widens = λ s. refl; grows = λ s. begins_self s.events }

  came_wider : (at : Place) (r : Performed V) → Wider e V (came at r) (came at r)
  came_wider at (Answers d) = record { widens = λ s. refl; grows = λ s. record { rest = d.events; is = refl } }
  came_wider at (rows.Undefined op) = stop_wider e (Ends (Undefined op at))
  came_wider at rows.Wrong = stop_wider e (Ends (Wrong at))

  performs_wider : (at : Place) (asks : Scene V → ℕ) (act : Scene V → Performed V) → Wider e V (performing at asks act) (performing at asks act)
  performs_wider at asks act = then_wider e scene_wider (λ scene. then_wider e (cells_wider (asks scene)) (λ u. came_wider at (act scene)))

  locals_wider : Wider e (Env V) get_locals get_locals
  locals_wider = record { widens = λ s. refl; grows = λ s. begins_self s.events }

  puts_locals_wider : (env : Env V) → Wider e (Unit {0}) (put_locals env) (put_locals env)
  puts_locals_wider env = record { widens = λ s. refl; grows = λ s. begins_self s.events }

  pub wider_keeps : Keeps V (Wider e)
  wider_keeps = record {
    pures = λ a. pure_wider e a;
    stops = λ h. stop_wider e h;
    globals = gets_wider e;
    puts_globals = λ globals. puts_wider e globals;
    performs = λ at asks act. performs_wider at asks act;
    thens = λ l h. then_wider e l h;
  }

  pub wider_keeps_locals : KeepsLocals V (Wider e)
  wider_keeps_locals = record { words = wider_keeps; locals = locals_wider; puts_locals = puts_locals_wider }
