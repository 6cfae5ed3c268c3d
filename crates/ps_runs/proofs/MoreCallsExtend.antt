-- What a part of a run does with more calls left.
-- For: the laws of bounds and budgets of each meaning that is said in the words of runs
use Rattle.std.proofs.Common.{◌≡◌, ℕ, zero, suc, ◌+◌, List, Option, Some, None, refl, sym, ap, subst, arith}
use Rattle.std.specs.Prelude.{Bool, true, false, nat_le, ◌-◌, if◌then◌else◌}
use Rattle.ps_base.specs.declared.faults.Place.{Place}
use Rattle.byte_store.specs.declared.event.Event.{Event}
use Rattle.byte_store.specs.Outcome.{Returned, Running, Undefined, Stuck, Wrong, StoppedAtCells, Begins}
use Rattle.byte_store.proofs.FrontsCompose.{begins_self, begins_trans}
use Rattle.ps_prims.specs.Rows.{Done, Scene, Performed, Answers}
use Rattle.ps_prims.specs.Rows as rows
use Rattle.ps_runs.specs.Runs.{Env, State, Halt, Ends, RunOnly, Step, Goes, Stops, Run, and_then, ◌>>=◌, pure, stop, stopped}
use Rattle.ps_runs.specs.Locals.{get_locals, put_locals}
use Rattle.ps_runs.specs.Effects.{take_one, take_call, at_depth, get_globals, put_globals, pay, take_cells, get_scene, leave, came, performing}
use Rattle.ps_runs.proofs.WordsKeep.{Keeps, KeepsLocals}

module _ {V : Type 0} where
  abbrev pub events_of : {A : Type 0} → Step V A → List Event
  events_of (Goes a s) = s.events
  events_of (Stops h s) = s.events

  abbrev pub more : ℕ → State V → State V
  more d s = record s { calls = s.calls + d }

  -- how a part that stopped goes with d calls more: only one that was still Running goes on
  abbrev pub Extends : {A : Type 0} → ℕ → Step V A → Step V A → Type 0
  Extends d (Goes a s) r = r ≡ Goes a (more d s)
  Extends d (Stops (Ends Running) s) r = Begins s.events (events_of r)
  Extends d (Stops (Ends (Returned i)) s) r = r ≡ Stops (Ends (Returned i)) (more d s)
  Extends d (Stops (Ends (Undefined op at)) s) r = r ≡ Stops (Ends (Undefined op at)) (more d s)
  Extends d (Stops (Ends (Stuck op)) s) r = r ≡ Stops (Ends (Stuck op)) (more d s)
  Extends d (Stops (Ends (Wrong at)) s) r = r ≡ Stops (Ends (Wrong at)) (more d s)
  Extends d (Stops (Ends StoppedAtCells) s) r = r ≡ Stops (Ends StoppedAtCells) (more d s)
  Extends d (Stops (RunOnly at) s) r = r ≡ Stops (RunOnly at) (more d s)

  -- q does with d calls more what p does, and keeps the events before it
  pub record Longer (d : ℕ) (A : Type 0) (p q : Run V A) : Type 0 where
    pub extends : (s : State V) → Extends d (p s) (q (more d s))
    pub grows : (s : State V) → Begins s.events (events_of (q s))

  pure_longer : {A : Type 0} (d : ℕ) (a : A) → Longer d A (pure a) (pure a)
  pure_longer d a = record { extends = λ s. refl; grows = λ s. begins_self s.events }

  stop_extends : (A : Type 0) (d : ℕ) (h : Halt) (s : State V) → Extends {A = A} d (Stops h (stopped s)) (Stops h (stopped (more d s)))
  stop_extends A d (Ends Running) s = begins_self s.events
  stop_extends A d (Ends (Returned i)) s = refl
  stop_extends A d (Ends (Undefined op at)) s = refl
  stop_extends A d (Ends (Stuck op)) s = refl
  stop_extends A d (Ends (Wrong at)) s = refl
  stop_extends A d (Ends StoppedAtCells) s = refl
  stop_extends A d (RunOnly at) s = refl

  pub stop_longer : {A : Type 0} (d : ℕ) (h : Halt) → Longer d A (stop h) (stop h)
  stop_longer {A} d h = record { extends = λ s. stop_extends A d h s; grows = λ s. begins_self s.events }

  -- whatever only adds events is longer than what is Running at once
  pub running_longer : {A : Type 0} (d e : ℕ) {p q : Run V A} → Longer e A p q → Longer d A (stop (Ends Running)) q
  running_longer d e l = record { extends = λ s. l.grows (more d s); grows = l.grows }

  pub at_depth_longer : (d n : ℕ) → Longer d (Unit {0}) (at_depth n) (at_depth n)
  at_depth_longer d n = record { extends = λ s. refl; grows = λ s. begins_self s.events }

  gets_longer : (d : ℕ) → Longer d (List (Option V)) get_globals get_globals
  gets_longer d = record { extends = λ s. refl; grows = λ s. begins_self s.events }

  puts_longer : (d : ℕ) (globals : List (Option V)) → Longer d (Unit {0}) (put_globals globals) (put_globals globals)
  puts_longer d globals = record { extends = λ s. refl; grows = λ s. begins_self s.events }

  take_one_grows : (n : ℕ) (s : State V) → Begins s.events (events_of (take_one n s))
  take_one_grows zero s = begins_self s.events
  take_one_grows (suc n) s = begins_self s.events

  take_one_extends : (d n : ℕ) (s : State V) → Extends d (take_one n s) (take_one (n + d) (more d s))
  take_one_extends d zero s = take_one_grows (zero + d) (more d s)
  take_one_extends d (suc n) s = let e : suc n + d ≡ suc (n + d) = omega arith in ap (λ z. take_one z (more d s)) e

  pub take_call_longer : (d : ℕ) → Longer d (Unit {0}) take_call take_call
  take_call_longer d = record { extends = λ s. take_one_extends d s.calls s; grows = λ s. take_one_grows s.calls s }

  -- ---- one part after another

  module _ {A B : Type 0} (d : ℕ) (f g : A → Run V B) (h : (a : A) → Longer d B (f a) (g a)) where
    then_grows : (r : Step V A) → Begins (events_of r) (events_of (and_then r g))
    then_grows (Goes a s) = (h a).grows s
    then_grows (Stops e s) = begins_self s.events

    then_extends : (r r' : Step V A) → Extends d r r' → Extends d (and_then r f) (and_then r' g)
    then_extends (Goes a s) r' e = subst (λ z. Extends d (f a s) (and_then z g)) (sym e) ((h a).extends s)
    then_extends (Stops (Ends Running) s) r' e = begins_trans s.events (events_of r') (events_of (and_then r' g)) e (then_grows r')
    then_extends (Stops (Ends (Returned i)) s) r' e = ap (λ z. and_then z g) e
    then_extends (Stops (Ends (Undefined op at)) s) r' e = ap (λ z. and_then z g) e
    then_extends (Stops (Ends (Stuck op)) s) r' e = ap (λ z. and_then z g) e
    then_extends (Stops (Ends (Wrong at)) s) r' e = ap (λ z. and_then z g) e
    then_extends (Stops (Ends StoppedAtCells) s) r' e = ap (λ z. and_then z g) e
    then_extends (Stops (RunOnly at) s) r' e = ap (λ z. and_then z g) e

  pub then_longer : {A B : Type 0} (d : ℕ) {p q : Run V A} {f g : A → Run V B} → Longer d A p q → ((a : A) → Longer d B (f a) (g a)) → Longer d B (p >>= f) (q >>= g)
  then_longer d {p} {q} {f} {g} l h = record {
    extends = λ s. then_extends d f g h (p s) (q (more d s)) (l.extends s);
    grows = λ s. begins_trans s.events (events_of (q s)) (events_of (and_then (q s) g)) (l.grows s) (then_grows d f g h (q s));
  }

  -- ---- primitives

  pays_grow : (n : ℕ) (left : Option ℕ) (s : State V) → Begins s.events (events_of (pay n left s))
  pays_grow n None s = begins_self s.events
  pays_grow n (Some left) s = one (nat_le n left)
    where
      one : (b : Bool) → Begins s.events (events_of ((if b then (λ s. Goes tt (record s { cells = Some (left - n) })) else stop {A = Unit {0}} (Ends StoppedAtCells)) s))
      one true = begins_self s.events
      one false = begins_self s.events

  pays_extend : (d n : ℕ) (left : Option ℕ) (s : State V) → Extends d (pay n left s) (pay n left (more d s))
  pays_extend d n None s = refl
  pays_extend d n (Some left) s = one (nat_le n left)
    where
      one : (b : Bool) → Extends d ((if b then (λ s. Goes tt (record s { cells = Some (left - n) })) else stop {A = Unit {0}} (Ends StoppedAtCells)) s) ((if b then (λ s. Goes tt (record s { cells = Some (left - n) })) else stop {A = Unit {0}} (Ends StoppedAtCells)) (more d s))
      one true = refl
      one false = refl

  cells_longer : (d n : ℕ) → Longer d (Unit {0}) (take_cells n) (take_cells n)
  cells_longer d n = record { extends = λ s. pays_extend d n s.cells s; grows = λ s. pays_grow n s.cells s }

  scene_longer : (d : ℕ) → Longer d (Scene V) get_scene get_scene
  scene_longer d = record { extends = λ s. refl; grows = λ s. begins_self s.events }

  came_longer : (d : ℕ) (at : Place) (r : Performed V) → Longer d V (came at r) (came at r)
  came_longer d at (Answers e) = record { extends = λ s. refl; grows = λ s. record { rest = e.events; is = refl } }
  came_longer d at (rows.Undefined op) = stop_longer d (Ends (Undefined op at))
  came_longer d at rows.Wrong = stop_longer d (Ends (Wrong at))

  performs_longer : (d : ℕ) (at : Place) (asks : Scene V → ℕ) (act : Scene V → Performed V) → Longer d V (performing at asks act) (performing at asks act)
  performs_longer d at asks act = then_longer d (scene_longer d) (λ scene. then_longer d (cells_longer d (asks scene)) (λ u. came_longer d at (act scene)))

  locals_longer : (d : ℕ) → Longer d (Env V) get_locals get_locals
  locals_longer d = record { extends = λ s. refl; grows = λ s. begins_self s.events }

  puts_locals_longer : (d : ℕ) (env : Env V) → Longer d (Unit {0}) (put_locals env) (put_locals env)
  puts_locals_longer d env = record { extends = λ s. refl; grows = λ s. begins_self s.events }

  pub longer_keeps : (d : ℕ) → Keeps V (Longer d)
  longer_keeps d = record {
    pures = λ a. pure_longer d a;
    stops = λ h. stop_longer d h;
    globals = gets_longer d;
    puts_globals = λ globals. puts_longer d globals;
    performs = λ at asks act. performs_longer d at asks act;
    thens = λ l h. then_longer d l h;
  }

  pub longer_keeps_locals : (d : ℕ) → KeepsLocals V (Longer d)
  longer_keeps_locals d = record { words = longer_keeps d; locals = locals_longer d; puts_locals = puts_locals_longer d }
