-- The words of runs go from good states to good ones, in which the memory grew.
-- For: `forms_leave_what_can_be_kept`
use Rattle.std.proofs.Common.{ℕ, zero, suc, ◌-◌, List, [], ◌∷◌, ◌++◌, length, drop, Bool, true, false, Option, Some, None}
use Rattle.std.specs.Prelude.{nat_eq, nat_le, is_some, slice_set, if◌then◌else◌}
use Rattle.ps_base.specs.declared.faults.Place.{Place}
use Rattle.byte_store.specs.declared.pointer.Value.{Value}
use Rattle.byte_store.specs.Blocks.{Memory}
use Rattle.byte_store.specs.Outcome.{StoppedAtCells}
use Rattle.ps_types.specs.declared.types.RecordKind.{RecordKind}
use Rattle.ps_prims.specs.Rows.{Scene, Performed, Answers}
use Rattle.ps_prims.specs.Rows as rows
use Rattle.ps_runs.specs.Runs.{Env, State, Step, Goes, Stops, Run, Halt, Ends, and_then, ◌>>=◌, pure, stop, or_wrong}
use Rattle.ps_runs.specs.Locals.{found, put_in, push_all, get_locals, put_locals, local, set_local, with_pairs, within}
use Rattle.ps_runs.specs.Effects.{take_one, take_call, at_depth, defined_in, assigned, get_globals, put_globals, global, set_global, pay, came, performing}
use Rattle.ps_meaning.specs.Left.{IsLeftValue, IsLeftOption, AreLeftGlobals}
use Rattle.ps_meaning.proofs.LeftAsMemoryGrows.{Grows, grows_self, grows_then, AreLeftValues, AreLeftLocals, IsGood, value_grows, globals_grow, values_grow, locals_grow}
use Rattle.ps_meaning.proofs.RowsLeave.{PerformedLeft}

-- ---- locals and globals that are left

module _ (kinds : List RecordKind) (m : Memory Value) where
  found_local : (x : ℕ) (env : Env Value) → AreLeftLocals kinds m env → IsLeftOption kinds m (found x env)
  found_local x [] h = tt
  found_local x (e ∷ env) h = go (nat_eq x e.0) (found_local x env h.1)
    where
      go : (b : Bool) → IsLeftOption kinds m (found x env) → IsLeftOption kinds m (if b then Some e.1 else found x env)
      go true ih = h.0
      go false ih = ih

  put_left : (x : ℕ) (v : Value) (env : Env Value) → AreLeftLocals kinds m env → IsLeftValue kinds m v → AreLeftLocals kinds m (put_in x v env)
  put_left x v [] h left = tt
  put_left x v (e ∷ env) h left = go (nat_eq x e.0) (put_left x v env h.1 left)
    where
      go : (b : Bool) → AreLeftLocals kinds m (put_in x v env) → AreLeftLocals kinds m (if b then (x, v) ∷ env else e ∷ put_in x v env)
      go true ih = (left, h.1)
      go false ih = (h.0, ih)

  pub pushed_left : (xs : List ℕ) (vs : List Value) (env : Env Value) → AreLeftValues kinds m vs → AreLeftLocals kinds m env → AreLeftLocals kinds m (push_all xs vs env)
  pushed_left [] vs env h left = left
  pushed_left (x ∷ xs) [] env h left = left
  pushed_left (x ∷ xs) (v ∷ vs) env h left = pushed_left xs vs ((x, v) ∷ env) h.1 (h.0, left)

  appended_left : (es fs : Env Value) → AreLeftLocals kinds m es → AreLeftLocals kinds m fs → AreLeftLocals kinds m (es ++ fs)
  appended_left [] fs h left = left
  appended_left (e ∷ es) fs h left = (h.0, appended_left es fs h.1 left)

  dropped_left : (n : ℕ) (es : Env Value) → AreLeftLocals kinds m es → AreLeftLocals kinds m (drop n es)
  dropped_left zero es h = h
  dropped_left (suc n) [] h = tt
  dropped_left (suc n) (e ∷ es) h = dropped_left n es h.1

  value_left : (g : ℕ) (gs : List (Option Value)) → AreLeftGlobals kinds m gs → IsLeftOption kinds m (defined_in g gs)
  value_left g [] h = tt
  value_left zero (x ∷ gs) h = h.0
  value_left (suc g) (x ∷ gs) h = value_left g gs h.1

  pub global_set_left : (g : ℕ) (v : Value) (gs : List (Option Value)) → AreLeftGlobals kinds m gs → IsLeftValue kinds m v → AreLeftGlobals kinds m (slice_set gs g (Some v))
  global_set_left g v [] h left = tt
  global_set_left zero v (x ∷ gs) h left = (left, h.1)
  global_set_left (suc g) v (x ∷ gs) h left = (h.0, global_set_left g v gs h.1 left)

  assigned_left : (g : ℕ) (v : Value) (gs : List (Option Value)) → AreLeftGlobals kinds m gs → IsLeftValue kinds m v → AreLeftGlobals kinds m (assigned g v gs)
  assigned_left g v gs h left = go (is_some (defined_in g gs))
    where
      go : (b : Bool) → AreLeftGlobals kinds m (if b then slice_set gs g (Some v) else gs)
      go true = global_set_left g v gs h left
      go false = h

-- ---- runs

module _ (kinds : List RecordKind) (root : Memory Value) where
  -- the memory grew from the first, and all that is in the state is left
  pub record IsGoodState (s : State Value) : Type 0 where
    pub first : Grows root s.memory
    pub memory : IsGood kinds s.memory
    pub globals : AreLeftGlobals kinds s.memory s.globals
    pub locals : AreLeftLocals kinds s.memory s.locals

  -- where it goes on, the state is good, its memory grew from m, and the value has a property there
  abbrev pub Came : {A : Type 0} → Memory Value → (Memory Value → A → Type 0) → Step Value A → Type 0
  Came m Q (Goes a t) = IsGoodState t × Grows m t.memory × Q t.memory a
  Came m Q (Stops h t) = Unit {0}

  pub record From (m : Memory Value) {A : Type 0} (Q : Memory Value → A → Type 0) (p : Run Value A) : Type 0 where
    pub by : (s : State Value) → Grows m s.memory → IsGoodState s → Came m Q (p s)

  -- any value, and one that is left
  abbrev pub Anything : {A : Type 0} → Memory Value → A → Type 0
  Anything m a = Unit {0}

  abbrev pub IsLeftThere : Memory Value → Value → Type 0
  IsLeftThere m v = IsLeftValue kinds m v

  pub then_from : {A B : Type 0} {m : Memory Value} {Q : Memory Value → A → Type 0} {Q' : Memory Value → B → Type 0} {p : Run Value A} {f : A → Run Value B} →
      From m Q p → ((m' : Memory Value) → Grows m m' → (a : A) → Q m' a → From m' Q' (f a)) → From m Q' (p >>= f)
  then_from {A} {B} {m} {Q} {Q'} {p} {f} h next = record { by = λ s grows good. go (p s) (h.by s grows good) }
    where
      widened : (m' : Memory Value) → Grows m m' → (y : Step Value B) → Came m' Q' y → Came m Q' y
      widened m' grows (Goes b t) c = (c.0, grows_then m m' t.memory grows c.1, c.2)
      widened m' grows (Stops e t) c = tt

      go : (x : Step Value A) → Came m Q x → Came m Q' (and_then x f)
      go (Goes a t) c = widened t.memory c.1 (f a t) ((next t.memory c.1 a c.2).by t (grows_self t.memory) c.0)
      go (Stops e t) c = tt

  pub stop_from : {A : Type 0} {Q : Memory Value → A → Type 0} (m : Memory Value) (h : Halt) → From m Q (stop h)
  stop_from m h = record { by = λ s grows good. tt }

  pub pure_any : {A : Type 0} (m : Memory Value) (a : A) → From m Anything (pure a)
  pure_any m a = record { by = λ s grows good. (good, grows, tt) }

  pub pure_left : (m : Memory Value) (v : Value) → IsLeftValue kinds m v → From m IsLeftThere (pure v)
  pure_left m v left = record { by = λ s grows good. (good, grows, value_grows kinds m s.memory grows v left) }

  pub pure_values : (m : Memory Value) (vs : List Value) → AreLeftValues kinds m vs → From m (AreLeftValues kinds) (pure vs)
  pure_values m vs left = record { by = λ s grows good. (good, grows, values_grow kinds m s.memory grows vs left) }

  pub wrong_any : {A : Type 0} (m : Memory Value) (at : Place) (o : Option A) → From m Anything (or_wrong at o)
  wrong_any m at None = record { by = λ s grows good. tt }
  wrong_any m at (Some a) = record { by = λ s grows good. (good, grows, tt) }

  pub wrong_left : (m : Memory Value) (at : Place) (o : Option Value) → ((s : State Value) → Grows m s.memory → IsGoodState s → IsLeftOption kinds s.memory o) → From m IsLeftThere (or_wrong at o)
  wrong_left m at None left = record { by = λ s grows good. tt }
  wrong_left m at (Some v) left = record { by = λ s grows good. (good, grows, left s grows good) }

  option_left : (m : Memory Value) (at : Place) (o : Option Value) → IsLeftOption kinds m o → From m IsLeftThere (or_wrong at o)
  option_left m at None left = record { by = λ s grows good. tt }
  option_left m at (Some v) left = pure_left m v left

  -- ---- locals

  locals_from : (m : Memory Value) → From m (AreLeftLocals kinds) get_locals
  locals_from m = record { by = λ s grows good. (good, grows, good.locals) }

  puts_locals : (m : Memory Value) (env : Env Value) → AreLeftLocals kinds m env → From m Anything (put_locals env)
  puts_locals m env left = record {
    by = λ s grows good. (record { first = good.first; memory = good.memory; globals = good.globals; locals = locals_grow kinds m s.memory grows env left }, grows, tt);
  }

  pub local_from : (m : Memory Value) (at : Place) (x : ℕ) → From m IsLeftThere (local at x)
  local_from m at x = then_from (locals_from m) (λ m' grows env left. option_left m' at (found x env) (found_local kinds m' x env left))

  pub set_local_from : (m : Memory Value) (at : Place) (x : ℕ) (v : Value) → IsLeftValue kinds m v → From m Anything (set_local at x v)
  set_local_from m at x v left =
      then_from (local_from m at x) (λ m1 g1 w known. then_from (locals_from m1) (λ m2 g2 env all. puts_locals m2 (put_in x v env) (put_left kinds m2 x v env all (value_grows kinds m m2 (grows_then m m1 m2 g1 g2) v left))))

  pub pairs_from : (m : Memory Value) (pairs : Env Value) (p : Run Value Value) → AreLeftLocals kinds m pairs → ((m' : Memory Value) → From m' IsLeftThere p) → From m IsLeftThere (with_pairs pairs p)
  pairs_from m pairs p left h =
      then_from (locals_from m) (λ m1 g1 env all.
      then_from (puts_locals m1 (pairs ++ env) (appended_left kinds m1 pairs env (locals_grow kinds m m1 g1 pairs left) all)) (λ m2 g2 u known.
      then_from (h m2) (λ m3 g3 a is.
      then_from (locals_from m3) (λ m4 g4 later rest.
      then_from (puts_locals m4 (drop (length pairs) later) (dropped_left kinds m4 (length pairs) later rest)) (λ m5 g5 w done.
      pure_left m5 a (value_grows kinds m3 m5 (grows_then m3 m4 m5 g4 g5) a is))))))

  pub within_from : (m : Memory Value) (env : Env Value) (p : Run Value Value) → AreLeftLocals kinds m env → ((m' : Memory Value) → From m' IsLeftThere p) → From m IsLeftThere (within env p)
  within_from m env p left h =
      then_from (locals_from m) (λ m1 g1 before all.
      then_from (puts_locals m1 env (locals_grow kinds m m1 g1 env left)) (λ m2 g2 u known.
      then_from (h m2) (λ m3 g3 a is.
      then_from (puts_locals m3 before (locals_grow kinds m1 m3 (grows_then m1 m2 m3 g2 g3) before all)) (λ m4 g4 w done.
      pure_left m4 a (value_grows kinds m3 m4 g4 a is)))))

  -- ---- definitions

  pub globals_from : (m : Memory Value) → From m (AreLeftGlobals kinds) get_globals
  globals_from m = record { by = λ s grows good. (good, grows, good.globals) }

  pub puts_globals : (m : Memory Value) (gs : List (Option Value)) → AreLeftGlobals kinds m gs → From m Anything (put_globals gs)
  puts_globals m gs left = record {
    by = λ s grows good. (record { first = good.first; memory = good.memory; globals = globals_grow kinds m s.memory grows gs left; locals = good.locals }, grows, tt);
  }

  pub global_from : (m : Memory Value) (at : Place) (g : ℕ) → From m IsLeftThere (global at g)
  global_from m at g = then_from (globals_from m) (λ m' grows gs left. option_left m' at (defined_in g gs) (value_left kinds m' g gs left))

  pub set_global_from : (m : Memory Value) (g : ℕ) (v : Value) → IsLeftValue kinds m v → From m Anything (set_global g v)
  set_global_from m g v left = then_from (globals_from m) (λ m' grows gs all. puts_globals m' (assigned g v gs) (assigned_left kinds m' g v gs all (value_grows kinds m m' grows v left)))

  -- ---- calls and primitives

  pub take_call_from : (m : Memory Value) → From m Anything take_call
  take_call_from m = record { by = λ s grows good. go s grows good s.calls }
    where
      go : (s : State Value) → Grows m s.memory → IsGoodState s → (n : ℕ) → Came m Anything (take_one n s)
      go s grows good zero = tt
      go s grows good (suc n) = (record { first = good.first; memory = good.memory; globals = good.globals; locals = good.locals }, grows, tt)

  pub at_depth_from : (m : Memory Value) (d : ℕ) → From m Anything (at_depth d)
  at_depth_from m d = record { by = λ s grows good. (record { first = good.first; memory = good.memory; globals = good.globals; locals = good.locals }, grows, tt) }

  module _ (m : Memory Value) (at : Place) (asks : Scene Value → ℕ) (act : Scene Value → Performed Value)
      (leaves : (s : Scene Value) → IsGood kinds s.memory → Grows m s.memory → PerformedLeft kinds s.memory (act s)) where
    came_left : (t : State Value) → Grows m t.memory → IsGoodState t → (p : Performed Value) → PerformedLeft kinds t.memory p → Came m IsLeftThere (came at p t)
    came_left t grows good (Answers d) h = (
      record {
        first = grows_then root t.memory d.memory good.first h.grows;
        memory = h.good;
        globals = globals_grow kinds t.memory d.memory h.grows t.globals good.globals;
        locals = locals_grow kinds t.memory d.memory h.grows t.locals good.locals;
      },
      grows_then m t.memory d.memory grows h.grows,
      h.left,
    )
    came_left t grows good (rows.Undefined op) h = tt
    came_left t grows good rows.Wrong h = tt

    abbrev scene : State Value → Scene Value
    scene s = record { memory = s.memory; world = s.world }

    abbrev acts : State Value → Run Value Value
    acts s = came at (act (scene s))

    acted : (t : State Value) → Grows m t.memory → IsGoodState t → Came m IsLeftThere (acts t t)
    acted t grows good = came_left t grows good (act (scene t)) (leaves (scene t) good.memory grows)

    abbrev pays : ℕ → ℕ → Bool → Run Value (Unit {0})
    pays n left b = if b then (λ s. Goes tt (record s { cells = Some (left - n) })) else stop (Ends StoppedAtCells)

    paid : (s : State Value) → Grows m s.memory → IsGoodState s → (n : ℕ) (c : Option ℕ) → Came m IsLeftThere (and_then (pay n c s) (λ u. acts s))
    paid s grows good n None = acted s grows good
    paid s grows good n (Some left) = go (nat_le n left)
      where
        go : (b : Bool) → Came m IsLeftThere (and_then (pays n left b s) (λ u. acts s))
        go true = acted (record s { cells = Some (left - n) }) grows (record { first = good.first; memory = good.memory; globals = good.globals; locals = good.locals })
        go false = tt

    pub performing_from : From m IsLeftThere (performing at asks act)
    performing_from = record { by = λ s grows good. paid s grows good (asks (scene s)) s.cells }
