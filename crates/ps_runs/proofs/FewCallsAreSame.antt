-- Parts of a run that do the same wherever few enough procedures may still be entered.
-- For: the laws that a bound on nesting is never met before the calls that are left
use Rattle.std.proofs.Common.{◌≡◌, ℕ, zero, suc, ◌<◌, ◌≤◌, List, Option, Some, None, refl, ap, ◌∙◌, arith}
use Rattle.std.specs.Prelude.{Bool, true, false, nat_le, ◌-◌, if◌then◌else◌}
use Rattle.ps_base.specs.declared.faults.Place.{Place}
use Rattle.byte_store.specs.Outcome.{Undefined, Wrong, StoppedAtCells}
use Rattle.ps_prims.specs.Rows.{Done, Scene, Performed, Answers}
use Rattle.ps_prims.specs.Rows as rows
use Rattle.ps_runs.specs.Runs.{Env, State, Halt, Ends, Step, Goes, Stops, Run, and_then, ◌>>=◌, pure, stop}
use Rattle.ps_runs.specs.Locals.{get_locals, put_locals}
use Rattle.ps_runs.specs.Effects.{take_one, take_call, at_depth, get_globals, put_globals, pay, take_cells, get_scene, leave, came, performing}
use Rattle.ps_runs.proofs.WordsKeep.{Keeps, KeepsLocals}

module _ {V : Type 0} where
  -- where a part goes on, fewer than k procedures may still be entered
  abbrev Leaves : {A : Type 0} → ℕ → Step V A → Type 0
  Leaves k (Goes a s) = s.calls < k
  Leaves k (Stops h s) = Unit {0}

  -- the two do the same where fewer than j procedures may still be entered, and fewer than k may be after them
  pub record Same (j k : ℕ) (A : Type 0) (p q : Run V A) : Type 0 where
    pub is : (s : State V) → s.calls < j → p s ≡ q s
    pub leaves : (s : State V) → s.calls < j → Leaves k (q s)

  pure_same : {A : Type 0} (k : ℕ) (a : A) → Same k k A (pure a) (pure a)
  pure_same k a = record { is = λ s h. refl; leaves = λ s h. h }

  stop_same : {A : Type 0} (k : ℕ) (h : Halt) → Same k k A (stop h) (stop h)
  stop_same k h = record { is = λ s few. refl; leaves = λ s few. tt }

  pub at_depth_same : (k n : ℕ) → Same k k (Unit {0}) (at_depth n) (at_depth n)
  at_depth_same k n = record { is = λ s h. refl; leaves = λ s h. h }

  gets_same : (k : ℕ) → Same k k (List (Option V)) get_globals get_globals
  gets_same k = record { is = λ s h. refl; leaves = λ s h. h }

  puts_same : (k : ℕ) (globals : List (Option V)) → Same k k (Unit {0}) (put_globals globals) (put_globals globals)
  puts_same k globals = record { is = λ s h. refl; leaves = λ s h. h }

  take_one_leaves : (k n : ℕ) (s : State V) → n < suc k → Leaves k (take_one n s)
  take_one_leaves k zero s h = tt
  take_one_leaves k (suc n) s h = omega arith

  -- one procedure fewer may be entered after one was
  pub take_call_same : (k : ℕ) → Same (suc k) k (Unit {0}) take_call take_call
  take_call_same k = record { is = λ s h. refl; leaves = λ s h. take_one_leaves k s.calls s h }

  module _ {A B : Type 0} (j k : ℕ) (f g : A → Run V B) (h : (a : A) → Same j k B (f a) (g a)) where
    then_is : (r : Step V A) → Leaves j r → and_then r f ≡ and_then r g
    then_is (Goes a s) l = (h a).is s l
    then_is (Stops e s) l = refl

    then_leaves : (r : Step V A) → Leaves j r → Leaves k (and_then r g)
    then_leaves (Goes a s) l = (h a).leaves s l
    then_leaves (Stops e s) l = tt

  pub then_same : {A B : Type 0} (i j k : ℕ) {p q : Run V A} {f g : A → Run V B} → Same i j A p q → ((a : A) → Same j k B (f a) (g a)) → Same i k B (p >>= f) (q >>= g)
  then_same i j k {p} {q} {f} {g} l h = record {
    is = λ s few. ap (λ r. and_then r f) (l.is s few) ∙ then_is j k f g h (q s) (l.leaves s few);
    leaves = λ s few. then_leaves j k f g h (q s) (l.leaves s few);
  }

  fewer : {A : Type 0} (j k : ℕ) → j ≤ k → (r : Step V A) → Leaves j r → Leaves k r
  fewer j k le (Goes a s) l = omega arith
  fewer j k le (Stops e s) l = tt

  pub looser : {A : Type 0} (i j k : ℕ) {p q : Run V A} → j ≤ k → Same i j A p q → Same i k A p q
  looser i j k {p} {q} le l = record { is = l.is; leaves = λ s few. fewer j k le (q s) (l.leaves s few) }

  pays_leave : (k n : ℕ) (left : Option ℕ) (s : State V) → s.calls < k → Leaves k (pay n left s)
  pays_leave k n None s h = h
  pays_leave k n (Some left) s h = one (nat_le n left)
    where
      one : (b : Bool) → Leaves k ((if b then (λ s. Goes tt (record s { cells = Some (left - n) })) else stop {A = Unit {0}} (Ends StoppedAtCells)) s)
      one true = h
      one false = tt

  cells_same : (k n : ℕ) → Same k k (Unit {0}) (take_cells n) (take_cells n)
  cells_same k n = record { is = λ s few. refl; leaves = λ s few. pays_leave k n s.cells s few }

  scene_same : (k : ℕ) → Same k k (Scene V) get_scene get_scene
  scene_same k = record { is = λ s few. refl; leaves = λ s few. few }

  came_same : (k : ℕ) (at : Place) (r : Performed V) → Same k k V (came at r) (came at r)
  came_same k at (Answers e) = record { is = λ s few. refl; leaves = λ s few. few }
  came_same k at (rows.Undefined op) = stop_same k (Ends (Undefined op at))
  came_same k at rows.Wrong = stop_same k (Ends (Wrong at))

  performs_same : (k : ℕ) (at : Place) (asks : Scene V → ℕ) (act : Scene V → Performed V) → Same k k V (performing at asks act) (performing at asks act)
  performs_same k at asks act = then_same k k k (scene_same k) (λ scene. then_same k k k (cells_same k (asks scene)) (λ u. came_same k at (act scene)))

  locals_same : (k : ℕ) → Same k k (Env V) get_locals get_locals
  locals_same k = record { is = λ s few. refl; leaves = λ s few. few }

  puts_locals_same : (k : ℕ) (env : Env V) → Same k k (Unit {0}) (put_locals env) (put_locals env)
  puts_locals_same k env = record { is = λ s few. refl; leaves = λ s few. few }

  pub same_keeps : (k : ℕ) → Keeps V (Same k k)
  same_keeps k = record {
    pures = λ a. pure_same k a;
    stops = λ h. stop_same k h;
    globals = gets_same k;
    puts_globals = λ globals. puts_same k globals;
    performs = λ at asks act. performs_same k at asks act;
    thens = λ l h. then_same k k k l h;
  }

  pub same_keeps_locals : (k : ℕ) → KeepsLocals V (Same k k)
  same_keeps_locals k = record { words = same_keeps k; locals = locals_same k; puts_locals = puts_locals_same k }
