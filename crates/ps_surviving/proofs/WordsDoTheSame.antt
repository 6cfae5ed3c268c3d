-- A part of a run does the same whatever the values of the definitions and the fixed blocks are that are not reached.
-- For: `survivors_run_alike`
use Rattle.std.proofs.Common.{◌≡◌, ℕ, zero, suc, List, [], ◌∷◌, ◌++◌, length, drop, Bool, true, false, Option, Some, None, refl, sym, ap, ◌∙◌, subst}
use Rattle.std.specs.Prelude.{◌-◌, nat_le, is_some, slice_get, slice_set, if◌then◌else◌}
use Rattle.ps_base.specs.declared.faults.Place.{Place}
use Rattle.byte_store.specs.Blocks.{Block}
use Rattle.byte_store.specs.Outcome.{Wrong, StoppedAtCells}
use Rattle.ps_prims.specs.Rows.{Scene, Performed, Answers}
use Rattle.ps_prims.specs.Rows as rows
use Rattle.ps_runs.specs.Runs.{Env, State, Halt, Ends, Step, Goes, Stops, Run, and_then, ◌>>=◌, pure, stop, or_wrong}
use Rattle.ps_runs.specs.Locals.{found, put_in, get_locals, put_locals, local, set_local, with_pairs, within}
use Rattle.ps_runs.specs.Effects.{take_one, take_call, at_depth, value_in, defined_in, global, set_global, pay, came, performing}
use Rattle.ps_meaning.specs.declared.values.RunValue.{RunValue}
use Rattle.ps_surviving.proofs.StoresDoTheSame.{other, Beside}
use Rattle.ps_surviving.proofs.RowsDoTheSame.{beside_scene, PerformsSame}
use Rattle.ps_surviving.proofs.ValuesStayInside.{inside, inside_laws, env_inside, option_inside, found_inside, put_inside, joined_inside, dropped_inside}

-- the same state with other values of definitions and other fixed blocks
abbrev pub aside : State RunValue → List (Option RunValue) → List (ℕ × Block RunValue) → State RunValue
aside s globals fixed = record s { globals = globals; memory = other s.memory fixed }

set_both : {A : Type 0} (xs ys : List A) (n k : ℕ) (x : A) → slice_get xs k ≡ slice_get ys k → slice_get (slice_set xs n x) k ≡ slice_get (slice_set ys n x) k
set_both [] [] n k x e = refl
set_both [] (y ∷ ys) zero zero x e = e ∙ absurd (let clash : None ≡ Some y = e in cc)
set_both [] (y ∷ ys) zero (suc k) x e = e
set_both [] (y ∷ ys) (suc n) zero x e = e
set_both [] (y ∷ ys) (suc n) (suc k) x e = set_both [] ys n k x e
set_both (y ∷ xs) [] zero zero x e = absurd (let clash : Some y ≡ None = e in cc)
set_both (y ∷ xs) [] zero (suc k) x e = e
set_both (y ∷ xs) [] (suc n) zero x e = e
set_both (y ∷ xs) [] (suc n) (suc k) x e = set_both xs [] n k x e
set_both (z ∷ xs) (y ∷ ys) zero zero x e = refl
set_both (z ∷ xs) (y ∷ ys) zero (suc k) x e = e
set_both (z ∷ xs) (y ∷ ys) (suc n) zero x e = e
set_both (z ∷ xs) (y ∷ ys) (suc n) (suc k) x e = set_both xs ys n k x e

set_one : {A : Type 0} (P : Option A → Type 0) (xs : List A) (n k : ℕ) (x : A) → P (Some x) → P (slice_get xs k) → P (slice_get (slice_set xs n x) k)
set_one P [] n k x new old = old
set_one P (y ∷ xs) zero zero x new old = new
set_one P (y ∷ xs) zero (suc k) x new old = old
set_one P (y ∷ xs) (suc n) zero x new old = old
set_one P (y ∷ xs) (suc n) (suc k) x new old = set_one P xs n k x new old

module _ (definitions blocks lambdas : ℕ → Bool) where
  abbrev pub Inside : RunValue → Type 0
  Inside v = inside blocks lambdas v ≡ true

  abbrev pub EnvInside : Env RunValue → Type 0
  EnvInside env = env_inside blocks lambdas env ≡ true

  abbrev GlobalInside : Option (Option RunValue) → Type 0
  GlobalInside o = option_inside blocks lambdas (value_in o) ≡ true

  abbrev pub Anything : {A : Type 0} → A → Type 0
  Anything a = Unit {0}

  -- Where they are reached, the others are the same, and what is reached in a state is inside.
  pub record Like (s : State RunValue) (globals : List (Option RunValue)) (fixed : List (ℕ × Block RunValue)) : Type 0 where
    pub same : (g : ℕ) → definitions g ≡ true → slice_get globals g ≡ slice_get s.globals g
    pub values : (g : ℕ) → definitions g ≡ true → GlobalInside (slice_get s.globals g)
    pub memory : Beside blocks (inside blocks lambdas) s.memory fixed
    pub locals : EnvInside s.locals

  pub record Arrives (A : Type 0) (Q : A → Type 0) (a : A) (s : State RunValue) (x : Step RunValue A) : Type 0 where
    pub globals : List (Option RunValue)
    pub fixed : List (ℕ × Block RunValue)
    pub is : x ≡ Goes a (aside s globals fixed)
    pub like : Like s globals fixed
    pub holds : Q a

  pub record Halts (A : Type 0) (h : Halt) (s : State RunValue) (x : Step RunValue A) : Type 0 where
    pub globals : List (Option RunValue)
    pub fixed : List (ℕ × Block RunValue)
    pub is : x ≡ Stops h (aside s globals fixed)

  abbrev pub Agrees : {A : Type 0} → (A → Type 0) → Step RunValue A → Step RunValue A → Type 0
  Agrees {A} Q (Goes a s) x = Arrives A Q a s x
  Agrees {A} Q (Stops h s) x = Halts A h s x

  pub record Same (A : Type 0) (Q : A → Type 0) (p : Run RunValue A) : Type 0 where
    pub same : (s : State RunValue) (globals : List (Option RunValue)) (fixed : List (ℕ × Block RunValue)) → Like s globals fixed → Agrees Q (p s) (p (aside s globals fixed))

  after_same : {A B : Type 0} (Q : A → Type 0) (R : B → Type 0) (f : A → Run RunValue B) → ((a : A) → Q a → Same B R (f a)) → (x y : Step RunValue A) → Agrees Q x y → Agrees R (and_then x f) (and_then y f)
  after_same Q R f h (Goes a s) y e = subst (λ z. Agrees R (f a s) (and_then z f)) (sym e.is) ((h a e.holds).same s e.globals e.fixed e.like)
  after_same Q R f h (Stops t s) y e = record { globals = e.globals; fixed = e.fixed; is = ap (λ z. and_then z f) e.is }

  pub then_same : {A B : Type 0} {Q : A → Type 0} {R : B → Type 0} {p : Run RunValue A} {f : A → Run RunValue B} → Same A Q p → ((a : A) → Q a → Same B R (f a)) → Same B R (p >>= f)
  then_same {Q = Q} {R = R} {p = p} {f = f} l h = record { same = λ s globals fixed b. after_same Q R f h (p s) (p (aside s globals fixed)) (l.same s globals fixed b) }

  pub pure_same : {A : Type 0} {Q : A → Type 0} (a : A) → Q a → Same A Q (pure a)
  pure_same a h = record { same = λ s globals fixed b. record { globals = globals; fixed = fixed; is = refl; like = b; holds = h } }

  pub stop_same : {A : Type 0} {Q : A → Type 0} (h : Halt) → Same A Q (stop h)
  stop_same h = record { same = λ s globals fixed b. record { globals = globals; fixed = fixed; is = refl } }

  pub wrong_same : {A : Type 0} (Q : A → Type 0) (at : Place) (o : Option A) → ((a : A) → o ≡ Some a → Q a) → Same A Q (or_wrong at o)
  wrong_same Q at None l = stop_same (Ends (Wrong at))
  wrong_same Q at (Some a) l = pure_same a (l a refl)

  -- ---- locals

  with_locals : {s : State RunValue} {globals : List (Option RunValue)} {fixed : List (ℕ × Block RunValue)} (env : Env RunValue) → EnvInside env → Like s globals fixed → Like (record s { locals = env }) globals fixed
  with_locals env h b = record { same = b.same; values = b.values; memory = b.memory; locals = h }

  pub get_locals_same : Same (Env RunValue) EnvInside get_locals
  get_locals_same = record { same = λ s globals fixed b. record { globals = globals; fixed = fixed; is = refl; like = b; holds = b.locals } }

  pub put_locals_same : (env : Env RunValue) → EnvInside env → Same (Unit {0}) Anything (put_locals env)
  put_locals_same env h = record { same = λ s globals fixed b. record { globals = globals; fixed = fixed; is = refl; like = with_locals env h b; holds = tt } }

  some_inside : (o : Option RunValue) (v : RunValue) → o ≡ Some v → option_inside blocks lambdas o ≡ true → Inside v
  some_inside o v e h = subst (λ z. option_inside blocks lambdas z ≡ true) e h

  pub local_same : (at : Place) (x : ℕ) → Same RunValue Inside (local at x)
  local_same at x = then_same get_locals_same (λ env h. wrong_same Inside at (found x env) (λ v e. some_inside (found x env) v e (found_inside blocks lambdas x env h)))

  pub set_local_same : (at : Place) (x : ℕ) (v : RunValue) → Inside v → Same (Unit {0}) Anything (set_local at x v)
  set_local_same at x v h = then_same (local_same at x) (λ w hw. then_same get_locals_same (λ env e. put_locals_same (put_in x v env) (put_inside blocks lambdas x v env h e)))

  pub pairs_same : (pairs : Env RunValue) (p : Run RunValue RunValue) → EnvInside pairs → Same RunValue Inside p → Same RunValue Inside (with_pairs pairs p)
  pairs_same pairs p h l =
      then_same get_locals_same (λ env e. then_same (put_locals_same (pairs ++ env) (joined_inside blocks lambdas pairs env h e)) (λ u hu. then_same l (λ a ha. then_same get_locals_same (λ later k. then_same (put_locals_same (drop (length pairs) later) (dropped_inside blocks lambdas (length pairs) later k)) (λ w hw. pure_same a ha)))))

  pub within_same : (env : Env RunValue) (p : Run RunValue RunValue) → EnvInside env → Same RunValue Inside p → Same RunValue Inside (within env p)
  within_same env p h l =
      then_same get_locals_same (λ before e. then_same (put_locals_same env h) (λ u hu. then_same l (λ a ha. then_same (put_locals_same before e) (λ w hw. pure_same a ha))))

  -- ---- calls

  taken : (n : ℕ) (s : State RunValue) (globals : List (Option RunValue)) (fixed : List (ℕ × Block RunValue)) → Like s globals fixed → Agrees Anything (take_one n s) (take_one n (aside s globals fixed))
  taken zero s globals fixed b = record { globals = globals; fixed = fixed; is = refl }
  taken (suc n) s globals fixed b = record { globals = globals; fixed = fixed; is = refl; like = record { same = b.same; values = b.values; memory = b.memory; locals = b.locals }; holds = tt }

  pub take_call_same : Same (Unit {0}) Anything take_call
  take_call_same = record { same = λ s globals fixed b. taken s.calls s globals fixed b }

  pub at_depth_same : (d : ℕ) → Same (Unit {0}) Anything (at_depth d)
  at_depth_same d = record { same = λ s globals fixed b. record { globals = globals; fixed = fixed; is = refl; like = record { same = b.same; values = b.values; memory = b.memory; locals = b.locals }; holds = tt } }

  -- ---- definitions

  pub global_same : (at : Place) (g : ℕ) → definitions g ≡ true → Same RunValue Inside (global at g)
  global_same at g reached = record {
    same = λ s globals fixed b.
        subst (λ o. Agrees Inside (or_wrong at (defined_in g s.globals) s) (or_wrong at o (aside s globals fixed))) (sym (ap value_in (b.same g reached)))
        ((wrong_same Inside at (defined_in g s.globals) (λ v e. some_inside (defined_in g s.globals) v e (b.values g reached))).same s globals fixed b);
  }

  pub set_global_same : (g : ℕ) (v : RunValue) → definitions g ≡ true → Inside v → Same (Unit {0}) Anything (set_global g v)
  set_global_same g v reached h = record { same = λ s globals fixed b. go s globals fixed b (is_some (defined_in g s.globals)) refl (ap (λ o. is_some (value_in o)) (b.same g reached)) }
    where
      go : (s : State RunValue) (globals : List (Option RunValue)) (fixed : List (ℕ × Block RunValue)) → Like s globals fixed → (c : Bool) → is_some (defined_in g s.globals) ≡ c → is_some (defined_in g globals) ≡ is_some (defined_in g s.globals)
          → Agrees Anything (set_global g v s) (set_global g v (aside s globals fixed))
      go s globals fixed b true is same =
          subst (λ (c : Bool). Agrees Anything (Goes tt (record s { globals = if c then slice_set s.globals g (Some v) else s.globals })) (set_global g v (aside s globals fixed))) (sym is)
          (record {
            globals = slice_set globals g (Some v);
            fixed = fixed;
            is = ap (λ (c : Bool). Goes tt (aside s (if c then slice_set globals g (Some v) else globals) fixed)) (same ∙ is);
            like = record {
              same = λ n r. set_both globals s.globals g n (Some v) (b.same n r);
              values = λ n r. set_one GlobalInside s.globals g n (Some v) h (b.values n r);
              memory = b.memory;
              locals = b.locals;
            };
            holds = tt;
          })
      go s globals fixed b false is same =
          subst (λ (c : Bool). Agrees Anything (Goes tt (record s { globals = if c then slice_set s.globals g (Some v) else s.globals })) (set_global g v (aside s globals fixed))) (sym is)
          (record {
            globals = globals;
            fixed = fixed;
            is = ap (λ (c : Bool). Goes tt (aside s (if c then slice_set globals g (Some v) else globals) fixed)) (same ∙ is);
            like = record { same = b.same; values = b.values; memory = b.memory; locals = b.locals };
            holds = tt;
          })

  -- ---- primitives

  abbrev scene_of : State RunValue → Scene RunValue
  scene_of s = record { memory = s.memory; world = s.world }

  abbrev pub beside : Scene RunValue → List (ℕ × Block RunValue) → Scene RunValue
  beside = beside_scene blocks (inside blocks lambdas) (inside_laws blocks lambdas)

  abbrev pub Performs : Performed RunValue → Performed RunValue → Type 0
  Performs = PerformsSame blocks (inside blocks lambdas) (inside_laws blocks lambdas)

  module _ (at : Place) (asks : Scene RunValue → ℕ) (act : Scene RunValue → Performed RunValue)
      (counts : (s : Scene RunValue) (fixed : List (ℕ × Block RunValue)) → asks (beside s fixed) ≡ asks s)
      (acts : (s : Scene RunValue) (fixed : List (ℕ × Block RunValue)) → Beside blocks (inside blocks lambdas) s.memory fixed → Performs (act s) (act (beside s fixed))) where
    came_same : (s : State RunValue) (globals : List (Option RunValue)) (fixed : List (ℕ × Block RunValue)) → Like s globals fixed → (x y : Performed RunValue) → Performs x y → Agrees Inside (came at x s) (came at y (aside s globals fixed))
    came_same s globals fixed b (Answers d) y h = record {
      globals = globals;
      fixed = h.fixed;
      is = ap (λ z. came at z (aside s globals fixed)) h.is;
      like = record { same = b.same; values = b.values; memory = h.beside; locals = b.locals };
      holds = h.answer;
    }
    came_same s globals fixed b (rows.Undefined op) y h = record { globals = globals; fixed = fixed; is = ap (λ z. came at z (aside s globals fixed)) h }
    came_same s globals fixed b rows.Wrong y h = record { globals = globals; fixed = fixed; is = ap (λ z. came at z (aside s globals fixed)) h }

    abbrev goes_on : State RunValue → Run RunValue RunValue
    goes_on s = came at (act (scene_of s))

    acted : (s t : State RunValue) (globals : List (Option RunValue)) (fixed : List (ℕ × Block RunValue)) → t.memory ≡ s.memory → Like t globals fixed → Like s globals fixed → Agrees Inside (goes_on s t) (came at (act (beside (scene_of s) fixed)) (aside t globals fixed))
    acted s t globals fixed e b c = came_same t globals fixed b (act (scene_of s)) (act (beside (scene_of s) fixed)) (acts (scene_of s) fixed c.memory)

    paid : (s : State RunValue) (globals : List (Option RunValue)) (fixed : List (ℕ × Block RunValue)) → Like s globals fixed → (n : ℕ) (c : Option ℕ)
        → Agrees Inside (and_then (pay n c s) (λ u. goes_on s)) (and_then (pay n c (aside s globals fixed)) (λ u. came at (act (beside (scene_of s) fixed))))
    paid s globals fixed b n None = acted s s globals fixed refl b b
    paid s globals fixed b n (Some left) = go (nat_le n left)
      where
        pays : Bool → Run RunValue (Unit {0})
        pays c = if c then (λ t. Goes tt (record t { cells = Some (left - n) })) else stop (Ends StoppedAtCells)

        go : (c : Bool) → Agrees Inside (and_then (pays c s) (λ u. goes_on s)) (and_then (pays c (aside s globals fixed)) (λ u. came at (act (beside (scene_of s) fixed))))
        go true = acted s (record s { cells = Some (left - n) }) globals fixed refl (record { same = b.same; values = b.values; memory = b.memory; locals = b.locals }) b
        go false = record { globals = globals; fixed = fixed; is = refl }

    pub performing_same : Same RunValue Inside (performing at asks act)
    performing_same = record {
      same = λ s globals fixed b.
          subst (λ n. Agrees Inside (performing at asks act s) (and_then (pay n s.cells (aside s globals fixed)) (λ u. came at (act (beside (scene_of s) fixed))))) (sym (counts (scene_of s) fixed))
          (paid s globals fixed b (asks (scene_of s)) s.cells);
    }
