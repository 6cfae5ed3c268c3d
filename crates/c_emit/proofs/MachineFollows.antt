-- What it means that the machine follows a part of the source, and how parts are put together.
-- For: build
use Rattle.std.proofs.Common.{◌≡◌, ◌≢◌, ℕ, ℤ, suc, ◌+◌, ◌<◌, ◌≤◌, List, length, Some, None, refl, sym, ap, ◌∙◌, subst, arith, get_or}
use Rattle.std.proofs.lemmas.List.{get_or-set_other, length-set}
use Rattle.std.specs.Prelude.{slice_set}
use Rattle.ps_base.specs.declared.faults.Op.{Op}
use Rattle.ps_base.specs.declared.faults.Place.{Place}
use Rattle.byte_store.specs.Outcome.{Outcome, End, Running, Undefined, Stuck}
use Rattle.byte_store.specs.Laws.{Matches}
use Rattle.byte_store.specs.Machine.{Move, Goes as Moves, Ends as Halts, greater, outcome_at, after_move, run_from}
use Rattle.byte_store.proofs.GreaterIsLeast.{greater_le}
use Rattle.ps_plain.specs.Run as source
use Rattle.ps_plain.specs.Run.{Step, Goes, Stops, and_then}
use Rattle.c_ast.specs.declared.unit.Atom.{Atom}
use Rattle.c_ast.specs.declared.unit.Atom.TheVariants as atoms
use Rattle.c_ast.specs.declared.unit.Statement.{Statement}
use Rattle.c_ast.specs.declared.unit.CUnit.{CUnit}
use Rattle.c_meaning.specs.Machine.{Locals, State, atom_value, machine}

-- the variables below k are the same
pub record Same (k : ℕ) (ls ls' : Locals) : Type 0 where
  pub at : (i : ℕ) → i < k → get_or ls' i None ≡ get_or ls i None

-- the machine has the world and the events of the source, and no more frames wait than the source was deep
pub record Meets (t : State) (τ : source.State) : Type 0 where
  pub world : t.world ≡ τ.world
  pub events : t.events ≡ τ.events
  pub low : length t.callers ≤ τ.deepest

-- the frame is the same, and has the same variables below k
pub record Keeps (k : ℕ) (s t : State) : Type 0 where
  pub function : t.function ≡ s.function
  pub callers : t.callers ≡ s.callers
  pub size : length t.locals ≡ length s.locals
  pub same : Same k s.locals t.locals

pub keeps-self : (k : ℕ) (s : State) → Keeps k s s
keeps-self k s = record { function = refl; callers = refl; size = refl; same = record { at = λ i lt. refl } }

pub keeps-then : (k k' : ℕ) (s t u : State) → k ≤ k' → Keeps k s t → Keeps k' t u → Keeps k s u
keeps-then k k' s t u le a b = record {
  function = b.function ∙ a.function;
  callers = b.callers ∙ a.callers;
  size = b.size ∙ a.size;
  same = record { at = λ i lt. b.same.at i (omega arith) ∙ a.same.at i lt };
}

-- a variable from k on is assigned, and the frame goes on elsewhere
pub keeps-assigned : (k n : ℕ) (s : State) (v : ℤ) (left : List Statement) → k ≤ n → Keeps k s (record s { locals = slice_set s.locals n (Some v); left = left })
keeps-assigned k n s v left le = record {
  function = refl;
  callers = refl;
  size = length-set s.locals n (Some v);
  same = record { at = λ i lt. (let other : i ≢ n = omega arith in get_or-set_other s.locals n i (Some v) None other) };
}

-- the atom is no variable from k on
abbrev pub Below : ℕ → Atom → Type 0
Below k (atoms.Variable n) = n < k
Below k (atoms.Integer i) = Unit {0}

-- an atom stands for the same where its variable is the same
pub atom-same : (k : ℕ) (ls ls' : Locals) (x : Atom) → Below k x → Same k ls ls' → atom_value ls' x ≡ atom_value ls x
atom-same k ls ls' (atoms.Variable n) lt same = same.at n lt
atom-same k ls ls' (atoms.Integer i) w same = refl

module _ (u : CUnit) where
  -- The machine comes from s to t while the source comes from σ to τ: each call of the source takes a step, and no more
  -- frames are there than the source was deep, plus one.
  pub record Leads (s : State) (σ : source.State) (t : State) (τ : source.State) : Type 0 where
    pub number : ℕ
    pub deeper : σ.deepest ≤ τ.deepest
    pub fewer : τ.calls ≤ σ.calls
    pub paid : σ.calls ≤ τ.calls + number
    pub by : (depth : ℕ) → depth ≤ σ.deepest + 1 → (depth' : ℕ) × (depth' ≤ τ.deepest + 1) × ((k : ℕ) → run_from (machine u) (number + k) depth s ≡ run_from (machine u) k depth' t)

  abbrev pub ended : End → source.State → Outcome
  ended e τ = record { events = τ.events; depth = τ.deepest; end = e }

  -- The machine from s has an outcome that stands for the end of the source, where the source was in σ when the machine was
  -- in s, and ends in τ.
  pub record Halted (s : State) (σ : source.State) (e : End) (τ : source.State) : Type 0 where
    pub number : ℕ
    pub paid : e ≡ Running → σ.calls ≤ number
    pub by : (depth : ℕ) → depth ≤ σ.deepest + 1 → ((run_from (machine u) number depth s).depth ≤ τ.deepest + 1) × Matches (ended e τ) (run_from (machine u) number depth s)

  -- the machine comes to where it is to be
  pub record Comes {A : Type 0} (s : State) (σ : source.State) (T : A → source.State → State → Type 0) (a : A) (τ : source.State) : Type 0 where
    pub after : State
    pub leads : Leads s σ after τ
    pub there : T a τ after

  abbrev pub DoesBy : {A : Type 0} → State → source.State → (A → source.State → State → Type 0) → Step A → Type 0
  DoesBy s σ T (Goes a τ) = Comes s σ T a τ
  DoesBy s σ T (Stops e τ) = Halted s σ e τ

  -- from s, the machine does what a part of the source does from σ: it comes to T, or to the same end
  pub record Does {A : Type 0} (s : State) (σ : source.State) (T : A → source.State → State → Type 0) (r : Step A) : Type 0 where
    pub by : DoesBy s σ T r

  -- ---- steps

  pub step-run : (s t : State) (depth k : ℕ) → (machine u).step s ≡ Moves t → run_from (machine u) (suc k) depth s ≡ run_from (machine u) k (greater depth ((machine u).frames s)) t
  step-run s t depth k e = ap (λ (v : Move State). after_move (machine u) v s (greater depth ((machine u).frames s)) (λ d x. run_from (machine u) k d x)) e

  -- no step
  pub leads-none : (s : State) (σ : source.State) → Leads s σ s σ
  leads-none s σ = record {
    number = 0;
    deeper = omega arith;
    fewer = omega arith;
    paid = omega arith;
    by = λ depth low. (depth, low, λ k. let z : 0 + k ≡ k = omega arith in ap (λ (n : ℕ). run_from (machine u) n depth s) z);
  }

  -- one step, for which one call at most is paid
  pub leads-step : (s t : State) (σ τ : source.State) → (machine u).step s ≡ Moves t → length s.callers ≤ σ.deepest → σ.deepest ≤ τ.deepest → τ.calls ≤ σ.calls → σ.calls ≤ τ.calls + 1 → Leads s σ t τ
  leads-step s t σ τ e low deep few pay = record {
    number = 1;
    deeper = deep;
    fewer = few;
    paid = pay;
    by = λ depth le.
        let frames = greater_le depth ((machine u).frames s) (σ.deepest + 1) le (omega arith) in
        (greater depth ((machine u).frames s), omega (arith, frames), λ k. let z : 1 + k ≡ suc k = omega arith in ap (λ (n : ℕ). run_from (machine u) n depth s) z ∙ step-run s t depth k e);
  }

  -- a step that the source does not see
  pub leads-silent : (s t : State) (σ : source.State) → (machine u).step s ≡ Moves t → length s.callers ≤ σ.deepest → Leads s σ t σ
  leads-silent s t σ e low = leads-step s t σ σ e low (omega arith) (omega arith) (omega arith)

  pub leads-then : (s t v : State) (σ τ υ : source.State) → Leads s σ t τ → Leads t τ v υ → Leads s σ v υ
  leads-then s t v σ τ υ a b = record {
    number = a.number + b.number;
    deeper = omega (arith, a.deeper, b.deeper);
    fewer = omega (arith, a.fewer, b.fewer);
    paid = omega (arith, a.paid, b.paid);
    by = λ depth low.
        let x = a.by depth low in
        let y = b.by x.0 x.1 in
        (y.0, y.1, λ k. let z : a.number + b.number + k ≡ a.number + (b.number + k) = omega arith in ap (λ (n : ℕ). run_from (machine u) n depth s) z ∙ x.2 (b.number + k) ∙ y.2 k);
  }

  -- ---- parts

  module _ {A : Type 0} (T : A → source.State → State → Type 0) where
    -- it is there already
    pub does-done : (s : State) (σ : source.State) (a : A) → T a σ s → Does s σ T (Goes a σ)
    does-done s σ a h = record { by = record { after = s; leads = leads-none s σ; there = h } }

    pub does-comes : (s t : State) (σ τ : source.State) (a : A) → Leads s σ t τ → T a τ t → Does s σ T (Goes a τ)
    does-comes s t σ τ a l h = record { by = record { after = t; leads = l; there = h } }

    halted-after : (s t : State) (σ τ : source.State) (e : End) (υ : source.State) → Leads s σ t τ → Halted t τ e υ → Halted s σ e υ
    halted-after s t σ τ e υ l h = record {
      number = l.number + h.number;
      paid = λ run. (let p = h.paid run in omega (arith, l.paid, p));
      by = λ depth low.
          let x = l.by depth low in
          let y = h.by x.0 x.1 in
          let same = x.2 h.number in
          (subst (λ (o : Outcome). o.depth ≤ υ.deepest + 1) (sym same) y.0, subst (λ (o : Outcome). Matches (ended e υ) o) (sym same) y.1);
    }

    -- steps first, and then what is done from there
    after-by : (s t : State) (σ τ : source.State) (r : Step A) → Leads s σ t τ → DoesBy t τ T r → DoesBy s σ T r
    after-by s t σ τ (Goes a υ) l h = record { after = h.after; leads = leads-then s t h.after σ τ υ l h.leads; there = h.there }
    after-by s t σ τ (Stops e υ) l h = halted-after s t σ τ e υ l h

    pub does-after : (s t : State) (σ τ : source.State) (r : Step A) → Leads s σ t τ → Does t τ T r → Does s σ T r
    does-after s t σ τ r l h = record { by = after-by s t σ τ r l h.by }

    -- the machine is stuck where the source is undefined
    pub does-stuck : (s : State) (σ : source.State) (op op' : Op) (place : Place) → (machine u).step s ≡ Halts (Stuck op) → Meets s σ → Does s σ T (Stops (Undefined op' place) σ)
    does-stuck s σ op op' place stops meets =
        let last : (depth : ℕ) → run_from (machine u) 1 depth s ≡ outcome_at (machine u) s (greater depth ((machine u).frames s)) (Stuck op) = λ depth. ap (λ (v : Move State). after_move (machine u) v s (greater depth ((machine u).frames s)) (λ x q. run_from (machine u) 0 x q)) stops in
        let low = meets.low in
        record {
          by = record {
            number = 1;
            paid = λ run. absurd (let clash : Undefined op' place ≡ Running = run in cc);
            by = λ depth le. (
              subst (λ (o : Outcome). o.depth ≤ σ.deepest + 1) (sym (last depth)) (greater_le depth ((machine u).frames s) (σ.deepest + 1) le (omega arith)),
              subst (λ (o : Outcome). Matches (ended (Undefined op' place) σ) o) (sym (last depth)) (record { did = meets.events; ends = tt }),
            );
          };
        }

    -- where no call is left, the source is still running, and so is the machine
    pub does-running : (s : State) (σ : source.State) → σ.calls ≡ 0 → Meets s σ → Does s σ T (Stops Running σ)
    does-running s σ none meets =
        let low = meets.low in
        record { by = record { number = 0; paid = λ run. omega arith; by = λ depth le. (greater_le depth ((machine u).frames s) (σ.deepest + 1) le (omega arith), record { did = meets.events; ends = refl }) } }

  module _ {A B : Type 0} (T : A → source.State → State → Type 0) (T2 : B → source.State → State → Type 0) where
    bind-by : (s : State) (σ : source.State) (r : Step A) (f : A → source.Run B) → DoesBy s σ T r → ((a : A) (τ : source.State) (t : State) → Leads s σ t τ → T a τ t → Does t τ T2 (f a τ)) → DoesBy s σ T2 (and_then r f)
    bind-by s σ (Goes a τ) f h on = after-by T2 s h.after σ τ (f a τ) h.leads (on a τ h.after h.leads h.there).by
    bind-by s σ (Stops e τ) f h on = h

    -- one part and then another
    pub does-bind : (s : State) (σ : source.State) (r : Step A) (f : A → source.Run B) → Does s σ T r → ((a : A) (τ : source.State) (t : State) → Leads s σ t τ → T a τ t → Does t τ T2 (f a τ)) → Does s σ T2 (and_then r f)
    does-bind s σ r f h on = record { by = bind-by s σ r f h.by on }

  module _ {A : Type 0} (T T2 : A → source.State → State → Type 0) where
    then-by : (s : State) (σ : source.State) (r : Step A) → DoesBy s σ T r → ((a : A) (τ : source.State) (t : State) → Leads s σ t τ → T a τ t → Comes t τ T2 a τ) → DoesBy s σ T2 r
    then-by s σ (Goes a τ) h on = let c = on a τ h.after h.leads h.there in record { after = c.after; leads = leads-then s h.after c.after σ τ τ h.leads c.leads; there = c.there }
    then-by s σ (Stops e τ) h on = h

    -- a part, and then steps that the source does not see
    pub does-then : (s : State) (σ : source.State) (r : Step A) → Does s σ T r → ((a : A) (τ : source.State) (t : State) → Leads s σ t τ → T a τ t → Comes t τ T2 a τ) → Does s σ T2 r
    does-then s σ r h on = record { by = then-by s σ r h.by on }
