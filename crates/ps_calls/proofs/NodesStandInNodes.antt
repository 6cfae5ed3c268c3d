-- So many nodes one in another: the outermost, and those in it.
-- For: `nodes_down`
use Rattle.std.proofs.Common.{◌≡◌, ◌∙◌, ℕ, zero, suc, ◌-◌, ◌<◌, Err, ap, sym, arith}
use Rattle.ps_base.specs.declared.faults.Fault.{Fault}
use Rattle.ps_base.specs.declared.faults.Place.{Place}
use Rattle.ps_calls.specs.Calls.{nodes_down}
use Rattle.ps_expansion.specs.Does.{Gives}
use Rattle.ps_expansion.specs.States.{Task, State, node}
use Rattle.ps_expansion.specs.declared.expansion.Expansion.{Expansion}
use Rattle.ps_expansion.specs.declared.stop.Stop.{Stop}
use Rattle.ps_expansion.specs.declared.stop.Stop.TheVariants as stops
use Rattle.ps_hygiene.specs.Runs.{Step, Goes, Stops, and_then}
use Rattle.ps_scope.specs.Environments.{Env}

-- where the outermost is made, what counts are those in it
pub nodes_more : (task : Task) (n m left : ℕ) (at : Place) (s now : State) → n ≡ suc m
    → node task.limits left at s ≡ Goes tt now → nodes_down task n left at s ≡ nodes_down task m (left - 1) at now
nodes_more task zero m left at s now e made = absurd (omega arith)
nodes_more task (suc n) m left at s now e made =
    ap (λ (p : Step State (Unit {0})). and_then p (λ _. nodes_down task n (left - 1) at)) made
    ∙ ap (λ (k : ℕ). nodes_down task k (left - 1) at now) (let f : n ≡ m = omega arith in f)

-- where it is refused, all are
nodes_fail : (task : Task) (n left : ℕ) (at : Place) (s : State) (fault : Fault) → 0 < n
    → node task.limits left at s ≡ Stops fault → nodes_down task n left at s ≡ Stops fault
nodes_fail task zero left at s fault some refused = absurd (omega arith)
nodes_fail task (suc n) left at s fault some refused =
    ap (λ (p : Step State (Unit {0})). and_then p (λ _. nodes_down task n (left - 1) at)) refused

-- the same as an answer, where those that are left are what all of them come to
pub nodes_refused : (task : Task) (count n first left : ℕ) (at : Place) (old s : State) (e : Stop) (env env' : Env) (now now' : Expansion)
    → 0 < n → nodes_down task n left at s ≡ nodes_down task count first at old
    → Gives {A = Unit {0}} (Err e) (node task.limits left at s) env now
    → Gives {A = Unit {0}} (Err e) (nodes_down task count first at old) env' now'
nodes_refused task count n first left at old s (stops.Fault fault) env env' now now' some same refused =
    record { wanted = sym same ∙ nodes_fail task n left at s fault some refused.wanted }
nodes_refused task count n first left at old s stops.NoMemory env env' now now' some same refused = tt
