-- What the code answers (this project's own). Read `Gives r want env now` as: the answer r is what want says. Where want goes on, r is its
-- value, and the expansion now has its state, in the environment env; where it stops, r is its fault. Want of memory may be answered in
-- place of either.
use Rattle.std.specs.Prelude.{◌≡◌, ⊤, Result, Ok, Err}
use Rattle.ps_base.specs.declared.faults.Fault.{Fault}
use Rattle.ps_base.specs.declared.faults.Fault.TheVariants as faults
use Rattle.ps_base.specs.declared.faults.FormKind.{FormKind}
use Rattle.ps_base.specs.declared.faults.Place.{Place}
use Rattle.ps_base.specs.declared.faults.Refusal.{Refusal}
use Rattle.ps_base.specs.declared.faults.Refusal.TheVariants as refusals
use Rattle.ps_scope.specs.Environments.{Env}
use Rattle.ps_hygiene.specs.Runs.{Step, Goes, Stops, Run}
use Rattle.ps_expansion.specs.declared.expansion.Expansion.{Expansion}
use Rattle.ps_expansion.specs.declared.stop.Stop.{Stop}
use Rattle.ps_expansion.specs.declared.stop.Stop.TheVariants as stops
use Rattle.ps_expansion.specs.declared.task.Task.{Task}
use Rattle.ps_expansion.specs.States as states
use Rattle.ps_expansion.specs.States.{State}

abbrev pub task_of : Task → states.Task
task_of x = record { names = x.names.now; order = x.linked.now.structures; limits = x.limits.now }

abbrev pub state_of : Expansion → State
state_of x = record { world = x.hygiene.world; types = x.types; nodes = x.nodes; locals = x.locals; lambdas = x.lambdas; literals = x.literals; kinds = x.kinds; definitions = x.definitions }

abbrev pub stop_of : Refusal → Stop
stop_of (refusals.Fault fault) = stops.Fault fault
stop_of refusals.NoMemory = stops.NoMemory

abbrev pub refusal_of : Stop → Refusal
refusal_of (stops.Fault fault) = refusals.Fault fault
refusal_of stops.NoMemory = refusals.NoMemory

abbrev pub form_stop : FormKind → Place → Stop
form_stop kind at = stops.Fault (faults.Form kind at)

pub record Goes_on {A : Type 0} (a : A) (want : Step State A) (env : Env) (now : Expansion) : Type 0 where
  pub wanted : want ≡ Goes a (state_of now)
  pub same : now.hygiene.here ≡ env

pub record Gave_up {A : Type 0} (fault : Fault) (want : Step State A) : Type 0 where
  pub wanted : want ≡ Stops fault

abbrev pub Gives : {A : Type 0} → Result A Stop → Step State A → Env → Expansion → Type 0
Gives (Ok a) want env now = Goes_on a want env now
Gives (Err (stops.Fault fault)) want env now = Gave_up fault want
Gives (Err stops.NoMemory) want env now = ⊤

-- the same, where the answer is told in other words
abbrev pub Gives_by : {A B : Type 0} → (A → B) → Result A Stop → Step State B → Env → Expansion → Type 0
Gives_by see (Ok a) want env now = Goes_on (see a) want env now
Gives_by see (Err (stops.Fault fault)) want env now = Gave_up fault want
Gives_by see (Err stops.NoMemory) want env now = ⊤

-- the same of a run that begins here
abbrev pub Does : {A : Type 0} → Result A Stop → Run State A → Expansion → Expansion → Type 0
Does r run old now = Gives r (run (state_of old)) old.hygiene.here now

abbrev pub Does_by : {A B : Type 0} → (A → B) → Result A Stop → Run State B → Expansion → Expansion → Type 0
Does_by see r run old now = Gives_by see r (run (state_of old)) old.hygiene.here now
