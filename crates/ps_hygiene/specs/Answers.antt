-- What is known at a place, and what calls answer of it (this project's own).
--
-- Read `Gives r want env now` as: the answer r is what want says. Where want goes on, r is its value, what is known now has its world, and
-- the environment is still env; where it stops, r is its fault. Want of memory may be answered in place of either.
use Rattle.std.specs.Prelude.{◌≡◌, ⊤, ◌∷◌, Option, Some, None, Result, Ok, Err}
use Rattle.ps_base.specs.declared.faults.Fault.{Fault}
use Rattle.ps_base.specs.declared.faults.Refusal.{Refusal}
use Rattle.ps_base.specs.declared.faults.Refusal.TheVariants as refusals
use Rattle.ps_pattern.specs.declared.binding.Binding.{Binding}
use Rattle.ps_pattern.specs.declared.syntax.Ident.{Ident}
use Rattle.ps_pattern.specs.declared.syntax.Syntax.{Syntax}
use Rattle.ps_scope.specs.Environments.{Env, entry_of, word_of}
use Rattle.ps_hygiene.specs.Runs.{Step, Goes, Stops}
use Rattle.ps_hygiene.specs.Worlds.{World}

-- the environment of the place, and what tells beside it
pub record Seen : Type 0 where
  pub here : Env
  pub world : World

abbrev pub seen_of : Env → World → Seen
seen_of env w = record { here = env; world = w }

-- an identifier is defined in the present structure
abbrev pub defines : Ident → Binding → World → World
defines x binding w = record w { own = entry_of w.structure (word_of x) binding ∷ w.own }

pub record Goes_on {A : Type 0} (a : A) (want : Step World A) (env : Env) (now : Seen) : Type 0 where
  pub wanted : want ≡ Goes a now.world
  pub same : now.here ≡ env

pub record Gave_up {A : Type 0} (fault : Fault) (want : Step World A) : Type 0 where
  pub wanted : want ≡ Stops fault

abbrev pub Gives : {A : Type 0} → Result A Refusal → Step World A → Env → Seen → Type 0
Gives (Ok a) want env now = Goes_on a want env now
Gives (Err (refusals.Fault fault)) want env now = Gave_up fault want
Gives (Err refusals.NoMemory) want env now = ⊤

-- the form as it was made, or as it was given where nothing was made
abbrev pub or_given : Syntax → Option Syntax → Syntax
or_given f (Some g) = g
or_given f None = f

abbrev pub Settles : Syntax → Result (Option Syntax) Refusal → Step World Syntax → Env → Seen → Type 0
Settles f (Ok made) want env now = Goes_on (or_given f made) want env now
Settles f (Err (refusals.Fault fault)) want env now = Gave_up fault want
Settles f (Err refusals.NoMemory) want env now = ⊤
