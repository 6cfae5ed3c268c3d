-- Laws of the words of runs.
use Rattle.std.specs.Prelude.{◌≡◌, ℕ, ◌<◌, Option, Some}
use Rattle.ps_base.specs.declared.faults.Place.{Place}
use Rattle.byte_store.specs.Outcome.{StoppedAtCells}
use Rattle.ps_prims.specs.Rows.{Scene, Performed}
use Rattle.ps_runs.specs.Runs.{Env, State, Stops, Run, Ends, ◌>>=◌, ◌>>◌, pure, stopped}
use Rattle.ps_runs.specs.Locals.{put_locals, within}
use Rattle.ps_runs.specs.Effects.{performing}

-- What is done to the locals of a procedure at its end is not seen behind it: so a call in tail position needs nothing to
-- come back to.
abbrev pub EndsUnseen : Type 0 → Type 0 → Type 0
EndsUnseen V A = (env after : Env V) (p : Run V A) (s : State V) → within env (p >>= (λ a. put_locals after >> pure a)) s ≡ within env p s

-- A primitive that asks for more cells than are left stops the run before it takes effect.
abbrev pub CellsComeFirst : Type 0 → Type 0
CellsComeFirst V = (at : Place) (asks : Scene V → ℕ) (act : Scene V → Performed V) (s : State V) (left : ℕ) → s.cells ≡ Some left →
    left < asks (record { memory = s.memory; world = s.world }) → performing at asks act s ≡ Stops (Ends StoppedAtCells) (stopped s)
