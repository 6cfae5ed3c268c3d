-- What contracts see of a run's state by code.
use Rattle.std.specs.Prelude.{ℕ, ℤ, List, Option}
use Rattle.c_meaning.specs.declared.stack.Waiting.{Waiting}

-- the function that runs, its variables, the place of its next statement, and the frames that wait, the last one last
pub record Stack : Type 0 where
  pub function : ℕ
  pub locals : List (Option ℤ)
  pub next : ℕ
  pub callers : List Waiting
