-- What tells the meaning of identifiers (this project's own), beside the environment of locals and macros around a place.
use Rattle.std.specs.Prelude.{ℕ, List, [], ◌∷◌, ◌++◌, length, Option, Some, None, slice_get, slice_index, ◌-◌}
use Rattle.ps_pattern.specs.declared.transcription.Rule.{Rule}
use Rattle.ps_scope.specs.Environments.{Env, Entry, kept_at}
use Rattle.ps_hygiene.specs.Runs.{Run, Goes}

pub record World : Type 0 where
  -- the structure whose forms are expanded, by its place in the order of evaluation
  pub structure : ℕ
  -- the definitions of all structures, and the names that they open, each with its structure, the newest first
  pub own : List Entry
  pub opened : List Entry
  -- of each macro, by its number: its rules, and where these stand: the structure, and the environment in it
  pub rules : List (List Rule)
  pub structures : List ℕ
  pub homes : List Env
  -- of each transcription, in order: the macro that was used
  pub uses : List ℕ
  -- how many nodes may still be transcribed
  pub room : ℕ

-- at the outset
abbrev pub outset : ℕ → World
outset room = record { structure = 0; own = []; opened = []; rules = []; structures = []; homes = []; uses = []; room = room }

abbrev pub or_no_rules : Option (List Rule) → List Rule
or_no_rules (Some rules) = rules
or_no_rules None = []

abbrev pub rules_at : World → ℕ → List Rule
rules_at w m = or_no_rules (slice_get w.rules m)

-- where the rules of a macro stand: the environment, and the structure
abbrev pub home_of : World → ℕ → Env
home_of w m = kept_at w.homes m

abbrev pub structure_of : World → ℕ → ℕ
structure_of w m = slice_index w.structures m

-- the macro of a transcription, of which the first has stamp 1
abbrev pub macro_of : World → ℕ → ℕ
macro_of w stamp = slice_index w.uses (stamp - 1)

-- a macro, whose rules stand in this environment of the present structure: its number
abbrev pub next_macro : List Rule → Env → Run World ℕ
next_macro rules env = λ w. Goes (length w.rules) (record w { rules = w.rules ++ rules ∷ []; structures = w.structures ++ w.structure ∷ []; homes = w.homes ++ env ∷ [] })
