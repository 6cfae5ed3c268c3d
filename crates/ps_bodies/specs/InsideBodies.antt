-- Private: what the code tells of heads, values and members of groups.
use Rattle.std.specs.Prelude.{ℕ, ◌≡◌, ◌+◌, ⊤, List, ◌∷◌, map, drop, Result, Ok, Err}
use Rattle.ps_expansion.specs.declared.stop.Stop.{Stop}
use Rattle.ps_expansion.specs.declared.stop.Stop.TheVariants as stops
use Rattle.ps_derived.specs.Seen.{idents}
use Rattle.ps_pattern.specs.declared.binding.Binding.TheVariants.{Local}
use Rattle.ps_pattern.specs.declared.syntax.Ident.{Ident}
use Rattle.ps_pattern.specs.declared.syntax.Syntax.{Syntax}
use Rattle.ps_scope.specs.Environments.{Env, pair_of, word_of}
use Rattle.ps_hygiene.specs.Runs.{Step, Goes}
use Rattle.ps_bodies.specs.declared.values.Heads.{Heads}
use Rattle.ps_bodies.specs.declared.values.Member.{Member}
use Rattle.ps_bodies.specs.declared.values.Value.{Value}
use Rattle.ps_bodies.specs.declared.values.Value.TheVariants as v
use Rattle.ps_expansion.specs.declared.expansion.Expansion.{Expansion}
use Rattle.ps_bodies.specs.Bodies as b
use Rattle.ps_expansion.specs.declared.settled.Held.{Held}
use Rattle.ps_expansion.specs.Does.{Gave_up, state_of}
use Rattle.ps_expansion.specs.Settled.{held_form}
use Rattle.ps_expansion.specs.States.{State}

abbrev pub held_forms : List Held → List Syntax
held_forms fs = map held_form fs

abbrev pub seen_value : Value → b.Value
seen_value (v.Written g) = b.Written (held_form g)
seen_value (v.Performs at q) = b.Performs at q
seen_value (v.Procedure at xs fs) = b.Procedure at (idents xs) fs.now

abbrev pub seen_member : Member → b.Member
seen_member m = record { lambda = m.lambda; value = seen_value m.value }

abbrev pub seen_members : List Member → List b.Member
seen_members ms = map seen_member ms

abbrev pub headed_of : Heads → List Syntax → Env → b.Headed
headed_of h more env = record
    { env = env; definitions = held_forms h.definitions.items; locals = h.locals; first = held_form h.first; more = more }

-- the head of a body was read, and its names are bound
pub record Read_as (want : Step State b.Headed) (head : Env → b.Headed) (now : Expansion) : Type 0 where
  pub wanted : want ≡ Goes (head now.hygiene.here) (state_of now)

abbrev pub Heads_are : List Syntax → Result Heads Stop → Step State b.Headed → Expansion → Type 0
Heads_are forms (Ok h) want now = Read_as want (headed_of h (drop (h.taken + 1) forms)) now
Heads_are forms (Err (stops.Fault fault)) want now = Gave_up fault want
Heads_are forms (Err stops.NoMemory) want now = ⊤

-- a name is bound to a local
pub record Binds_local (local : ℕ) (want : Step State ℕ) (name : Ident) (env : Env) (now : Expansion) : Type 0 where
  pub wanted : want ≡ Goes local (state_of now)
  pub here : now.hygiene.here ≡ pair_of (word_of name) (Local local) ∷ env

abbrev pub Binds : Result ℕ Stop → Step State ℕ → Ident → Env → Expansion → Type 0
Binds (Ok l) want name env now = Binds_local l want name env now
Binds (Err (stops.Fault fault)) want name env now = Gave_up fault want
Binds (Err stops.NoMemory) want name env now = ⊤

-- a definition was met, and its name is bound to a local
pub record Names_local (local : ℕ) (want : Step State (Ident × ℕ)) (env : Env) (now : Expansion) : Type 0 where
  pub name : Ident
  pub wanted : want ≡ Goes (name, local) (state_of now)
  pub here : now.hygiene.here ≡ pair_of (word_of name) (Local local) ∷ env

abbrev pub Names : Result ℕ Stop → Step State (Ident × ℕ) → Env → Expansion → Type 0
Names (Ok l) want env now = Names_local l want env now
Names (Err (stops.Fault fault)) want env now = Gave_up fault want
Names (Err stops.NoMemory) want env now = ⊤
