-- The words of runs about locals (R5RS 4.1.1, 4.1.4, 4.1.6 and 4.2.2 for what locals are).
--
-- A local that is bound is a pair in front of the others, and goes when what it is bound in is done. A procedure that is
-- entered has locals of its own, and those of its caller stand again behind it.
use Rattle.std.specs.Prelude.{ℕ, List, [], ◌∷◌, ◌++◌, length, drop, nat_eq, Option, Some, None, if◌then◌else◌}
use Rattle.ps_base.specs.declared.faults.Place.{Place}
use Rattle.ps_runs.specs.Runs.{Env, State, Step, Goes, Run, ◌>>=◌, ◌>>◌, pure, or_wrong}

-- the value of a local
abbrev pub found : {V : Type 0} → ℕ → Env V → Option V
found x [] = None
found x (b ∷ env) = if nat_eq x b.0 then Some b.1 else found x env

-- the same locals, where this one has this value
abbrev pub put_in : {V : Type 0} → ℕ → V → Env V → Env V
put_in x v [] = []
put_in x v (b ∷ env) = if nat_eq x b.0 then (x, v) ∷ env else b ∷ put_in x v env

-- locals, each with its value, are bound in front of others in order, so that the last stands first
abbrev pub push_all : {V : Type 0} → List ℕ → List V → Env V → Env V
push_all [] vs env = env
push_all (x ∷ xs) [] env = env
push_all (x ∷ xs) (v ∷ vs) env = push_all xs vs ((x, v) ∷ env)

module _ {V : Type 0} where
  abbrev pub get_locals : Run V (Env V)
  get_locals = λ s. Goes s.locals s

  abbrev pub put_locals : Env V → Run V (Unit {0})
  put_locals env = λ s. Goes tt (record s { locals = env })

  -- the value of a local, or Wrong at a place where it is not in scope
  abbrev pub local : Place → ℕ → Run V V
  local at x = get_locals >>= (λ env. or_wrong at (found x env))

  -- a local in scope is given a value, or Wrong
  abbrev pub set_local : Place → ℕ → V → Run V (Unit {0})
  set_local at x v = local at x >> (get_locals >>= (λ env. put_locals (put_in x v env)))

  -- what is done where locals are bound besides those in scope, which go with it
  abbrev pub with_pairs : {A : Type 0} → Env V → Run V A → Run V A
  with_pairs pairs p = do
    env ← get_locals
    put_locals (pairs ++ env)
    a ← p
    later ← get_locals
    put_locals (drop (length pairs) later)
    pure a

  -- the same of one local
  abbrev pub binding : {A : Type 0} → ℕ → V → Run V A → Run V A
  binding x v p = with_pairs ((x, v) ∷ []) p

  -- what is done where these are the locals, behind which those of before stand again
  abbrev pub within : {A : Type 0} → Env V → Run V A → Run V A
  within env p = do
    before ← get_locals
    put_locals env
    a ← p
    put_locals before
    pure a
