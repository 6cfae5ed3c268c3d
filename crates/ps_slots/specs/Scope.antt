-- Which locals the cells of frames have in scope (R5RS 3.1 and 4.2.2 for scopes; the cells are this project's own).
--
-- Read `scope cs` as: the values of the locals in scope on top of the cells cs, from below to above. A local that has a slot is
-- in scope above it, in front of the others, and where a frame begins none is.
use Rattle.std.specs.Prelude.{◌≡◌, ℕ, nat_eq, Bool, true, false, List, [], ◌∷◌, ◌++◌, None}
use Rattle.byte_store.specs.declared.pointer.Value.{Value}
use Rattle.ps_runs.specs.Runs.{Env}
use Rattle.ps_runs.specs.Locals.{found}
use Rattle.ps_slots.specs.declared.cell.Cell.{Cell}
use Rattle.ps_slots.specs.declared.cell.Cell.TheVariants.{Entered, Local, Waits}

module _ {J : Type 0} where
  abbrev pub scope_on : Env Value → List (Cell J) → Env Value
  scope_on env [] = env
  scope_on env (Entered ∷ cs) = scope_on [] cs
  scope_on env (Local x v ∷ cs) = scope_on ((x, v) ∷ env) cs
  scope_on env (Waits j ∷ cs) = scope_on env cs

  abbrev pub scope : List (Cell J) → Env Value
  scope cs = scope_on [] cs

  -- no slot of the local stands there, and no frame begins
  abbrev pub IsClear : ℕ → List (Cell J) → Type 0
  IsClear x [] = Unit {0}
  IsClear x (Entered ∷ cs) = ⊥
  IsClear x (Local y v ∷ cs) = (nat_eq x y ≡ false) × IsClear x cs
  IsClear x (Waits j ∷ cs) = IsClear x cs

  -- the local's topmost slot, which is in scope, has another value
  pub record Puts (x : ℕ) (v : Value) (old new : List (Cell J)) : Type 0 where
    pub below : List (Cell J)
    pub before : Value
    pub above : List (Cell J)
    pub clear : IsClear x above
    pub was : old ≡ below ++ Local x before ∷ above
    pub is : new ≡ below ++ Local x v ∷ above

  -- the same where the local is in scope; else nothing changes
  abbrev pub PutsIf : ℕ → Value → Bool → List (Cell J) → List (Cell J) → Type 0
  PutsIf x v true old new = Puts x v old new
  PutsIf x v false old new = (found x (scope old) ≡ None) × (new ≡ old)
