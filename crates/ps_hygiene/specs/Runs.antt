-- Parts of an expansion (this project's own): each goes on from a state with a value, or stops at the first fault. Read `p >>= f` as:
-- p, and then f of its value.
use Rattle.std.specs.Prelude.{Option, Some, None}
use Rattle.ps_base.specs.declared.faults.Fault.{Fault}
use Rattle.ps_base.specs.declared.faults.Fault.TheVariants as faults
use Rattle.ps_base.specs.declared.faults.FormKind.{FormKind}
use Rattle.ps_base.specs.declared.faults.Place.{Place}

pub data Step (S A : Type 0) : Type 0 where
  Goes : (value : A) (state : S) → Step S A
  Stops : (fault : Fault) → Step S A

abbrev pub Run : Type 0 → Type 0 → Type 0
Run S A = S → Step S A

abbrev pub and_then : {S A B : Type 0} → Step S A → (A → Run S B) → Step S B
and_then (Goes a s) f = f a s
and_then (Stops fault) f = Stops fault

infixl 10 ◌>>=◌
abbrev pub ◌>>=◌ : {S A B : Type 0} → Run S A → (A → Run S B) → Run S B
p >>= f = λ s. and_then (p s) f

infixl 10 ◌>>◌
abbrev pub ◌>>◌ : {S A B : Type 0} → Run S A → Run S B → Run S B
p >> q = p >>= (λ _. q)

abbrev pub pure : {S A : Type 0} → A → Run S A
pure a = λ s. Goes a s

abbrev pub stop : {S A : Type 0} → FormKind → Place → Run S A
stop kind at = λ s. Stops (faults.Form kind at)

-- what there is, or the fault
abbrev pub known : {S A : Type 0} → FormKind → Place → Option A → Run S A
known kind at (Some a) = pure a
known kind at None = stop kind at
