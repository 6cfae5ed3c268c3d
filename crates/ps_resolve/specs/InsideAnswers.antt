-- What the parts of the resolver answer. No public clause cites this file.
use Rattle.std.specs.Prelude.{◌≡◌, Option, Some, None, Result, Ok, Err}
use Rattle.ps_resolve.specs.declared.program.Unresolved.{Unresolved}
use Rattle.ps_resolve.specs.declared.program.Unresolved.TheVariants.{NotProgram, NoMemory}

abbrev pub IsNotProgram : Unresolved → Type 0
IsNotProgram NotProgram = Unit {0}
IsNotProgram NoMemory = ⊥

-- the data were refused, and not for want of memory
abbrev pub IsUnresolved : {A : Type 0} → Result A Unresolved → Type 0
IsUnresolved (Ok x) = ⊥
IsUnresolved (Err e) = IsNotProgram e

abbrev pub RefusesBy : {A : Type 0} → Unresolved → Option A → Type 0
RefusesBy NotProgram reading = reading ≡ None
RefusesBy NoMemory reading = Unit {0}

-- a part was read as its reading says: the same, or refused where it is nothing
abbrev pub IsReadBy : {A : Type 0} → Result A Unresolved → Option A → Type 0
IsReadBy (Ok x) reading = reading ≡ Some x
IsReadBy (Err e) reading = RefusesBy e reading

pub record IsRead {A : Type 0} (result : Result A Unresolved) (reading : Option A) : Type 0 where
  pub by : IsReadBy result reading

-- the same of what a value stands for
abbrev pub IsReadFor : {A B : Type 0} → (A → B) → Result A Unresolved → Option B → Type 0
IsReadFor f (Ok x) reading = reading ≡ Some (f x)
IsReadFor f (Err e) reading = RefusesBy e reading

pub record IsReadAs {A B : Type 0} (f : A → B) (result : Result A Unresolved) (reading : Option B) : Type 0 where
  pub by : IsReadFor f result reading
