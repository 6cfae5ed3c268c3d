-- Laws of the source's definitions.
use Rattle.std.specs.Prelude.{◌≡◌, ℕ, ℤ, ◌≤◌, List, None, ◌↔◌}
use Rattle.byte_store.specs.Agree.{KeepsWhatItHas, IsSoundRun}
use Rattle.byte_store.specs.Worlds.{Surroundings}
use Rattle.ps_base.specs.declared.faults.Place.{Place}
use Rattle.ps_datum.specs.declared.datum.Datum.{Datum}
use Rattle.ps_datum.specs.Weight.{weights}
use Rattle.ps_plain.specs.declared.program.Program.{Program}
use Rattle.ps_plain.specs.Forms.{IsProgram}
use Rattle.ps_plain.specs.Faults.{fault_of}
use Rattle.ps_plain.specs.Valid.{IsValid}
use Rattle.ps_plain.specs.Size.{program_size}
use Rattle.ps_plain.specs.Run.{State}
use Rattle.ps_plain.specs.Meaning.{entering, enters, Source}

-- A call from any place with no more calls left than the bound is entering the procedure, where calls are the same. So the
-- bound on nesting is never met before the calls that are left.
abbrev pub CallsEnterProcedures : Type 0
CallsEnterProcedures = (p : Program) (n : ℕ) (at : Place) (depth f : ℕ) (vs : List ℤ) (s : State) → s.calls ≤ n →
    enters p n at depth f vs s ≡ entering p (enters p n) at depth f vs s

abbrev pub LargerBoundKeeps : Type 0
LargerBoundKeeps = (p : Program) (w : Surroundings) → KeepsWhatItHas (Source p w)

abbrev pub ProgramIsSound : Type 0
ProgramIsSound = (p : Program) (w : Surroundings) → IsValid p → IsSoundRun (Source p w)

abbrev pub ProgramIsValid : Type 0
ProgramIsValid = (names : List (List ℕ)) (ds : List Datum) (p : Program) → IsProgram names ds p → IsValid p × (program_size p ≤ weights ds)

abbrev pub DataHaveOneProgram : Type 0
DataHaveOneProgram = (names : List (List ℕ)) (ds : List Datum) (p q : Program) → IsProgram names ds p → IsProgram names ds q → p ≡ q

-- data have no fault exactly where they are a program
abbrev pub FaultsTellPrograms : Type 0
FaultsTellPrograms = (names : List (List ℕ)) (ds : List Datum) → (fault_of names ds ≡ None) ↔ ((p : Program) × IsProgram names ds p)
