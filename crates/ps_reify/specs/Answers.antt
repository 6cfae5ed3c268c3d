-- What `reify` answers (this project's own).
--
-- Read `Answers p r` as: r is the survivors of program p; or it is the fault at which the walk from `main` ends, with its place; or
-- memory ran out, which is tied to no cause.
use Rattle.std.specs.Prelude.{List, Option, Result, Ok, Err}
use Rattle.ps_base.specs.declared.faults.Fault.{Fault}
use Rattle.ps_base.specs.declared.faults.Fault.TheVariants as faults
use Rattle.ps_base.specs.declared.faults.Refusal.{Refusal}
use Rattle.ps_base.specs.declared.faults.Refusal.TheVariants as refusals
use Rattle.byte_store.specs.declared.pointer.Value.{Value}
use Rattle.byte_store.specs.Blocks.{Memory}
use Rattle.ps_kernel.specs.declared.kernel.Kernel.{Kernel}
use Rattle.ps_kernel.specs.declared.survivors.Survivors.{Survivors}
use Rattle.ps_meaning.specs.Source.{Program}
use Rattle.ps_survive.specs.Walk.{Fails, Survives}
use Rattle.ps_survive.specs.Kept.{IsSurvivors}

abbrev pub program : Kernel → List (Option Value) → Memory Value → Program
program k globals memory = record { kernel = k; globals = globals; memory = memory }

abbrev pub RefusesFault : Program → Fault → Type 0
RefusesFault p (faults.Survives kind at) = Survives p (Fails (record { kind = kind; at = at }))
RefusesFault p fault = ⊥

abbrev pub Answers : Program → Result Survivors Refusal → Type 0
Answers p (Ok s) = IsSurvivors p s
Answers p (Err (refusals.Fault fault)) = RefusesFault p fault
Answers p (Err refusals.NoMemory) = Unit {0}
