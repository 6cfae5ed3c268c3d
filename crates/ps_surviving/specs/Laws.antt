-- The laws of the runs of survivors.
use Rattle.std.specs.Prelude.{◌≡◌, ℕ, List, length, Option}
use Rattle.byte_store.specs.declared.pointer.Value.{Value}
use Rattle.byte_store.specs.Blocks.{Memory}
use Rattle.byte_store.specs.Worlds.{Surroundings}
use Rattle.ps_kernel.specs.declared.kernel.Kernel.{Kernel}
use Rattle.ps_kernel.specs.declared.survivors.Survivors.{Survivors}
use Rattle.ps_kernel.specs.Valid.{IsValid}
use Rattle.ps_kernel.specs.Captured.{HasCaptured}
use Rattle.ps_meaning.specs.Left.{IsLeft}
use Rattle.ps_meaning.specs.Source.{Program, Source, Traced, Top, Finished}
use Rattle.ps_survive.specs.Kept.{IsSurvivors}
use Rattle.ps_surviving.specs.Begun.{Surviving, SurvivingTraced}

-- A program such as the forms of a kernel leave: the kernel keeps the rules, there is an entry for each of its definitions, and
-- all that is left can be kept.
pub record IsLeftProgram (p : Program) : Type 0 where
  pub valid : IsValid p.kernel
  pub captured : HasCaptured p.kernel
  pub entries : length p.globals ≡ length p.kernel.definitions
  pub left : IsLeft p.kernel.kinds p.globals p.memory

-- in every world and for every bound the run of the survivors has the events, the end and the depth of the program's run, and
-- with a limit on cells those of the program with that limit
pub record RunsAlike (p : Program) (s : Survivors) : Type 0 where
  pub source : (w : Surroundings) (n : ℕ) → Surviving p.kernel s w n ≡ Source p w n
  pub traced : (w : Surroundings) (cells n : ℕ) → SurvivingTraced p.kernel s w cells n ≡ Traced p w cells n

abbrev pub SurvivorsRunAlike : Type 0
SurvivorsRunAlike = (p : Program) (s : Survivors) → IsLeftProgram p → IsSurvivors p s → RunsAlike p s

-- what the forms of a kernel that keeps the rules come to, within some budget and with some number of cells, is such a program
abbrev pub FormsLeavePrograms : Type 0
FormsLeavePrograms = (k : Kernel) (budget cells : ℕ) (globals : List (Option Value)) (m : Memory Value) → IsValid k → HasCaptured k →
    Top k budget cells ≡ Finished globals m → IsLeftProgram (record { kernel = k; globals = globals; memory = m })
