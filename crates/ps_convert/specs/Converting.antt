-- Which kernel data are, and what is known of it.
use Rattle.std.specs.Prelude.{◌≡◌, ℕ, List, codes}
use Rattle.ps_base.specs.Names.{Adds}
use Rattle.ps_base.specs.declared.names.Name.{Name}
use Rattle.byte_store.specs.Agree.{IsSameEach}
use Rattle.byte_store.specs.Worlds.{Surroundings}
use Rattle.ps_datum.specs.declared.datum.Datum.{Datum}
use Rattle.ps_kernel.specs.declared.kernel.Kernel.{Kernel}
use Rattle.ps_meaning.specs.Source.{Top, Finished, Program, Source}
use Rattle.ps_plain.specs.declared.program.Program.{Program as PlainProgram}
use Rattle.ps_plain.specs.Forms.{IsProgram}
use Rattle.ps_plain.specs.Meaning.{Source as PlainSource}
use Rattle.ps_convert.specs.Kernels.{kernel_of}

-- Data, where a table lists the names, are a kernel: the kernel of the program that they are, whose definitions stand in a
-- structure named `user`. That name is added to the table where it is not there.
pub record IsKernelOf (names : List (List ℕ)) (forms : List Datum) (k : Kernel) : Type 0 where
  pub program : PlainProgram
  pub is_program : IsProgram names forms program
  pub table : List (List ℕ)
  pub structure : Name
  pub is_user : Adds names table (codes "user") structure.0
  pub is_kernel : k ≡ kernel_of structure program

-- the forms of a kernel come to a program, within a budget of calls and so many cells
pub record ComesTo (k : Kernel) (budget cells : ℕ) (p : Program) : Type 0 where
  pub kernel : p.kernel ≡ k
  pub finished : Top k budget cells ≡ Finished p.globals p.memory

-- Data that are a program of procedures are a kernel. Its forms come to a program, within every budget and number of cells,
-- which has the outcome of the program of procedures in every world and for every number of calls.
pub record Converts (names : List (List ℕ)) (forms : List Datum) (p : PlainProgram) : Type 0 where
  pub kernel : Kernel
  pub is_kernel : IsKernelOf names forms kernel
  pub program : Program
  pub comes : (budget cells : ℕ) → ComesTo kernel budget cells program
  pub same : (w : Surroundings) → IsSameEach (Source program w) (PlainSource p w)

abbrev pub ProgramsConvert : Type 0
ProgramsConvert = (names : List (List ℕ)) (forms : List Datum) (p : PlainProgram) → IsProgram names forms p → Converts names forms p
