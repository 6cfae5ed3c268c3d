-- What the kernel of a program comes to at compile time, and what it does at run time.
use Rattle.std.specs.Prelude.{◌≡◌, ℕ, [], length, replicate, None}
use Rattle.ps_base.specs.declared.names.Name.{Name}
use Rattle.byte_store.specs.Agree.{IsSameEach}
use Rattle.byte_store.specs.Worlds.{Surroundings}
use Rattle.ps_meaning.specs.Source.{Top, Finished, Program, Source}
use Rattle.ps_plain.specs.declared.program.Program.{Program as PlainProgram}
use Rattle.ps_plain.specs.Meaning.{Source as PlainSource}
use Rattle.ps_plain.specs.Valid.{IsValid}
use Rattle.ps_convert.specs.Kernels.{kernel_of}

-- no definition has a value but the procedure of its lambda, and the memory is empty
abbrev pub run_of : Name → PlainProgram → Program
run_of structure p = record {
  kernel = kernel_of structure p;
  globals = replicate (length p.procedures) None;
  memory = record { fixed = []; made = [] };
}

-- The forms of the kernel do nothing, whatever the budget and the cells are.
abbrev pub FormsDoNothing : Type 0
FormsDoNothing = (structure : Name) (p : PlainProgram) (budget cells : ℕ) → Top (kernel_of structure p) budget cells ≡
    Finished (run_of structure p).globals (run_of structure p).memory

-- In every world, for each number of procedures that may be entered, the kernel's program has the outcome of the program.
abbrev pub KernelsDoTheSame : Type 0
KernelsDoTheSame = (structure : Name) (p : PlainProgram) (w : Surroundings) → IsValid p →
    IsSameEach (Source (run_of structure p) w) (PlainSource p w)
