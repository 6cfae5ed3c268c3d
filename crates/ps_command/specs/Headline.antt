-- The headline: what it means that bytes written are a right translation of a text, and why a text has none (this project's own).
use Rattle.std.specs.Prelude.{◌≡◌, ℕ, List, [], Some}
use Rattle.byte_store.specs.Agree.{Agree, Shallow}
use Rattle.byte_store.specs.Worlds.{Surroundings}
use Rattle.ps_base.specs.declared.faults.Place.{Place}
use Rattle.ps_base.specs.declared.faults.SyntaxKind.{SyntaxKind}
use Rattle.ps_datum.specs.declared.datum.Datum.{Datum}
use Rattle.ps_read.specs.Breaches.{FirstBreach}
use Rattle.ps_read.specs.Lexical.{tokens_of}
use Rattle.ps_read.specs.Reading.{Reads}
use Rattle.ps_kernel.specs.declared.kernel.Kernel.{Kernel}
use Rattle.ps_meaning.specs.Source.{Program, Source}
use Rattle.ps_plain.specs.Faults.{fault_of}
use Rattle.ps_convert.specs.Converting.{IsKernelOf, ComesTo}
use Rattle.c_ast.specs.declared.unit.CUnit.{CUnit}
use Rattle.c_ast.specs.Text.{CText}
use Rattle.c_ast.specs.WellFormed.{IsWellFormed}
use Rattle.c_meaning.specs.Machine.{CRun}

-- the text, read as file 0, is that of the kernel
pub record IsKernelText (text : List ℕ) (k : Kernel) : Type 0 where
  pub forms : List Datum
  pub names : List (List ℕ)
  pub reads : Reads [] 0 text forms names
  pub is_kernel : IsKernelOf names forms k

-- the first breach of the text, read as file 0, is of this kind and at this place
pub record BreaksSyntax (text : List ℕ) (kind : SyntaxKind) (place : Place) : Type 0 where
  pub first : FirstBreach (tokens_of [] 0 text) (record { kind = kind; place = place })

-- the text is that of data, which are no program, and this is where
pub record IsNoProgram (text : List ℕ) (place : Place) : Type 0 where
  pub forms : List Datum
  pub names : List (List ℕ)
  pub reads : Reads [] 0 text forms names
  pub fault : fault_of names forms ≡ Some place

-- The text is that of a kernel, whose forms come to a program, within 1,000,000 calls and 16,000,000 cells. The unit is well
-- formed. In every world it does what the program does, and has at most one frame more than the program's calls are deep.
pub record Translates (text : List ℕ) (u : CUnit) : Type 0 where
  pub kernel : Kernel
  pub is_kernel : IsKernelText text kernel
  pub program : Program
  pub comes : ComesTo kernel 1000000 16000000 program
  pub well_formed : IsWellFormed u
  pub agree : (w : Surroundings) → Agree (Source program w) (CRun u w)
  pub shallow : (w : Surroundings) → Shallow 1 (Source program w) (CRun u w)

-- the bytes written are the text of a unit that translates the text
pub record Compiles (text written : List ℕ) : Type 0 where
  pub unit : CUnit
  pub translates : Translates text unit
  pub is_text : CText written unit
