-- A unit that agrees with the program of procedures that a text is translates the text.
-- For: translate
use Rattle.std.proofs.Common.{ℕ, List, []}
use Rattle.byte_store.specs.Agree.{Agree, Shallow}
use Rattle.byte_store.specs.Laws.{SameEachAgrees}
use Rattle.byte_store.specs.Worlds.{Surroundings}
use Rattle.ps_datum.specs.declared.datum.Datum.{Datum}
use Rattle.ps_read.specs.Reading.{Reads}
use Rattle.ps_meaning.specs.Source.{Source}
use Rattle.ps_plain.specs.declared.program.Program.{Program}
use Rattle.ps_plain.specs.Forms.{IsProgram}
use Rattle.ps_plain.specs.Meaning.{Source as PlainSource}
use Rattle.ps_convert.specs.Converting.{Converts, ProgramsConvert}
use Rattle.c_ast.specs.declared.unit.CUnit.{CUnit}
use Rattle.c_ast.specs.WellFormed.{IsWellFormed}
use Rattle.c_meaning.specs.Machine.{CRun}
use Rattle.ps_command.specs.Headline.{Translates}

pub translated : (laws : ProgramsConvert) (same : SameEachAgrees) (text : List ℕ) (forms : List Datum) (names : List (List ℕ)) (p : Program) (u : CUnit)
    → Reads [] 0 text forms names → IsProgram names forms p → IsWellFormed u → ((w : Surroundings) → Agree (PlainSource p w) (CRun u w)) → ((w : Surroundings) → Shallow 1 (PlainSource p w) (CRun u w)) → Translates text u
translated laws same text forms names p u reads is formed agree shallow =
    let to = laws names forms p is in
    record {
      kernel = to.kernel;
      is_kernel = record { forms = forms; names = names; reads = reads; is_kernel = to.is_kernel };
      program = to.program;
      comes = to.comes 1000000 16000000;
      well_formed = formed;
      agree = λ w. (same (Source to.program w) (PlainSource p w) (CRun u w) 1 (to.same w) (agree w) (shallow w)).0;
      shallow = λ w. (same (Source to.program w) (PlainSource p w) (CRun u w) 1 (to.same w) (agree w) (shallow w)).1;
    }
