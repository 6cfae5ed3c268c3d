-- Why a text has no translation.
use Rattle.std.specs.Prelude.{ℕ, List}
use Rattle.ps_base.specs.declared.faults.Fault.{Fault}
use Rattle.ps_base.specs.declared.faults.Fault.TheVariants as faults
use Rattle.ps_base.specs.declared.faults.Refusal.{Refusal}
use Rattle.ps_base.specs.declared.faults.Refusal.TheVariants as refusals
use Rattle.ps_command.specs.Headline.{BreaksSyntax, IsNoProgram}

-- the fault is that of the text
abbrev pub IsFaultOf : List ℕ → Fault → Type 0
IsFaultOf text (faults.Syntax kind place) = BreaksSyntax text kind place
IsFaultOf text (faults.NotBuilt place) = IsNoProgram text place
IsFaultOf text _ = ⊥

-- the refusal is for a fault of the text, or for want of memory
abbrev pub IsRefusalOf : List ℕ → Refusal → Type 0
IsRefusalOf text (refusals.Fault fault) = IsFaultOf text fault
IsRefusalOf text refusals.NoMemory = Unit {0}
