-- Why an expansion stops where a transcription does (private to the calls that settle).
use Rattle.std.specs.Prelude.{ℕ}
use Rattle.ps_base.specs.declared.faults.Fault.TheVariants as faults
use Rattle.ps_base.specs.declared.faults.FormKind.TheVariants as kinds
use Rattle.ps_base.specs.declared.faults.Place.{Place}
use Rattle.ps_base.specs.declared.faults.Refusal.{Refusal}
use Rattle.ps_base.specs.declared.faults.Refusal.TheVariants as refusals
use Rattle.ps_pattern.specs.declared.transcription.PatternFault.{PatternFault}
use Rattle.ps_pattern.specs.declared.transcription.PatternFault.TheVariants as p

abbrev pub refused : ℕ → Place → PatternFault → Refusal
refused transcribed at p.NoRule = refusals.Fault (faults.Form kinds.NoRule at)
refused transcribed at p.Uneven = refusals.Fault (faults.Form kinds.Uneven at)
refused transcribed at p.TooLarge = refusals.Fault (faults.ExpansionSpent transcribed)
refused transcribed at p.BadRules = refusals.NoMemory
refused transcribed at p.NoMemory = refusals.NoMemory
