-- The number of each fault, which is the status of a refused run (this project's own).
use Rattle.std.specs.Prelude.{ℕ}
use Rattle.ps_base.specs.declared.faults.Fault.{Fault}
use Rattle.ps_base.specs.declared.faults.Fault.TheVariants as faults

abbrev pub number_of : Fault → ℕ
number_of (faults.Usage word) = 1
number_of faults.Source = 2
number_of faults.Sink = 3
number_of (faults.Library k) = 4
number_of (faults.TooLong file) = 5
number_of (faults.Syntax kind place) = 6
number_of (faults.Module kind place) = 7
number_of (faults.Form kind place) = 8
number_of (faults.ExpansionSpent n) = 9
number_of (faults.CoreSpent n) = 9
number_of (faults.StaticWrong place) = 10
number_of (faults.StaticUndefined op place) = 10
number_of (faults.StaticRunOnly place) = 10
number_of (faults.BudgetSpent n) = 11
number_of (faults.CellsSpent n) = 11
number_of (faults.Survives kind place) = 12
number_of (faults.TypeFault structure name place) = 13
number_of (faults.Unresolved position place) = 14
number_of (faults.KeysSpent n) = 15
number_of (faults.InlineSpent place) = 15
number_of (faults.TooWide n place) = 15
number_of (faults.CodeSpent n) = 16
number_of (faults.NotBuilt place) = 17
number_of (faults.CText place) = 18
number_of (faults.ShowDeep place) = 19
number_of (faults.ShowLong n) = 19
