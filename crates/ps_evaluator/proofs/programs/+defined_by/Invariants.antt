use Rattle.std.proofs.Common.{length}
use Rattle.ps_evaluator.proofs.programs.+defined_by.Given as goal

abbrev pub decreases-defined_by : goal.decreases-defined_by
decreases-defined_by l = length l.forms.now
