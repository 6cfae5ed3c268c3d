use Rattle.std.proofs.Common.{◌≡◌, drop}
use Rattle.ps_expansion.specs.Does.{state_of, task_of}
use Rattle.ps_definitions.specs.Definitions.{exports}
use Rattle.ps_definitions.proofs.exported.exports.Given as goal

abbrev pub invariant-loop-export : goal.invariant-loop-export
invariant-loop-export l = exports (task_of l.task) (drop l.export-index l.listed) (state_of l.state) ≡ exports (task_of l.task) l.listed (state_of l.state)
