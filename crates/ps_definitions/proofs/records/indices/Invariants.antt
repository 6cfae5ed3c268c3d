use Rattle.std.proofs.Common.{◌≡◌, ◌++◌, drop}
use Rattle.ps_definitions.proofs.records.indices.Given as goal

abbrev pub invariant-loop-operand : goal.invariant-loop-operand
invariant-loop-operand l = l.all ++ drop l.operand-index l.operands ≡ l.operands
