use Rattle.std.proofs.Common.{◌≡◌, [], drop}
use Rattle.ps_pattern.specs.Compiling.{table_of}
use Rattle.ps_pattern.proofs.keys.table_of.Given as goal

abbrev pub invariant-loop-var : goal.invariant-loop-var
invariant-loop-var l = table_of [] l.vars ≡ table_of l.keys (drop l.var-index l.vars)
