use Rattle.std.proofs.Common.{◌≡◌, ◌++◌}
use Rattle.ps_captured.proofs.locals.Locals.numbers.Given as goal

-- what was taken stands before the rest
abbrev pub invariant-loop-local : goal.invariant-loop-local
invariant-loop-local l = l.numbers ++ l.local-iterator ≡ l.self
