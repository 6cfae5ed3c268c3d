-- The numbers that are left.
use Rattle.std.proofs.Common.{◌≡◌, ◌+◌, ◌-◌, ◌++◌}
use Rattle.ps_convert.specs.Kernels.{numbers_from}
use Rattle.ps_convert.proofs.conversion.numbers.Given as goal

abbrev pub invariant-loop-number : goal.invariant-loop-number
invariant-loop-number l = l.all ++ numbers_from l.number (l.first + l.count - l.number) ≡ numbers_from l.first l.count
