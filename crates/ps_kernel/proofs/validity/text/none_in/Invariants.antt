use Rattle.std.proofs.Common.{◌≡◌, drop}
use Rattle.ps_kernel.specs.InsideWalks.{has_none}
use Rattle.ps_kernel.proofs.validity.text.none_in.Given as goal

-- all is as the rest is
abbrev pub invariant-loop-number : goal.invariant-loop-number
invariant-loop-number l = has_none l.table (drop l.number-index l.numbers) ≡ has_none l.table l.numbers
