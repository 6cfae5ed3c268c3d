-- The arguments so far are written, and the rest is unset.
use Rattle.std.proofs.Common.{◌≡◌, ◌+◌, ◌-◌, ◌++◌, length, map, take, get_or, None}
use Rattle.c_meaning.specs.Machine.{unset}
use Rattle.c_meaning.proofs.values.variables_of_call.Given as goal

abbrev pub invariant-loop-i : goal.invariant-loop-i
invariant-loop-i l = l.variables.items ≡ map (λ k. get_or l.locals k None) (take l.i l.arguments) ++ unset (length l.arguments - l.i + l.more)
