use Rattle.std.proofs.Common.{◌≡◌, ◌<◌, ℕ, length, get_or}
use Rattle.ps_scope.proofs.table.zeros.Given as goal

abbrev pub invariant-loop-i : goal.invariant-loop-i
invariant-loop-i l = record { many : length l.all ≡ l.i; zero : (k : ℕ) → k < l.i → get_or l.all k 0 ≡ 0 }
