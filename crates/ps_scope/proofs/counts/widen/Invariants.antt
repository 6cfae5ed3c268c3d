use Rattle.std.proofs.Common.{◌≡◌, ℕ, length, slice_index}
use Rattle.ps_scope.proofs.counts.widen.Given as goal

abbrev pub invariant-loop-i : goal.invariant-loop-i
invariant-loop-i l = record { same : (k : ℕ) → slice_index l.counts k ≡ slice_index l.fn.counts k; many : length l.counts ≡ l.i }
