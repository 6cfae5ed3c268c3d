use Rattle.std.proofs.Common.{◌≡◌, ◌++◌, drop}
use Rattle.ps_survive.specs.Kept.{kept_bytes}
use Rattle.ps_reify.proofs.keep.kept_bytes.Given as goal

abbrev pub invariant-loop-byte : goal.invariant-loop-byte
invariant-loop-byte l = l.all ++ kept_bytes (drop l.byte-index l.bytes) ≡ kept_bytes l.bytes
