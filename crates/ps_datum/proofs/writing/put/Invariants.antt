use Rattle.std.proofs.Common.{List, ℕ, drop, Result}
use Rattle.ps_base.specs.declared.memory.NoMemory.{NoMemory}
use Rattle.ps_datum.specs.InsideWriting.{Adds}
use Rattle.ps_datum.proofs.writing.put.Given as goal

-- what adds the rest has added all
abbrev pub invariant-loop-byte : goal.invariant-loop-byte
invariant-loop-byte l = (t : List ℕ) (r : Result (Unit {0}) NoMemory) → Adds l.out l.so_far t r (drop l.byte-index l.bytes) → Adds l.fn.out l.fn.so_far t r l.bytes
