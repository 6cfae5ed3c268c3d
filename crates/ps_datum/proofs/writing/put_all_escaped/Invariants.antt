use Rattle.std.proofs.Common.{List, ℕ, drop, Result}
use Rattle.std.specs.List.{flat_map}
use Rattle.ps_base.specs.declared.memory.NoMemory.{NoMemory}
use Rattle.ps_datum.specs.Writing.{escaped_byte}
use Rattle.ps_datum.specs.InsideWriting.{Adds}
use Rattle.ps_datum.proofs.writing.put_all_escaped.Given as goal

-- what adds the rest has added all
abbrev pub invariant-loop-byte : goal.invariant-loop-byte
invariant-loop-byte l = (t : List ℕ) (r : Result (Unit {0}) NoMemory) →
    Adds l.out l.so_far t r (flat_map escaped_byte (drop l.byte-index l.bytes)) → Adds l.fn.out l.fn.so_far t r (flat_map escaped_byte l.bytes)
