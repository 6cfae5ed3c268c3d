use Rattle.std.proofs.Common.{List, ℕ, map, Result}
use Rattle.ps_base.specs.declared.memory.NoMemory.{NoMemory}
use Rattle.ps_datum.specs.Writing.{spaced, written}
use Rattle.ps_datum.specs.InsideWriting.{Adds}
use Rattle.ps_datum.proofs.TextsComeByParts.{spaced_from}
use Rattle.ps_datum.proofs.writing.+writing.Given as goal

-- what adds the rest has added all
abbrev pub invariant-put_items-loop-i : goal.invariant-put_items-loop-i
invariant-put_items-loop-i l = (t : List ℕ) (r : Result (Unit {0}) NoMemory) →
    Adds l.out l.so_far t r (spaced_from l.i (map (written l.names) l.items)) → Adds l.fn.out l.fn.so_far t r (spaced (map (written l.names) l.items))
