use Rattle.std.proofs.Common.{◌≡◌, ◌+◌, length, map, take}
use Rattle.ps_meaning.specs.Literals.{laid, lay_parts}
use Rattle.ps_evaluator.proofs.literals.+laying.Given as goal

abbrev pub invariant-end_of_all-loop-part : goal.invariant-end_of_all-loop-part
invariant-end_of_all-loop-part l = l.end ≡ l.start + length (lay_parts (map laid (take l.part-index l.parts)) l.start).blocks
