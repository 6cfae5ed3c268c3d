use Rattle.std.proofs.Common.{◌≡◌, ◌+◌, length, map, drop}
use Rattle.ps_meaning.specs.Literals.{laid, lay_parts}
use Rattle.ps_static_eval.proofs.literals.+laying.Given as goal

abbrev pub invariant-end_of_each-loop-part : goal.invariant-end_of_each-loop-part
invariant-end_of_each-loop-part l = l.end + length (lay_parts (map laid (drop l.part-index l.parts)) l.end).blocks ≡ l.start + length (lay_parts (map laid l.parts) l.start).blocks
