use Rattle.std.proofs.Common.{◌≡◌, ◌++◌, map, drop}
use Rattle.ps_meaning.specs.Literals.{laid, lay_parts}
use Rattle.ps_static_eval.proofs.literals.values_of.Given as goal

abbrev pub invariant-loop-part : goal.invariant-loop-part
invariant-loop-part l = l.values ++ (lay_parts (map laid (drop l.part-index l.parts)) l.first).values ≡ (lay_parts (map laid l.parts) l.start).values
