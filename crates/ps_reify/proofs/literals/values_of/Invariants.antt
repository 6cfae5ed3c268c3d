use Rattle.std.proofs.Common.{◌≡◌, ◌+◌, ◌++◌, length, map, drop}
use Rattle.ps_meaning.specs.Literals.{laid, lay_parts, lay_all}
use Rattle.ps_reify.proofs.literals.values_of.Given as goal

abbrev pub invariant-loop-literal : goal.invariant-loop-literal
invariant-loop-literal l = record {
  end : l.start + length (lay_parts (map laid (drop l.literal-index l.literals)) l.start).blocks ≡ length (lay_all l.literals).blocks;
  built : l.values ++ (lay_parts (map laid (drop l.literal-index l.literals)) l.start).values ≡ (lay_all l.literals).values;
}
