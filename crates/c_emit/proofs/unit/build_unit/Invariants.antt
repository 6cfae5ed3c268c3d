use Rattle.std.proofs.Common.{◌≡◌, map, take}
use Rattle.c_emit.specs.InsideCode.{function_of}
use Rattle.c_emit.proofs.unit.build_unit.Given as goal

-- the functions of the procedures so far
abbrev pub invariant-loop-procedure : goal.invariant-loop-procedure
invariant-loop-procedure l = l.functions ≡ map function_of (take l.procedure-index l.program.procedures)
