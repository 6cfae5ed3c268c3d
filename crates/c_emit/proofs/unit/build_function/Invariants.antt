use Rattle.std.proofs.Common.{◌≡◌, ◌+◌, ◌++◌, drop}
use Rattle.c_emit.specs.InsideCode.{writes_size, writes_labels, writes_code}
use Rattle.c_emit.proofs.unit.build_function.Given as goal

-- with the code of the writes that are left, the code is that of all of them
abbrev pub invariant-loop-write : goal.invariant-loop-write
invariant-loop-write l = record {
  size : l.code.variables + writes_size (drop l.write-index l.procedure.writes) ≡ l.procedure.parameters + writes_size l.procedure.writes;
  labels : l.code.labels + writes_labels (drop l.write-index l.procedure.writes) ≡ writes_labels l.procedure.writes;
  statements : l.code.statements ++ writes_code (drop l.write-index l.procedure.writes) l.code.variables l.code.labels ≡ writes_code l.procedure.writes l.procedure.parameters 0;
}
