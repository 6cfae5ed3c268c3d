use Rattle.std.proofs.Common.{◌≡◌, ◌+◌, ◌++◌, map, drop}
use Rattle.c_emit.specs.InsideCode.{coded, operands_size, operands_labels, operands_code, operands_places}
use Rattle.c_emit.proofs.unit.+build_expr.Given as goal

-- with the code of the operands that are left, the code is that of all of them
abbrev pub invariant-build_operands-loop-e : goal.invariant-build_operands-loop-e
invariant-build_operands-loop-e l = record {
  size : l.code.variables + operands_size (map coded (drop l.e-index l.operands)) ≡ l.fn.code.variables + operands_size (map coded l.operands);
  labels : l.code.labels + operands_labels (map coded (drop l.e-index l.operands)) ≡ l.fn.code.labels + operands_labels (map coded l.operands);
  statements : l.code.statements ++ operands_code (map coded (drop l.e-index l.operands)) l.code.variables l.code.labels ≡ l.fn.code.statements ++ operands_code (map coded l.operands) l.fn.code.variables l.fn.code.labels;
  places : l.places ++ operands_places (map coded (drop l.e-index l.operands)) l.code.variables ≡ operands_places (map coded l.operands) l.fn.code.variables;
}
