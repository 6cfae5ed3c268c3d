use Rattle.std.proofs.Common.{◌≤◌, map, length, take, drop}
use Rattle.ps_resolve.specs.InsideHeads.{HaveHeads, Knows, head_at}
use Rattle.ps_resolve.proofs.faults.procedures_of.Given as goal

-- the table knows the procedures so far, and the forms so far have their heads
abbrev pub invariant-loop-form : goal.invariant-loop-form
invariant-loop-form l = record {
  knows : Knows (map (head_at l.names) (take l.form-index l.forms)) l.procedures;
  heads : HaveHeads l.names (drop l.form-index l.forms) → HaveHeads l.names l.forms;
  few : length l.procedures.names ≤ l.form-index;
}
