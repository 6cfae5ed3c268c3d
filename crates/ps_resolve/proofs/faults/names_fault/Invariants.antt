use Rattle.std.proofs.Common.{◌≡◌, ◌≤◌, List, [], length, drop}
use Rattle.ps_plain.specs.Forms.{Head}
use Rattle.ps_resolve.specs.InsideHeads.{Knows, names_walk}
use Rattle.ps_resolve.proofs.faults.names_fault.Given as goal

-- what is left gives the same
abbrev pub invariant-loop-form : goal.invariant-loop-form
invariant-loop-form l = record {
  so_far : (heads : List Head) → Knows heads l.procedures → names_walk l.names heads l.defined (drop l.form-index l.forms) ≡ names_walk l.names heads [] l.forms;
  few : length l.defined ≤ l.form-index;
}
