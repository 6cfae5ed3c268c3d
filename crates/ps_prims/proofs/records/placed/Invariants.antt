-- Putting the rest to its places ends as putting all.
use Rattle.std.proofs.Common.{◌≡◌, length, drop}
use Rattle.std.specs.Prelude.{replicate}
use Rattle.byte_store.specs.declared.pointer.Value.TheVariants as value
use Rattle.ps_prims.specs.InsideRecords.{scattered}
use Rattle.ps_prims.proofs.records.placed.Given as goal

abbrev pub invariant-loop-i : goal.invariant-loop-i
invariant-loop-i l = record {
  long : length l.cells ≡ l.count;
  rest : scattered (drop l.i l.order) (drop l.i l.args) l.cells ≡ scattered l.order l.args (replicate l.count value.Unit);
}
