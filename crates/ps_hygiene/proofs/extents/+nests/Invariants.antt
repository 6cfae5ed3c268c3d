use Rattle.std.proofs.Common.{◌≡◌, nat_lt, map, drop}
use Rattle.ps_hygiene.specs.Transcriptions.{nesting, deepest}
use Rattle.ps_hygiene.proofs.extents.+nests.Given as goal

abbrev pub invariant-all_nest_below-loop-form : goal.invariant-all_nest_below-loop-form
invariant-all_nest_below-loop-form l = record {
  so_far : nat_lt (deepest (map nesting l.forms)) l.levels ≡ nat_lt (deepest (map nesting (drop l.form-index l.forms))) l.levels;
}
