use Rattle.std.proofs.Common.{◌≡◌, map, take, Some}
use Rattle.ps_pattern.specs.Matching.{collect}
use Rattle.ps_derived.specs.Clauses.{label_at}
use Rattle.ps_derived.proofs.clauses.labels_in.Given as goal

abbrev pub invariant-loop-form : goal.invariant-loop-form
invariant-loop-form l = collect (map label_at (take l.form-index l.forms)) ≡ Some l.labels
