use Rattle.std.proofs.Common.{◌≡◌, drop, map}
use Rattle.ps_derived.specs.Quotation.{all_constant, is_constant}
use Rattle.ps_derived.proofs.quotation.+quoting.Given as goal

-- all are constants where the rest are
abbrev pub invariant-are_constant-loop-form : goal.invariant-are_constant-loop-form
invariant-are_constant-loop-form l = all_constant (map is_constant l.forms) ≡ all_constant (map is_constant (drop l.form-index l.forms))
