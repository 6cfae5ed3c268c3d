use Rattle.std.proofs.Common.{◌≡◌, drop}
use Rattle.std.specs.List.{list_any}
use Rattle.ps_modules.specs.Texts.{is_form}
use Rattle.ps_modules.proofs.linking.has_form.Given as goal

abbrev pub invariant-loop-d : goal.invariant-loop-d
invariant-loop-d l = list_any (is_form l.fn.names) l.fn.ds ≡ list_any (is_form l.fn.names) (drop l.d-index l.fn.ds)
