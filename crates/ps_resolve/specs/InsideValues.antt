-- What values of the resolver stand for.
use Rattle.ps_plain.specs.Forms as forms
use Rattle.ps_resolve.specs.declared.scope.Scope.{Scope}
use Rattle.ps_resolve.specs.declared.expr.Test.{Test}

abbrev pub scope_of : Scope → forms.Scope
scope_of s = record { parameters = s.parameters.now; procedures = s.procedures.now; arities = s.arities.now }

abbrev pub test_of : Test → forms.Test
test_of t = record { place = t.place; comparison = t.comparison; left = t.left; right = t.right }
