use Rattle.std.proofs.Common.{◌≡◌, ◌+◌, ◌*◌, map, take}
use Rattle.ps_types.specs.Substitutions.{apply}
use Rattle.ps_unify.specs.Bindings.{means}
use Rattle.ps_unify.specs.InsideBindings.{meant, meant_all}
use Rattle.ps_unify.proofs.applying.+replacing.Given as goal

abbrev pub invariant-replaced_all-loop-t : goal.invariant-replaced_all-loop-t
invariant-replaced_all-loop-t l = l.all ≡ map (apply (means l.s)) (take l.t-index l.types)

abbrev pub decreases-replaced : goal.decreases-replaced
decreases-replaced l = 3 * meant l.s.now l.t.now

abbrev pub decreases-replaced_part : goal.decreases-replaced_part
decreases-replaced_part l = 3 * meant l.s.now l.t.now + 1

abbrev pub decreases-replaced_all : goal.decreases-replaced_all
decreases-replaced_all l = 3 * meant_all l.s.now l.types.now + 1
