use Rattle.std.proofs.Common.{◌≡◌, take}
use Rattle.ps_pattern.specs.Filling.{taken, sizes}
use Rattle.ps_hygiene.proofs.extents.+weigh.Given as goal

abbrev pub invariant-weigh_all-loop-form : goal.invariant-weigh_all-loop-form
invariant-weigh_all-loop-form l = l.left ≡ taken l.initial.left (sizes (take l.form-index l.forms))
