use Rattle.std.proofs.Common.{◌+◌, map}
use Rattle.ps_modules.specs.InsideTexts.{defined}
use Rattle.ps_modules.proofs.StructuresAreMet.{unmet_weight, path_weight}
use Rattle.ps_modules.proofs.WalkIsPlayed.{WalkingSo}
use Rattle.ps_modules.proofs.walking.walk.Given as goal

abbrev pub invariant-walking : goal.invariant-walking
invariant-walking g l = WalkingSo (defined l.fn.text) l.limits l.fn.names l.fn.taken (map (λ b. (goal.Library-dyn g (b.vtable, b.value)).shows b.value) l.fn.libs.items) (map (λ b. (goal.Library-dyn g (b.vtable, b.value)).shows b.value) l.libs.items) l.met l.frames l.walked l.order l.count l.names

abbrev pub decreases-walking : goal.decreases-walking
decreases-walking g l = unmet_weight l.fn.text.shapes l.met + path_weight l.fn.text.shapes l.frames
