use Rattle.std.proofs.Common.{map}
use Rattle.ps_modules.proofs.PartsAreGathered.{GatheredSo}
use Rattle.ps_modules.proofs.files.body_of.Given as goal

abbrev pub invariant-loop-part : goal.invariant-loop-part
invariant-loop-part g l = GatheredSo l.limits l.fn.parts l.fn.count l.fn.names (map (λ b. (goal.Library-dyn g (b.vtable, b.value)).shows b.value) l.fn.libs.items) l.forms l.count l.names (map (λ b. (goal.Library-dyn g (b.vtable, b.value)).shows b.value) l.libs.items) l.part-index
