use Rattle.std.proofs.Common.{◌≡◌, drop}
use Rattle.ps_bodies.specs.Branches.{code_in}
use Rattle.ps_bodies.specs.InsideBranches.{codes_behind}
use Rattle.ps_bodies.proofs.kinds.add_codes.Given as goal

-- all end as the rest behind what was added
abbrev pub invariant-loop-label : goal.invariant-loop-label
invariant-loop-label l = codes_behind (code_in l.kind) (drop l.label-index l.labels) l.codes
    ≡ codes_behind (code_in l.kind) l.labels l.fn.codes
