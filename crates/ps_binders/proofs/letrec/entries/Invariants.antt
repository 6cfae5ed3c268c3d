use Rattle.std.proofs.Common.{◌≡◌, ◌++◌, drop}
use Rattle.ps_bodies.specs.InsideBodies.{seen_members}
use Rattle.ps_binders.specs.Binders.{entries as entries_spec}
use Rattle.ps_binders.proofs.letrec.entries.Given as goal

abbrev pub invariant-loop-i : goal.invariant-loop-i
invariant-loop-i l =
    l.group ++ entries_spec (drop l.i l.locals) (seen_members (drop l.i l.members)) ≡ entries_spec l.locals (seen_members l.members)
