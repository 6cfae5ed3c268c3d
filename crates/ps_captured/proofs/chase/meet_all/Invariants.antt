use Rattle.std.proofs.Common.{◌≡◌, drop}
use Rattle.ps_captured.specs.InsideKeeping.{all_met, looked}
use Rattle.ps_captured.proofs.chase.meet_all.Given as goal

-- what the rest adds ends as what all adds
abbrev pub invariant-loop-local : goal.invariant-loop-local
invariant-loop-local l = all_met (looked l.members) l.chase (drop l.local-index l.locals) ≡ all_met (looked l.members) l.fn.chase l.locals
