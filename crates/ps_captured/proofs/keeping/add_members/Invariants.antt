use Rattle.std.proofs.Common.{◌≡◌, drop}
use Rattle.std.specs.List.{fold}
use Rattle.ps_captured.specs.InsideKeeping.{with_member}
use Rattle.ps_captured.proofs.keeping.add_members.Given as goal

-- what the rest adds ends as what all adds
abbrev pub invariant-loop-member : goal.invariant-loop-member
invariant-loop-member l = fold (with_member l.own l.named) l.locals (drop l.member-index l.order) ≡ fold (with_member l.own l.named) l.fn.locals l.order
