use Rattle.std.proofs.Common.{◌≡◌, length, sym, subst, arith}
use Rattle.ps_groups.specs.Groups.{AreGroups}
use Rattle.ps_groups.specs.InsideSearch.{IsDoneBelow}
use Rattle.ps_groups.proofs.SearchesEnd.{are_groups}
use Rattle.ps_groups.proofs.finding.groups.Goals as goal

pub returns : goal.returns
returns c =
    let rows = c.args.rows.now in
    let last : c.loop-node.node ≡ length rows = omega arith in
    let done = subst (λ n. IsDoneBelow rows n c.loop-node.search) last c.loop-node.invariant in
    subst (AreGroups rows) (sym c.in_ok-told.ensures) (are_groups rows c.requires.table c.loop-node.search done)
