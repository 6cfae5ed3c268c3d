use Rattle.std.proofs.Common.{ap, arith, length}
use Rattle.ps_scope.specs.InsideScopes.{one_if_local}
use Rattle.ps_scope.proofs.Counted.{is_within, one_of}
use Rattle.ps_scope.proofs.counts.count_out.Goals as goal

pub bounds-as_slice-l : goal.bounds-as_slice-l
bounds-as_slice-l c =
    let r = c.requires c.in-Local.l in
    let e = ap (one_if_local c.in-Local.l) c.in-Local.is in
    omega (arith, ap length c.as_slice.ensures, is_within c.args.counts.now c.in-Local.l (omega (arith, r, e, one_of c.in-Local.l)))
