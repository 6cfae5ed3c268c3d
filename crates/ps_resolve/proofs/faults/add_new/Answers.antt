use Rattle.std.proofs.Common.{sym, subst}
use Rattle.std.specs.Prelude.{nat_eq}
use Rattle.ps_resolve.specs.InsideHeads.{IsAdded}
use Rattle.ps_resolve.proofs.FaultTables.{added}
use Rattle.ps_resolve.proofs.faults.add_new.Goals as goal

pub returns : goal.returns
returns c = subst (λ n. IsAdded c.args.names.now c.add.new.self c.args.name.now (nat_eq c.in_ok-add.field-0.0 n)) (sym c.len-count.ensures) (added c.args.names.now c.add.new.self c.args.name.now c.in_ok-add.field-0.0 c.in_ok-add.ensures.ok)
