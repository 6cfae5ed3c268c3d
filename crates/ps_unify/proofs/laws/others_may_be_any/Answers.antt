use Rattle.ps_unify.proofs.OthersMayBeAny.{others_any}
use Rattle.ps_unify.proofs.laws.others_may_be_any.Goals as goal

pub returns : goal.returns
returns c = others_any
