use Rattle.std.proofs.Common.{◌∙◌, sym}
use Rattle.ps_evaluator.proofs.KindsFit.{kinds_fit}
use Rattle.ps_evaluator.proofs.kinds.are_kinds.Goals as goal

pub returns : goal.returns
returns c = λ is. kinds_fit c.args.kinds.now (sym c.all_filled.ensures ∙ is)
