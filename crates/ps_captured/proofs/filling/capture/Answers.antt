use Rattle.std.proofs.Common.{List, sym, subst}
use Rattle.ps_kernel.specs.declared.kernel.Lambda.{Lambda}
use Rattle.ps_captured.specs.Filled.{IsFilled}
use Rattle.ps_captured.proofs.ListsChangeNoText.{fills}
use Rattle.ps_captured.proofs.filling.capture.Goals as goal

pub returns : goal.returns
returns c =
    subst (λ (ms : List Lambda). IsFilled c.args.kernel (record c.args.kernel { lambdas = ms })) (sym c.in_ok-with_lists.ensures) (fills c.args.kernel c.in_ok-lists.lists c.in_ok-lists.ensures.each c.in_ok-lists.ensures.captured)
