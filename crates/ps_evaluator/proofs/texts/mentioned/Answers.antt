use Rattle.std.proofs.Common.{◌≡◌, List, ap, ◌∙◌}
use Rattle.std.specs.Prelude.{filter}
use Rattle.ps_kernel.specs.declared.expr.GroupEntry.{GroupEntry}
use Rattle.ps_kernel.specs.Lists.{stands_in}
use Rattle.ps_kernel.specs.Scoped.{mentioned}
use Rattle.ps_evaluator.specs.InsideTexts.{names}
use Rattle.ps_evaluator.proofs.Joins.{if_ok_map}
use Rattle.ps_evaluator.proofs.TextsAreTold.{mentions}
use Rattle.ps_evaluator.proofs.texts.mentioned.Goals as goal

pub returns : goal.returns
returns c =
    if_ok_map (λ (r : List GroupEntry). r ≡ filter (λ (e : GroupEntry). stands_in e.local (names c.as_slice-3.result.now)) c.as_slice-2.result.now) (λ r. r ≡ mentioned c.args.kernel.now c.args.lambda) c.named_entries.result
    (λ r h. mentions c.args.kernel.now c.args.lambda c.as_slice-2.result.now r c.as_slice.result.now c.as_slice-3.result.now (c.as_slice.ensures ∙ c.in_ok-text.ensures) (c.as_slice-3.ensures ∙ c.in_ok-own.ensures) (c.as_slice-2.ensures ∙ c.in_ok-group.ensures) h)
    c.named_entries.ensures
