use Rattle.std.proofs.Common.{◌≡◌, filter, take}
use Rattle.ps_kernel.specs.declared.expr.GroupEntry.{GroupEntry}
use Rattle.ps_kernel.specs.Lists.{stands_in}
use Rattle.ps_evaluator.specs.InsideTexts.{names}
use Rattle.ps_evaluator.proofs.texts.named_entries.Given as goal

abbrev pub invariant-loop-entry : goal.invariant-loop-entry
invariant-loop-entry l = l.entries ≡ filter (λ (e : GroupEntry). stands_in e.local (names l.tale)) (take l.entry-index l.group)
