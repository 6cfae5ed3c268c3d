use Rattle.std.proofs.Common.{◌≡◌, map, take}
use Rattle.ps_meaning.specs.declared.values.RunValue.TheVariants.{Plain}
use Rattle.ps_evaluator.proofs.values.plain_values.Given as goal

abbrev pub invariant-loop-value : goal.invariant-loop-value
invariant-loop-value l = map Plain l.plain ≡ take l.value-index l.values
