use Rattle.ps_kernel.proofs.TableTellsScopes.{has_one, has_none_yet}
use Rattle.ps_kernel.proofs.validity.text.none_in.Goals as goal

pub returns-in-Some : goal.returns-in-Some
returns-in-Some c = has_one c.args.table.now c.args.numbers.now c.loop-number.number-index c.get.result c.in-Some.field-0 c.loop-number-test.true c.get.ensures c.in-Some.is c.loop-number.invariant

pub loop-number-preserved : goal.loop-number-preserved
loop-number-preserved c = has_none_yet c.args.table.now c.args.numbers.now c.loop-number.number-index c.get.result c.loop-number-test.true c.get.ensures c.in-None.is c.loop-number.invariant
