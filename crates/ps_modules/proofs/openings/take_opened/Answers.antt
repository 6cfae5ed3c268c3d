use Rattle.std.proofs.Common.{ap}
use Rattle.ps_modules.specs.Openings.{gives, all_taken}
use Rattle.ps_modules.proofs.NamesAreTaken.{takes_as}
use Rattle.ps_modules.proofs.openings.take_opened.Goals as goal

pub returns-in-Memory : goal.returns-in-Memory
returns-in-Memory c = takes_as _ _ _ _ (ap (λ o. all_taken c.args.known.now (gives c.args.names.now c.args.order.now o)) c.in-Memory.is) c.take_words.ensures

pub returns-in-Records : goal.returns-in-Records
returns-in-Records c = takes_as _ _ _ _ (ap (λ o. all_taken c.args.known.now (gives c.args.names.now c.args.order.now o)) c.in-Records.is) c.take_words-in-Records.ensures
