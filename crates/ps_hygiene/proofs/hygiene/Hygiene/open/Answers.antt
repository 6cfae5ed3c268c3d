use Rattle.ps_hygiene.proofs.NamesAreOpened.{memory_opened, records_opened}
use Rattle.ps_hygiene.proofs.hygiene.Hygiene.open.Goals as goal

pub returns-in-Memory : goal.returns-in-Memory
returns-in-Memory c = memory_opened c.args.names.now c.args.order.now c.open_words.result c.args.self.now c.open_words.new.self c.args.opened c.in-Memory.is c.open_words.ensures

pub returns-in-Records : goal.returns-in-Records
returns-in-Records c = records_opened c.args.names.now c.args.order.now c.open_words-in-Records.result c.args.self.now c.open_words-in-Records.new.self c.args.opened c.in-Records.is c.open_words-in-Records.ensures
