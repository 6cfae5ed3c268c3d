use Rattle.ps_hygiene.proofs.NamesAreOpened.{language_opened}
use Rattle.ps_hygiene.proofs.hygiene.Hygiene.open_language.Goals as goal

pub returns : goal.returns
returns c = language_opened c.args.names.now c.open_words-3.result c.args.self.now c.open_words.new.self c.open_words-2.new.self c.open_words-3.new.self c.in_ok-open_words.ensures c.in_ok-open_words-2.ensures c.open_words-3.ensures
