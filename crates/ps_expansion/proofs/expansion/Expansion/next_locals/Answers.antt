use Rattle.std.proofs.Common.{◌∙◌, ap, length}
use Rattle.ps_expansion.proofs.ListsAreBuilt.{numbers_length}
use Rattle.ps_expansion.proofs.expansion.Expansion.next_locals.Goals as goal

pub returns-clause-many : goal.returns-clause-many
returns-clause-many c = ap length c.in_ok-all.ensures ∙ numbers_length c.args.self.now.locals c.args.count
