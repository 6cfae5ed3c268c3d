use Rattle.std.proofs.Common.{nat_eq, sym, ap, ◌∙◌}
use Rattle.std.specs.List.{position_or_len}
use Rattle.ps_base.proofs.Tables.{none-passes}
use Rattle.ps_show.proofs.locals.Locals.place.Goals as goal

pub returns-in-None : goal.returns-in-None
returns-in-None c = c.len.ensures.len ∙ sym (none-passes (nat_eq c.args.local) c.self.inside.numbers.keys (sym c.in-None.ensures.found)) ∙ ap (position_or_len (nat_eq c.args.local)) c.self.view_is
