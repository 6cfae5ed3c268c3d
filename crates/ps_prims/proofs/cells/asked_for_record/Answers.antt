use Rattle.std.proofs.Common.{pos, length, sym, ap, ◌∙◌}
use Rattle.ps_prims.specs.Cells.{for_cells}
use Rattle.ps_prims.proofs.OthersAskForNone.{asks_fields, asks_wrong}
use Rattle.ps_prims.proofs.cells.asked_for_record.Goals as goal

pub returns-then-fit_maker : goal.returns-then-fit_maker
returns-then-fit_maker c = λ m. c.for_fields.ensures ∙ ap (λ l. for_cells (pos (length l))) c.fields_of.ensures ∙ sym (asks_fields c.args.kinds.now c.args.k c.args.args.now m (sym c.fit_maker.ensures ∙ c.if-fit_maker.true))

pub returns-else-fit_maker : goal.returns-else-fit_maker
returns-else-fit_maker c = λ m. sym (asks_wrong c.args.kinds.now c.args.k c.args.args.now m (sym c.fit_maker.ensures ∙ c.if-fit_maker.false))
