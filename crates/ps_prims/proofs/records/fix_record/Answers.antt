use Rattle.std.proofs.Common.{sym, ◌∙◌}
use Rattle.ps_prims.proofs.RecordsAreTheRows.{fixed_record}
use Rattle.ps_prims.proofs.records.fix_record.Goals as goal

pub returns-in-Ok-fix_cells : goal.returns-in-Ok-fix_cells
returns-in-Ok-fix_cells g c = λ w es.
    fixed_record c.args.k c.args.count c.args.order.now c.args.args.now c.args.store.now w es c.in-Ok.cells c.next_fixed-number.result c.fix_cells.new.self
    (sym c.has_size.ensures ∙ c.if-not-has_size.false) c.requires.maker c.in-Ok.ensures c.next_fixed-number.ensures c.in-Ok-fix_cells.ensures
