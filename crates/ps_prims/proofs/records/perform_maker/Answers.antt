use Rattle.std.proofs.Common.{length, sym, ap, ◌∙◌}
use Rattle.ps_base.specs.declared.language.PrimName.TheVariants as prims
use Rattle.ps_prims.specs.Sorts.{first_order}
use Rattle.ps_prims.specs.Rows.{row}
use Rattle.ps_prims.specs.Performing.{state}
use Rattle.ps_prims.proofs.MakesAreTheRows.{comes_wrong}
use Rattle.ps_prims.proofs.RecordsAreTheRows.{as_long, maker_does}
use Rattle.ps_prims.proofs.records.perform_maker.Goals as goal

pub returns-then-not-fit_maker : goal.returns-then-not-fit_maker
returns-then-not-fit_maker g c =
    comes_wrong (row first_order c.args.kinds.now (prims.Maker c.args.k)) c.args.args.now c.args.stage (state c.args.store.now c.args.world.now c.args.events.now) (sym c.fit_maker.ensures ∙ c.if-not-fit_maker.true)

pub fix_record-requires-clause-lengths : goal.fix_record-requires-clause-lengths
fix_record-requires-clause-lengths g c = as_long c.args.kinds.now c.args.k c.args.args.now (sym c.fit_maker.ensures ∙ c.if-not-fit_maker.false) ∙ ap length (sym c.maker_of-order.ensures)

pub make_record-requires-clause-lengths : goal.make_record-requires-clause-lengths
make_record-requires-clause-lengths g c = as_long c.args.kinds.now c.args.k c.args.args.now (sym c.fit_maker.ensures ∙ c.if-not-fit_maker.false) ∙ ap length (sym c.maker_of-order.ensures)

pub returns-in-Compile : goal.returns-in-Compile
returns-in-Compile g c =
    maker_does c.args.kinds.now c.args.k (length c.fields_of-count.result.now) c.maker_of-order.result.now c.args.args.now c.args.stage c.fix_record.result
    (state c.args.store.now c.args.world.now c.args.events.now) (state c.fix_record.new.store c.args.world.now c.args.events.now)
    (sym c.fit_maker.ensures ∙ c.if-not-fit_maker.false) (ap length c.fields_of-count.ensures) c.maker_of-order.ensures (rw c.in-Compile.is (c.fix_record.ensures c.args.world.now c.args.events.now))

pub returns-in-Run : goal.returns-in-Run
returns-in-Run g c =
    maker_does c.args.kinds.now c.args.k (length c.fields_of-count.result.now) c.maker_of-order.result.now c.args.args.now c.args.stage c.make_record.result
    (state c.args.store.now c.args.world.now c.args.events.now) (state c.make_record.new.store c.make_record.new.world c.make_record.new.events)
    (sym c.fit_maker.ensures ∙ c.if-not-fit_maker.false) (ap length c.fields_of-count.ensures) c.maker_of-order.ensures (rw c.in-Run.is c.make_record.ensures)
