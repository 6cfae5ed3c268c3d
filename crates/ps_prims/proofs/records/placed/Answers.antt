use Rattle.std.proofs.Common.{sym, ap, ◌∙◌, map, Some}
use Rattle.byte_store.specs.declared.pointer.Value.TheVariants as value
use Rattle.ps_prims.proofs.FieldsAreFilled.{each_set, each_within, scattered_end}
use Rattle.ps_prims.proofs.records.placed.Goals as goal

pub set-requires : goal.set-requires
set-requires c = rw c.loop-i.invariant.long (each_within c.args.count c.args.order.now c.loop-i.i c.requires.maker c.loop-i-test.true)

pub returns : goal.returns
returns c =
    ap (map Some) (sym (scattered_end c.args.order.now c.args.args.now c.loop-i.cells c.loop-i.i c.loop-i-test.false) ∙ c.loop-i.invariant.rest)
    ∙ each_set c.args.count c.args.order.now c.args.args.now value.Unit c.requires.maker c.requires.lengths
