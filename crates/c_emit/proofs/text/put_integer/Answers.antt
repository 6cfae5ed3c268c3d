-- The text of an integer, by its sign and its magnitude.
use Rattle.std.proofs.Common.{w64}
use Rattle.std.proofs.lemmas.Int.{to_z-of_z}
use Rattle.c_emit.proofs.IntegerTexts.{integer_natural, integer_least, integer_negative}
use Rattle.c_emit.proofs.text.put_integer.Goals as goal

pub returns-then-number-ge0 : goal.returns-then-number-ge0
returns-then-number-ge0 g c = rw (integer_natural _ _ _ (to_z-of_z w64 c.args.number c.ranges.number) c.unsigned_abs-magnitude.ensures.value c.if-number-ge0.true) c.put_natural.ensures

pub returns-then-magnitude : goal.returns-then-magnitude
returns-then-magnitude g c = rw (integer_least _ _ _ (to_z-of_z w64 c.args.number c.ranges.number) c.unsigned_abs-magnitude.ensures.value c.if-number-ge0.false c.if-magnitude.true) c.put.ensures

pub returns-else-magnitude : goal.returns-else-magnitude
returns-else-magnitude g c = rw (integer_negative _ _ _ (to_z-of_z w64 c.args.number c.ranges.number) c.unsigned_abs-magnitude.ensures.value c.if-number-ge0.false c.if-magnitude.false) c.put_negative.ensures
