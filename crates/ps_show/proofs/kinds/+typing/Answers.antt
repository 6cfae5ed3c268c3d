use Rattle.std.proofs.Common.{sym}
use Rattle.ps_show.proofs.PagesAreJoined.{adds_then, adds_text}
use Rattle.ps_show.proofs.TypesAreWritten.{of_vector, of_record, of_variable, of_procedure, no_vector, some_vector}
use Rattle.ps_show.proofs.kinds.+typing.Goals as goal

pub put_type-returns-in-Vector : goal.put_type-returns-in-Vector
put_type-returns-in-Vector t c = rw (c.in-Vector.is, of_vector, sym c.get.ensures) c.put_vector.ensures

pub put_type-returns-in-Tuple : goal.put_type-returns-in-Tuple
put_type-returns-in-Tuple t c = rw (c.in-Tuple.is, of_record) c.put_kind_type.ensures

pub put_type-returns-in-Proc : goal.put_type-returns-in-Proc
put_type-returns-in-Proc t c = rw (c.in-Proc.is, of_procedure) c.put-in-Proc.ensures

pub put_type-returns-in-Var : goal.put_type-returns-in-Var
put_type-returns-in-Var t c = rw (c.in-Var.is, of_variable) c.put_numbered.ensures

pub put_vector-returns-then-levels-eq0 : goal.put_vector-returns-then-levels-eq0
put_vector-returns-then-levels-eq0 t c = adds_text _ _ _ _ (no_vector c.args.levels c.args.item.now c.if-levels-eq0.true) c.deepen.ensures

pub put_vector-returns : goal.put_vector-returns
put_vector-returns t c = adds_text _ _ _ _ (some_vector c.args.levels c.args.item.now c.if-levels-eq0.false) (search adds_then)
