use Rattle.std.proofs.Common.{sym, subst, arith, ◌≤◌}
use denote.Param.Weighed.{most, at_most}
use Rattle.ps_base.proofs.Writing.{adds_then}
use Rattle.ps_types.proofs.types.Ty.TheLaws.{the_size}
use Rattle.ps_types.specs.declared.types.Ty.{Ty}
use Rattle.ps_types.specs.Writing.{variables, is_known, text_in}
use Rattle.ps_types.proofs.TextsComeByParts.{of_vector, of_proc, adds_part, known_at}
use Rattle.ps_types.proofs.writing.+writing.Goals as goal

pub put_type-returns-in-Vector : goal.put_type-returns-in-Vector
put_type-returns-in-Vector g t c = rw (c.in-Vector.is, of_vector c.args.kinds.now c.args.names.now (variables c.args.whole.now) c.in-Vector.item, sym c.get.ensures) (search adds_then)

pub put_type-returns-in-Proc : goal.put_type-returns-in-Proc
put_type-returns-in-Proc g t c = rw (c.in-Proc.is, of_proc c.args.kinds.now c.args.names.now (variables c.args.whole.now) c.in-Proc.parameters c.in-Proc.answer, sym c.as_slice.ensures, sym c.get-in-Proc.ensures) (search adds_then)

pub put_types-put_type-so_far-requires : goal.put_types-put_type-so_far-requires
put_types-put_type-so_far-requires g t c κs within =
    let smaller : the_size c.index-types-i.result ≤ most the_size c.args.types.now = subst (λ (d : Ty). the_size d ≤ most the_size c.args.types.now) (sym c.index-types-i.is) (at_most the_size c.args.types.now c.loop-i.i c.index-types-i.result c.loop-i-test.true) in
    (omega arith, (within, (known_at (is_known c.args.kinds.now c.args.names.now) c.args.types.now c.loop-i.i c.index-types-i.result c.requires.known c.loop-i-test.true c.index-types-i.is, c.requires.numbered)))

pub put_types-loop-i-preserved : goal.put_types-loop-i-preserved
put_types-loop-i-preserved g t c = λ u r h.
    c.loop-i.invariant u r (adds_part (text_in c.args.kinds.now c.args.names.now (variables c.args.whole.now)) c.loop-i.i c.args.types.now c.index-types-i.result c.loop-i-test.true c.index-types-i.is c.put_space-so_far.ensures c.put_type-so_far.ensures h)
