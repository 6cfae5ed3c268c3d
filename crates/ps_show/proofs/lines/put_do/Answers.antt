use Rattle.std.proofs.Common.{sym}
use Rattle.ps_show.proofs.PagesAreJoined.{adds_text}
use Rattle.ps_show.proofs.LinesAreWritten.{do_sequence, do_other}
use Rattle.ps_show.proofs.lines.put_do.Goals as goal

pub returns-in-Begin : goal.returns-in-Begin
returns-in-Begin c =
    adds_text _ _ _ _ (do_sequence c.args.showing.now.kernel.now c.args.showing.now.names.now c.args.showing.now.locals.now c.args.e.now c.in-Begin.parts c.in-Begin.is) (rw (sym c.as_slice.ensures) c.put_sequence.ensures)

pub returns-in_default : goal.returns-in_default
returns-in_default c =
    adds_text _ _ _ _ (do_other c.args.showing.now.kernel.now c.args.showing.now.names.now c.args.showing.now.locals.now c.args.e.now c.in_default.not-Begin) c.put_expr.ensures
