use Rattle.std.proofs.Common.{ap}
use Rattle.ps_show.specs.ShowText.{kind_lines, form_lines, kernel_text}
use Rattle.ps_show.proofs.PagesAreJoined.{adds_then, adds_text, holds_then}
use Rattle.ps_show.proofs.LinesAreWritten.{all_lines}
use Rattle.ps_show.proofs.lines.show.Goals as goal

pub returns : goal.returns
returns c = c.answer_of.ensures (kernel_text c.args.kernel.now c.args.names.now) (holds_then _ _ _ c.empty-page.ensures
    (adds_text _ _ _ _ (all_lines c.args.kernel.now c.args.names.now c.in-Ok.locals c.in-Ok.ensures)
    (adds_then _ _ _ _ _
    (adds_text _ _ _ _ (ap (kind_lines 0) c.as_slice.ensures) c.put_kinds.ensures)
    (adds_text _ _ _ _ (ap (form_lines c.args.kernel.now c.args.names.now c.in-Ok.locals) c.as_slice-2.ensures) c.put_forms.ensures))))
