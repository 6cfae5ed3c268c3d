use Rattle.std.proofs.Common.{◌≡◌, take}
use Rattle.ps_kernel.specs.Most.{most_depth}
use Rattle.ps_kernel.specs.Texts.{form_marks}
use Rattle.ps_static_tables.specs.InsideTexts.{told}
use Rattle.ps_static_tables.proofs.texts.entries_of.Given as goal

abbrev pub invariant-loop-form : goal.invariant-loop-form
invariant-loop-form l = l.entries ≡ told (form_marks l.kernel most_depth (take l.form-index l.form-items))
