use Rattle.ps_modules.proofs.FormsDefine.{DefinedSo}
use Rattle.ps_modules.proofs.text.text_of_forms.Given as goal

abbrev pub invariant-loop-d : goal.invariant-loop-d
invariant-loop-d l = DefinedSo l.fn.names l.fn.forms l.text l.d-index
