use Rattle.std.proofs.Common.{◌≡◌, drop}
use Rattle.std.specs.List.{list_any}
use Rattle.ps_modules.specs.Texts.{is_main}
use Rattle.ps_modules.proofs.text.lists_main.Given as goal

abbrev pub invariant-loop-export : goal.invariant-loop-export
invariant-loop-export l = list_any (is_main l.fn.names) l.fn.exports ≡ list_any (is_main l.fn.names) (drop l.export-index l.fn.exports)
