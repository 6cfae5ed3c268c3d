use Rattle.std.proofs.Common.{sym, ap, ◌∙◌}
use Rattle.ps_plain.specs.Faults.{Flaws}
use Rattle.ps_resolve.specs.InsideNameTables.{scope_of}
use Rattle.ps_resolve.proofs.name_faults.write_names.Goals as goal

pub returns-in-None : goal.returns-in-None
returns-in-None c = sym (c.in-None.ensures.write_names c.args.names.now (scope_of c.args.scope.now))

pub returns-in-Some : goal.returns-in-Some
returns-in-Some c = c.behind_names.ensures ∙ sym (ap (λ (f : Flaws). f.write_names (scope_of c.args.scope.now)) (c.in-Some.ensures.is c.args.names.now))
