use Rattle.std.proofs.Common.{sym, ap, ◌∙◌}
use Rattle.ps_plain.specs.Faults.{Flaws}
use Rattle.ps_resolve.proofs.shapes.write_shape.Goals as goal

pub returns-in-None : goal.returns-in-None
returns-in-None c = sym (c.in-None.ensures.write c.args.names.now)

pub returns-in-Some : goal.returns-in-Some
returns-in-Some c = c.write_list_shape.ensures ∙ sym (ap (λ (f : Flaws). f.write_shape) (c.in-Some.ensures.is c.args.names.now))
