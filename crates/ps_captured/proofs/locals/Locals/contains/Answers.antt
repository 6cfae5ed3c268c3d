use Rattle.std.proofs.Common.{◌≡◌, ◌∙◌}
use Rattle.ps_kernel.specs.Lists.{stands_in}
use Rattle.ps_captured.proofs.SetsHold.{found}
use Rattle.ps_captured.proofs.locals.Locals.contains.Goals as goal

pub returns : goal.returns
returns c = let is : c.contains.result ≡ stands_in c.args.local c.self.inside.set.keys = c.contains.ensures ∙ found c.args.local c.self.inside.set.keys in cc (is, c.self.view_is)
