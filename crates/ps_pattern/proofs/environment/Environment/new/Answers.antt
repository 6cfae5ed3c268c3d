use Rattle.std.proofs.Common.{rules}
use Rattle.ps_pattern.proofs.Walks.{unwalked}
use Rattle.ps_pattern.proofs.environment.Environment.new.Goals as goal

pub returns : goal.returns
returns c = unwalked c.new-path.result.items c.args.binds.now (search rules)
