use Rattle.ps_captured.proofs.TablesTell.{put_back}
use Rattle.ps_captured.proofs.members.Members.add.Goals as goal

pub returns : goal.returns
returns c =
    put_back c.args.entry c.args.self.now.table.entries c.take-lambdas.new.self.table.entries c.insert.new.self.entries c.take-lambdas.result c.push.new.self c.take-lambdas.ensures.taken c.take-lambdas.ensures.rest c.in_ok-push.ensures.ok c.in_ok-insert.ensures.updates.0
