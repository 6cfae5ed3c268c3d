use Rattle.ps_modules.proofs.LinkingFollows.{text_refused, walk_so, entry_refused}
use Rattle.ps_modules.proofs.linking.link_structures.Goals as goal

pub returns-in-Err : goal.returns-in-Err
returns-in-Err g c = text_refused c.args.names.now c.args.limits.now c.args.ds.now c.args.taken c.in-Err.refusal _ c.in-Err.ensures

pub returns-in-Err-entry_of : goal.returns-in-Err-entry_of
returns-in-Err-entry_of g c = entry_refused c.args.names.now c.args.limits.now c.args.ds.now c.args.taken _ c.in-Ok.ensures.1 c.in-Err-entry_of.refusal _ c.in-Err-entry_of.ensures

pub returns-in-Ok-walk : goal.returns-in-Ok-walk
returns-in-Ok-walk g c = walk_so c.args.names.now c.args.limits.now c.args.ds.now c.args.taken _ c.in-Ok.ensures.1 _ _ _ c.in-Ok-walk.ensures

pub returns : goal.returns
returns g c = walk_so c.args.names.now c.args.limits.now c.args.ds.now c.args.taken _ c.in-Ok.ensures.1 _ _ _ c.in-Err-walk.ensures
