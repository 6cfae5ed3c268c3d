use Rattle.ps_groups.proofs.SearchesEnd.{begun, popped, ended_search}
use Rattle.ps_groups.proofs.finding.search_from.Goals as goal

pub loop-frame-init : goal.loop-frame-init
loop-frame-init c = begun c.args.rows.now c.args.node c.args.search.now c.requires.search c.requires.node c.requires.new c.enter.new.search c.in_ok-enter.ensures

pub turn-requires-clause-search : goal.turn-requires-clause-search
turn-requires-clause-search c = popped c.args.rows.now c.loop-frame.search c.pop.new.self c.in-Some.frame c.in-Some.ensures c.loop-frame.invariant.0

pub returns : goal.returns
returns c = ended_search c.args.rows.now c.args.node c.loop-frame.search c.pop.new.self c.in_default.ensures.0 c.in_default.ensures.1 c.loop-frame.invariant
