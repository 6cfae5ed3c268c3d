use Rattle.ps_static_eval.proofs.Joins.{empty_of, gather_none, gather_first}
use Rattle.ps_static_eval.proofs.turns.gather.Goals as goal

pub returns-in-None-clause-same : goal.returns-in-None-clause-same
returns-in-None-clause-same g c = λ k f m. gather_none k f c.args.job c.args.at c.args.es.now c.args.frames.now c.wait.new.self c.clear.new.self.items m (empty_of c.args.es.now c.in-None.ensures.cases) c.clear.ensures.items c.in_ok-wait.ensures

pub returns-in_ok-wait-in-Some-clause-same : goal.returns-in_ok-wait-in-Some-clause-same
returns-in_ok-wait-in-Some-clause-same g c = λ k f m. gather_first k f c.args.job c.args.at c.args.es.now c.in-Some.e c.in-Some.rest c.args.frames.now c.wait.new.self c.wait-in-Some.new.self c.args.given.now.items m
    c.in-Some.ensures.cases c.in_ok-wait.ensures c.in_ok-wait-in-Some.ensures
