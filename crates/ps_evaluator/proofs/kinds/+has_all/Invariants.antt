use Rattle.ps_evaluator.proofs.kinds.+has_all.Given as goal

abbrev pub decreases-has_all : goal.decreases-has_all
decreases-has_all l = l.n
