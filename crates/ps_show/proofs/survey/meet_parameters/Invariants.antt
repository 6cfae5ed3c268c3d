use Rattle.std.proofs.Common.{◌≡◌, drop}
use Rattle.std.specs.List.{fold}
use Rattle.ps_show.specs.Bindings.{met}
use Rattle.ps_show.proofs.survey.meet_parameters.Given as goal

-- the rest is met as all are
abbrev pub invariant-loop-parameter : goal.invariant-loop-parameter
invariant-loop-parameter l = fold met l.locals (drop l.parameter-index l.parameters) ≡ fold met l.fn.locals l.parameters
