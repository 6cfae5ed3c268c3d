use Rattle.std.proofs.Common.{◌≡◌, drop, []}
use Rattle.std.specs.List.{fold, flat_map}
use Rattle.ps_show.specs.Bindings.{met, binds, bound_locals}
use Rattle.ps_kernel.specs.Texts.{expr_of}
use Rattle.ps_show.proofs.survey.locals_of.Given as goal

-- the rest is met as all are
abbrev pub invariant-loop-form : goal.invariant-loop-form
invariant-loop-form l = fold met l.locals (flat_map (λ f. binds l.kernel 200 (expr_of f)) (drop l.form-index l.kernel.forms)) ≡ fold met [] (bound_locals l.kernel)
