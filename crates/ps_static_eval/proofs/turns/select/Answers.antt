use Rattle.std.proofs.Common.{refl}
use Rattle.std.specs.Int.{w64}
use Rattle.std.proofs.lemmas.Int.{to_z-of_z}
use Rattle.ps_meaning.specs.Eval.{compile}
use Rattle.byte_store.specs.Outcome.{Wrong as WrongAt}
use Rattle.ps_runs.specs.Runs.{stop, Ends}
use Rattle.ps_static_eval.specs.declared.machine.Control.TheVariants.{Work, Halted}
use Rattle.ps_static_eval.specs.declared.machine.Halt.TheVariants.{Wrong}
use Rattle.ps_static_eval.specs.InsideMachine.{selected}
use Rattle.ps_static_eval.proofs.Joins.{same_run}
use Rattle.ps_static_eval.proofs.FormsGoDown.{selects_body, selects_nothing}
use Rattle.ps_static_eval.proofs.turns.select.Goals as goal

pub returns-in-Some-clause-same : goal.returns-in-Some-clause-same
returns-in-Some-clause-same c = λ k f vs cells m.
    same_run k f (selected k f c.args.at c.args.kind c.args.branches.now c.args.last.now c.args.v) (compile k f c.body_for.result.now 0) cells m (Work c.body_for.result) vs cells m
    (selects_body k f c.args.at c.args.kind c.args.branches.now c.args.last.now c.args.v c.label_of.result c.in-Some.label c.body_for.result.now (c.label_of.ensures k) c.in-Some.is
    (let t = rw c.in-Some.is at c.label_of.type_inv in rw (to_z-of_z w64 c.in-Some.label (record { sfits = t.1.1.1.1.0.1 })) at c.body_for.ensures.is))
    refl

pub returns-in-None-clause-same : goal.returns-in-None-clause-same
returns-in-None-clause-same c = λ k f vs cells m.
    same_run k f (selected k f c.args.at c.args.kind c.args.branches.now c.args.last.now c.args.v) (stop (Ends (WrongAt c.args.at))) cells m (Halted (Wrong c.args.at)) vs cells m
    (selects_nothing k f c.args.at c.args.kind c.args.branches.now c.args.last.now c.args.v c.label_of.result (c.label_of.ensures k) c.in-None.is)
    refl
