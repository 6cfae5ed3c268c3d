use Rattle.std.proofs.Common.{subst}
use Rattle.ps_static_eval.specs.InsideMachine.{EndsSo, left}
use Rattle.ps_static_eval.proofs.FormsFollow.{defined, define_halts, done, do_halts}
use Rattle.ps_static_eval.proofs.forms.run_form.Goals as goal

pub returns-in-Gave-clause-same : goal.returns-in-Gave-clause-same
returns-in-Gave-clause-same g c =
    defined c.args.kernel.now c.args.form.now c.in-Define.g c.in-Define.e c.lambda_in.result c.in-Gave.v (left c.args.machine.now) (left c.run.new.machine) c.set_value.new.globals c.in-Define.is c.lambda_in.ensures c.in-None.is
    (subst (λ z. EndsSo c.args.kernel.now c.in-Define.e (left c.args.machine.now) z (left c.run.new.machine)) c.in-Gave.is c.in_ok-v-in-None.ensures.same) c.set_value.ensures

pub returns-in-Halted-clause-same : goal.returns-in-Halted-clause-same
returns-in-Halted-clause-same g c =
    define_halts c.args.kernel.now c.args.form.now c.in-Define.g c.in-Define.e c.lambda_in.result c.in-Halted.h (left c.args.machine.now) (left c.run.new.machine) c.in-Define.is c.lambda_in.ensures c.in-None.is
    (subst (λ z. EndsSo c.args.kernel.now c.in-Define.e (left c.args.machine.now) z (left c.run.new.machine)) c.in-Halted.is c.in_ok-v-in-None.ensures.same)

pub returns-in-Gave-2-clause-same : goal.returns-in-Gave-2-clause-same
returns-in-Gave-2-clause-same g c =
    done c.args.kernel.now c.args.form.now c.in-Do.e c.in-Gave-2.field-0 (left c.args.machine.now) (left c.run-in-Do.new.machine) c.in-Do.is
    (subst (λ z. EndsSo c.args.kernel.now c.in-Do.e (left c.args.machine.now) z (left c.run-in-Do.new.machine)) c.in-Gave-2.is c.in_ok-run-in-Do.ensures.same)

pub returns-in-Halted-2-clause-same : goal.returns-in-Halted-2-clause-same
returns-in-Halted-2-clause-same g c =
    do_halts c.args.kernel.now c.args.form.now c.in-Do.e c.in-Halted-2.h (left c.args.machine.now) (left c.run-in-Do.new.machine) c.in-Do.is
    (subst (λ z. EndsSo c.args.kernel.now c.in-Do.e (left c.args.machine.now) z (left c.run-in-Do.new.machine)) c.in-Halted-2.is c.in_ok-run-in-Do.ensures.same)
