use Rattle.std.proofs.Common.{List, Option, None, subst, arith}
use Rattle.ps_meaning.specs.declared.values.RunValue.{RunValue}
use Rattle.ps_runs.specs.Effects.{defined_in}
use Rattle.ps_meaning.specs.Values.{pairs_of}
use Rattle.ps_meaning.specs.Source.{Program, run_memory}
use Rattle.ps_evaluator.specs.declared.machine.Machine.{Machine}
use Rattle.ps_evaluator.specs.InsideEvaluating.{Begins}
use Rattle.ps_evaluator.proofs.Entering.{comes_to}
use Rattle.ps_evaluator.proofs.evaluating.evaluate.Goals as goal

pub returns-in-Ok : goal.returns-in-Ok
returns-in-Ok c =
    let p : Program = record { kernel = c.args.kernel.now; globals = c.args.globals.now; memory = c.args.store } in
    let s : Machine = record { calls = c.args.calls; store = c.args.store; globals = c.in_ok-globals.globals; locals = c.new-locals.result; world = c.args.world; events = c.new-events.result; deepest = 0 } in
    comes_to p c.args.world c.args.calls c.main_place-at.result c.in_ok-start.start s c.run.new.machine c.in-Ok.ending c.finished.result
    c.main_place-at.ensures
    (λ i. record { calls = c.args.calls; cells = None; memory = run_memory c.args.store; globals = c.in_ok-globals.ensures i; locals = pairs_of (c.new-locals.ensures i); world = c.args.world; events = c.new-events.ensures i; deepest = 0 })
    (subst (λ (z : List (Option RunValue)). Begins c.args.kernel.now c.main_place-at.result (defined_in c.args.kernel.now.main z) c.in_ok-start.start) c.as_slice-2.ensures (c.in_ok-start.ensures c.args.kernel.now))
    (c.in-Ok.ensures c.args.calls (omega arith))
    c.finished.ensures
