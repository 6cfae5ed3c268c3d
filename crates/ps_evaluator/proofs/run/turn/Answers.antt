use Rattle.std.proofs.Common.{ap, ◌∙◌}
use Rattle.ps_runs.specs.Runs.{and_then}
use Rattle.ps_meaning.specs.Eval.{run_enters}
use Rattle.ps_evaluator.specs.declared.machine.Control.TheVariants.{Work, Inside}
use Rattle.ps_evaluator.specs.InsideMachine.{Becomes, Continues, Moves, Resumes, Same, acts, plug, rest, state_of}
use Rattle.ps_evaluator.proofs.Joins.{if_ok_map, plug_push}
use Rattle.ps_evaluator.proofs.run.turn.Goals as goal

pub returns-in-Work-clause-same : goal.returns-in-Work-clause-same
returns-in-Work-clause-same c =
    let k = c.args.kernel.now in
    let s = state_of c.args.machine.now in
    if_ok_map (λ x. Continues k (Work c.in-Work.e c.in-Work.depth) c.args.frames.now.items x c.work.new.frames.items)
    (λ x. Same k c.args.control c.args.frames.now.items c.args.machine.now x c.work.new.frames.items c.args.machine.now) c.work.result
    (λ x h n le. let f = run_enters k n in ap (λ z. rest k f z c.args.frames.now.items s) c.in-Work.is ∙ ap (λ p. p s) (h f)) c.work.ensures

pub returns-in-Act-clause-same : goal.returns-in-Act-clause-same
returns-in-Act-clause-same c =
    let k = c.args.kernel.now in
    let s = state_of c.args.machine.now in
    if_ok_map (λ x. Becomes k (λ f. acts k f c.in-Act.deed) c.args.machine.now x c.do_deed.new.machine)
    (λ x. Same k c.args.control c.args.frames.now.items c.args.machine.now x c.args.frames.now.items c.do_deed.new.machine) c.do_deed.result
    (λ x h n le. let f = run_enters k n in
    ap (λ z. rest k f z c.args.frames.now.items s) c.in-Act.is
    ∙ ap (λ r. and_then r (plug k f c.args.frames.now.items)) (h f)) c.do_deed.ensures.same

pub returns-in-Inside-clause-same : goal.returns-in-Inside-clause-same
returns-in-Inside-clause-same c =
    let k = c.args.kernel.now in
    let s = state_of c.args.machine.now in
    if_ok_map (λ x. Moves k (Inside c.in-Inside.locals c.in-Inside.body c.in-Inside.depth) c.args.frames.now.items c.args.machine.now x c.inside.new.frames.items c.inside.new.machine)
    (λ x. Same k c.args.control c.args.frames.now.items c.args.machine.now x c.inside.new.frames.items c.inside.new.machine) c.inside.result
    (λ x h n le. let f = run_enters k n in ap (λ z. rest k f z c.args.frames.now.items s) c.in-Inside.is ∙ h f) (c.inside.ensures.same k)

pub returns-in-Some-clause-same : goal.returns-in-Some-clause-same
returns-in-Some-clause-same c =
    let k = c.args.kernel.now in
    let s = state_of c.args.machine.now in
    if_ok_map (λ x. Resumes k c.in-Some.frame c.in-Give.v c.pop.new.self.items x c.resume.new.frames.items)
    (λ x. Same k c.args.control c.args.frames.now.items c.args.machine.now x c.resume.new.frames.items c.args.machine.now) c.resume.result
    (λ x h n le. let f = run_enters k n in
    ap (λ z. rest k f z c.args.frames.now.items s) c.in-Give.is
    ∙ ap (λ z. plug k f z c.in-Give.v s) c.in-Some.ensures.items
    ∙ ap (λ p. p s) (plug_push k f c.pop.new.self.items c.in-Some.frame c.in-Give.v)
    ∙ ap (λ p. p s) (h f)) (c.resume.ensures k)
