use Rattle.std.proofs.Common.{sym, ap, ◌∙◌}
use Rattle.ps_runs.specs.Runs.{or_wrong}
use Rattle.ps_runs.specs.Effects.{defined_in}
use Rattle.ps_runs.specs.Locals.{found}
use Rattle.ps_meaning.specs.Values.{pairs_of}
use Rattle.ps_evaluator.specs.declared.machine.Deed.TheVariants.{Bind, Put, Unbind}
use Rattle.ps_evaluator.specs.InsideMachine.{Becomes, Gives, acts, state_of}
use Rattle.ps_evaluator.proofs.Joins.{if_ok_map}
use Rattle.ps_evaluator.proofs.deeds.do_deed.Goals as goal

pub returns-in-Fetch-clause-same : goal.returns-in-Fetch-clause-same
returns-in-Fetch-clause-same c =
    let k = c.args.kernel.now in
    let m = c.args.machine.now in
    if_ok_map (λ x. Gives k c.in-Fetch.at (defined_in c.in-Fetch.g c.as_slice.result.now) x)
    (λ x. Becomes k (λ f. acts k f c.args.deed) m x m) c.fetch.result
    (λ x h f. ap (λ z. acts k f z (state_of m)) c.in-Fetch.is
    ∙ ap (λ z. or_wrong c.in-Fetch.at (defined_in c.in-Fetch.g z) (state_of m)) (sym c.as_slice.ensures)
    ∙ ap (λ p. p (state_of m)) (sym (h f))) (c.fetch.ensures k)

pub returns-in-Look-clause-same : goal.returns-in-Look-clause-same
returns-in-Look-clause-same c =
    let k = c.args.kernel.now in
    let m = c.args.machine.now in
    if_ok_map (λ x. Gives k c.in-Look.at (found c.in-Look.x (pairs_of c.as_slice-in-Look.result.now)) x)
    (λ x. Becomes k (λ f. acts k f c.args.deed) m x m) c.look.result
    (λ x h f. ap (λ z. acts k f z (state_of m)) c.in-Look.is
    ∙ ap (λ z. or_wrong c.in-Look.at (found c.in-Look.x (pairs_of z)) (state_of m)) (sym c.as_slice-in-Look.ensures)
    ∙ ap (λ p. p (state_of m)) (sym (h f))) (c.look.ensures k)

pub returns-in-Put-clause-same : goal.returns-in-Put-clause-same
returns-in-Put-clause-same c =
    let k = c.args.kernel.now in
    let m = c.args.machine.now in
    if_ok_map (λ x. Becomes k (λ f. acts k f (Put c.in-Put.at c.in-Put.x c.in-Put.v)) m x c.put.new.machine)
    (λ x. Becomes k (λ f. acts k f c.args.deed) m x c.put.new.machine) c.put.result
    (λ x h f. ap (λ z. acts k f z (state_of m)) c.in-Put.is ∙ h f) (c.put.ensures.same k)

pub returns-in-Bind-clause-same : goal.returns-in-Bind-clause-same
returns-in-Bind-clause-same c =
    let k = c.args.kernel.now in
    let m = c.args.machine.now in
    if_ok_map (λ x. Becomes k (λ f. acts k f (Bind c.in-Bind.x c.in-Bind.v c.in-Bind.b c.in-Bind.depth)) m x c.bind.new.machine)
    (λ x. Becomes k (λ f. acts k f c.args.deed) m x c.bind.new.machine) c.bind.result
    (λ x h f. ap (λ z. acts k f z (state_of m)) c.in-Bind.is ∙ h f) (c.bind.ensures.same k)

pub returns-in-Unbind-clause-same : goal.returns-in-Unbind-clause-same
returns-in-Unbind-clause-same c =
    let k = c.args.kernel.now in
    let m = c.args.machine.now in
    if_ok_map (λ x. Becomes k (λ f. acts k f (Unbind c.in-Unbind.count c.in-Unbind.v)) m x c.unbind.new.machine)
    (λ x. Becomes k (λ f. acts k f c.args.deed) m x c.unbind.new.machine) c.unbind.result
    (λ x h f. ap (λ z. acts k f z (state_of m)) c.in-Unbind.is ∙ h f) (c.unbind.ensures.same k)
