use Rattle.std.proofs.Common.{◌≡◌, ◌∙◌, ◌-◌, ◌+◌, [], ◌∷◌, ap, sym, subst, arith, Err}
use Rattle.std.proofs.lemmas.List.{reverse-append}
use Rattle.std.proofs.lemmas.Result.{err_from_is_err_and}
use Rattle.std.specs.Prelude.{reverse}
use Rattle.ps_expansion.specs.Does.{Gives_by, state_of, task_of}
use Rattle.ps_hygiene.specs.Runs.{Goes}
use Rattle.ps_definitions.specs.Definitions.{note_one, passing}
use Rattle.ps_definitions.specs.InsideFirst.{passed}
use Rattle.ps_definitions.proofs.FormsAreNoted.{ends, used_up, goes, stops_at}
use Rattle.ps_definitions.proofs.first.note_all.Goals as goal

pub returns-in-None : goal.returns-in-None
returns-in-None c =
    let l = c.loop-step in
    record {
      wanted = sym l.invariant.goes_on
          ∙ ends (task_of c.args.task.now) c.args.state.now.hygiene.here (passing l.noted (reverse l.stack)) (state_of l.state) (c.args.steps - l.step) (ap reverse c.in-None.ensures.0);
      same = l.invariant.same;
    }

pub returns : goal.returns
returns c =
    let l = c.loop-step in
    record {
      wanted = sym l.invariant.goes_on
          ∙ used_up (task_of c.args.task.now) c.args.state.now.hygiene.here (passing l.noted (reverse l.stack)) (state_of l.state) (c.args.steps - l.step) (omega arith);
      same = l.invariant.same;
    }

pub loop-step-preserved : goal.loop-step-preserved
loop-step-preserved c =
    let l = c.loop-step in
    let task = task_of c.args.task.now in
    let here = c.args.state.now.hygiene.here in
    let f = c.in-Some.form in
    let fs = reverse c.pop.new.self in
    let y = passing c.note_one.new.noted (reverse c.note_one.new.stack) in
    let t = state_of c.note_one.new.state in
    let h = c.in_ok-note_one-in-Some.ensures in
    record {
      same = h.same ∙ l.invariant.same;
      goes_on = sym (goes task here (passing l.noted (reverse l.stack)) (state_of l.state) (c.args.steps - l.step) (c.args.steps - (l.step + 1)) f fs y t
          (omega arith) (ap reverse c.in-Some.ensures ∙ reverse-append c.pop.new.self (f ∷ []))
          (subst (λ env. note_one task env l.noted f fs (state_of l.state) ≡ Goes y t) l.invariant.same h.wanted))
          ∙ l.invariant.goes_on;
    }

pub returns-in_err-note_one-in-Some : goal.returns-in_err-note_one-in-Some
returns-in_err-note_one-in-Some c =
    let l = c.loop-step in
    let task = task_of c.args.task.now in
    let here = c.args.state.now.hygiene.here in
    let f = c.in-Some.form in
    let fs = reverse c.pop.new.self in
    let see = passed c.note_one.new.noted c.note_one.new.stack in
    let now = c.note_one.new.state in
    let e = c.in_err-note_one-in-Some.field-0.0 in
    let q = err_from_is_err_and c.from_residual.result c.from_residual.ensures.1 in
    rw (q.1, q.2) (stops_at task here (passing l.noted (reverse l.stack)) (state_of l.state) (c.args.steps - l.step) f fs e _ see now now here
    (omega arith) (ap reverse c.in-Some.ensures ∙ reverse-append c.pop.new.self (f ∷ [])) l.invariant.goes_on
    (subst (λ env. Gives_by see (Err e) (note_one task env l.noted f fs (state_of l.state)) env now) l.invariant.same c.in_err-note_one-in-Some.ensures))
