use Rattle.std.proofs.Common.{sym, ap, ◌∙◌, Err}
use Rattle.ps_base.specs.declared.faults.Place.{Place}
use Rattle.ps_read.specs.Lexical.{taken}
use Rattle.ps_read.proofs.TokensComeByFronts.{at_gap, at_stop, at_breach, at_token, at_listed}
use Rattle.ps_read.proofs.reading.step.Goals as goal

pub returns-in-Gap-clause-ok : goal.returns-in-Gap-clause-ok
returns-in-Gap-clause-ok c =
    at_gap c.args.names.now c.next_front.new.names (c.args.done.now, c.args.stack.now) c.args.place c.args.text.now c.requires.some c.in-Gap.len (rw c.in-Gap.is at c.in_ok-front.ensures.within).0 (sym c.in-Gap.is ∙ c.in_ok-front.ensures.value) c.in_ok-front.ensures.noted

pub returns-in-Gap-clause-listed : goal.returns-in-Gap-clause-listed
returns-in-Gap-clause-listed c =
    let within = (rw c.in-Gap.is at c.in_ok-front.ensures.within).0 in
    at_listed c.args.names.now c.next_front.new.names c.in_ok-front.front c.args.text.now c.in-Gap.len within.0 within.1 (ap taken c.in-Gap.is) c.in_ok-front.ensures.value c.in_ok-front.ensures.noted

pub returns-in-Some-clause-err : goal.returns-in-Some-clause-err
returns-in-Some-clause-err c =
    c.refusal.ensures _ (at_breach c.args.names.now c.next_front.new.names (c.args.done.now, c.args.stack.now) c.args.place c.args.text.now c.requires.some c.in-Whole.len c.in-Whole.word c.in-Some.breach (rw c.in-Whole.is at c.in_ok-front.ensures.within).0 (sym c.in-Whole.is ∙ c.in_ok-front.ensures.value) c.in_ok-front.ensures.noted c.in-Some.ensures)

pub returns-in-Whole-clause-ok : goal.returns-in-Whole-clause-ok
returns-in-Whole-clause-ok c =
    at_token c.args.names.now c.next_front.new.names (c.args.done.now, c.args.stack.now) c.args.place c.args.text.now c.requires.some c.in-Whole.len c.in-Whole.word (c.take.new.done, c.take.new.stack) (rw c.in-Whole.is at c.in_ok-front.ensures.within).0 (sym c.in-Whole.is ∙ c.in_ok-front.ensures.value) c.in_ok-front.ensures.noted c.in-None.ensures c.in_ok-take-in-None.ensures

pub returns-in-Whole-clause-listed : goal.returns-in-Whole-clause-listed
returns-in-Whole-clause-listed c =
    let within = (rw c.in-Whole.is at c.in_ok-front.ensures.within).0 in
    at_listed c.args.names.now c.next_front.new.names c.in_ok-front.front c.args.text.now c.in-Whole.len within.0 within.1 (ap taken c.in-Whole.is) c.in_ok-front.ensures.value c.in_ok-front.ensures.noted

pub returns-clause-err : goal.returns-clause-err
returns-clause-err c =
    c.refusal-in-Stop.ensures _
    (at_stop c.args.names.now c.next_front.new.names (c.args.done.now, c.args.stack.now) c.args.place c.args.text.now c.requires.some c.in-Stop.len c.in-Stop.kind (rw c.in-Stop.is at c.in_ok-front.ensures.within).0 (sym c.in-Stop.is ∙ c.in_ok-front.ensures.value) c.in_ok-front.ensures.noted
    ∙ ap (λ (q : Place). Err (record { kind = c.in-Stop.kind; place = q })) (sym c.place_behind-place.ensures.value))
