use Rattle.std.proofs.Common.{◌≡◌, ◌∙◌, sym, subst, Err, Some, None}
use Rattle.std.proofs.lemmas.Result.{err_from_is_err_and}
use Rattle.ps_pattern.specs.declared.syntax.Syntax.{Syntax}
use Rattle.ps_hygiene.specs.Answers.{or_given, Gives}
use Rattle.ps_hygiene.specs.Forms.{shape, used}
use Rattle.ps_hygiene.specs.Transcriptions.{transcribed}
use Rattle.ps_hygiene.specs.Runs.{Goes}
use Rattle.ps_hygiene.proofs.FormsSettle.{made_more, made_end, stands, goes_on, settled_stops}
use Rattle.ps_hygiene.proofs.hygiene.Hygiene.settle.Goals as goal

pub returns-in-None-clause-answer : goal.returns-in-None-clause-answer
returns-in-None-clause-answer c =
    let here = c.args.self.now.here in
    let f = or_given c.args.form.now c.uses.made in
    let w = c.uses.self.world in
    let none : used (shape w here f) ≡ None = (cc) in
    record { wanted = sym c.uses.invariant.goes_on ∙ stands c.args.limits.now here f w none; same = c.uses.invariant.here }

pub returns-in-None-clause-used : goal.returns-in-None-clause-used
returns-in-None-clause-used c =
    let none : used (shape c.uses.self.world c.args.self.now.here (or_given c.args.form.now c.uses.made)) ≡ None = (cc) in
    made_end c.args.form.now c.uses.made c.uses.self c.args.self.now none c.uses.invariant.made

pub uses-preserved : goal.uses-preserved
uses-preserved c =
    let here = c.args.self.now.here in
    let f = or_given c.args.form.now c.uses.made in
    let w = c.uses.self.world in
    let v = c.transcribed.new.self.world in
    let a = c.in_ok-g-in-Some.ensures.answer in
    let n = c.in_ok-g-in-Some.ensures.counted in
    let some : used (shape w here f) ≡ Some c.in-Some.number = (cc) in
    let once : transcribed c.args.limits.now here f c.in-Some.number w ≡ Goes c.in_ok-g-in-Some.g v =
    subst (λ env. transcribed c.args.limits.now env f c.in-Some.number w ≡ Goes c.in_ok-g-in-Some.g v) c.uses.invariant.here
    (subst (λ f. transcribed c.args.limits.now c.uses.self.here f c.in-Some.number w ≡ Goes c.in_ok-g-in-Some.g v) c.held-now.ensures a.wanted) in
    record {
      here = a.same ∙ c.uses.invariant.here;
      made = made_more c.args.form.now c.in_ok-g-in-Some.g c.uses.made c.uses.self c.args.self.now c.transcribed.new.self c.in-Some.number some c.uses.invariant.made;
      goes_on = sym (goes_on c.args.limits.now here f c.in_ok-g-in-Some.g c.in-Some.number w v some once n.0 n.1) ∙ c.uses.invariant.goes_on;
    }

pub returns-in_err-g-in-Some-clause-answer : goal.returns-in_err-g-in-Some-clause-answer
returns-in_err-g-in-Some-clause-answer c =
    let here = c.args.self.now.here in
    let f = or_given c.args.form.now c.uses.made in
    let w = c.uses.self.world in
    let q = err_from_is_err_and c.from_residual.result c.from_residual.ensures.1 in
    let some : used (shape w here f) ≡ Some c.in-Some.number = (cc) in
    let once : transcribed c.args.limits.now c.uses.self.here c.held-now.result.now c.in-Some.number w ≡ transcribed c.args.limits.now here f c.in-Some.number w = (cc) in
    rw (q.1, q.2) (rw (← c.uses.invariant.goes_on)
    (settled_stops c.args.limits.now here f c.args.form.now c.in-Some.number w c.in_err-g-in-Some.field-0.0 c.uses.self.here here c.transcribed.new.self c.transcribed.new.self some
    (subst (λ s. Gives {A = Syntax} (Err c.in_err-g-in-Some.field-0.0) s c.uses.self.here c.transcribed.new.self) once c.in_err-g-in-Some.ensures.answer)))
