use Rattle.std.proofs.Common.{refl, subst, Err}
use Rattle.std.proofs.lemmas.Result.{err_from_is_err_and}
use Rattle.ps_base.specs.declared.faults.FormKind.TheVariants.{BadForm}
use Rattle.ps_derived.specs.Parts.{Answers}
use Rattle.ps_derived.specs.Seen.{seen}
use Rattle.ps_hygiene.specs.declared.hygiene.Hygiene.{Hygiene}
use Rattle.ps_expansion.specs.Apart.{taken_apart}
use Rattle.ps_expansion.specs.Does.{state_of, task_of}
use Rattle.ps_expansion.proofs.Steps.{known_goes, told}
use Rattle.ps_expansion.proofs.expansion.Expansion.parts.Goals as goal

pub returns-in_err-parts : goal.returns-in_err-parts
returns-in_err-parts c =
    let e = c.in_err-parts.field-0.0 in
    let at = c.args.form.now.place in
    let apart = λ (h : Hygiene). taken_apart (task_of c.args.task.now) h.world h.here c.args.core c.args.form.now in
    let h = subst (λ (h : Hygiene). Answers seen at (apart h) (Err e)) c.around.ensures c.in_err-parts.ensures in
    let q = err_from_is_err_and c.from_residual.result c.from_residual.ensures.1 in
    rw (q.1, q.2) (told seen at (apart c.args.self.now.hygiene) e c.args.self.now c.args.self.now.hygiene.here h)

pub returns : goal.returns
returns c =
    let h = rw c.around.ensures at c.in_ok-parts.ensures in
    record {
      wanted = known_goes BadForm c.args.form.now.place (taken_apart (task_of c.args.task.now) c.args.self.now.hygiene.world c.args.self.now.hygiene.here c.args.core c.args.form.now) (seen c.in_ok-parts.field-0) (state_of c.args.self.now) h;
      same = refl;
    }
