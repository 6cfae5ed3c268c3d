use Rattle.std.proofs.Common.{rules}
use Rattle.ps_modules.specs.Shapes.{form, form_of, fronted, place_of}
use Rattle.ps_modules.proofs.Gathering.{then_ok, then_stops, says_err, says_same}
use Rattle.ps_modules.proofs.forms.form_of.Goals as goal

pub returns-in_err-front : goal.returns-in_err-front
returns-in_err-front c =
    let d = c.args.d.now in
    let all = says_err (fronted d) (form c.args.names.now d) c.in_err-front.field-0.0 (λ p h. then_stops (fronted d) (λ f. form_of c.args.names.now (place_of d) f.0 f.1) p h) c.in_err-front.ensures in
    search rules

pub returns : goal.returns
returns c =
    let d = c.args.d.now in
    says_same _ _ c.form_by.result (then_ok (fronted d) _ (λ f. form_of c.args.names.now (place_of d) f.0 f.1) c.in_ok-front.ensures) c.form_by.ensures
