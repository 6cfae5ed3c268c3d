use Rattle.std.proofs.Common.{rules, ◌≡◌, ◌<◌, length, get_or, false, ap, sym, ◌∙◌, arith}
use Rattle.std.specs.Prelude.{is_some}
use Rattle.std.proofs.lemmas.List.{length-map}
use Rattle.ps_modules.specs.BuiltIn.{built_in}
use Rattle.ps_modules.specs.Shapes.{text_of}
use Rattle.ps_modules.specs.Texts.{place_in}
use Rattle.ps_modules.proofs.Gathering.{get_some}
use Rattle.ps_modules.proofs.OpenedNamesLead.{leads_nowhere, leads_in_circle, leads_to_new}
use Rattle.ps_modules.proofs.walking.leading.Goals as goal

pub returns-then-as_slice-j : goal.returns-then-as_slice-j
returns-then-as_slice-j c =
    let built : c.is_some.result ≡ is_some (built_in (text_of c.args.names.now c.args.opened.name)) = search rules in
    let at = ap (λ ns. place_in ns c.args.opened.name.0) (sym c.requires.indexed.structures) ∙ sym c.in-Some.ensures.is in
    let x = ap length c.requires.indexed.structures in let y = length-map c.args.text.now.shapes (λ s. s.name.name.0) in let z = c.in-Some.ensures.within in
    let below : c.in-Some.j < length c.args.text.now.shapes = omega arith in
    let w = c.requires.all in
    let met = get_some c.args.met.now c.in-Some.j false (omega arith) in
    leads_in_circle c.args.text.now.shapes c.args.opened c.args.names.now c.args.walked.now c.args.met.now c.is_some.result built c.if-is_some.false c.in-Some.j at
    c.is_some-in-Some.result (c.is_some-in-Some.ensures ∙ ap is_some c.place-in-Some.ensures.is) c.if-is_some-2.false below _ met
    (ap (λ ms. get_or ms c.in-Some.j false) (sym c.as_slice.ensures) ∙ c.if-as_slice-j.true) c.module.result c.module.ensures

pub returns-else-as_slice-j : goal.returns-else-as_slice-j
returns-else-as_slice-j c =
    let built : c.is_some.result ≡ is_some (built_in (text_of c.args.names.now c.args.opened.name)) = search rules in
    let at = ap (λ ns. place_in ns c.args.opened.name.0) (sym c.requires.indexed.structures) ∙ sym c.in-Some.ensures.is in
    let x = ap length c.requires.indexed.structures in let y = length-map c.args.text.now.shapes (λ s. s.name.name.0) in let z = c.in-Some.ensures.within in
    let below : c.in-Some.j < length c.args.text.now.shapes = omega arith in
    let w = c.requires.all in
    let met = get_some c.args.met.now c.in-Some.j false (omega arith) in
    leads_to_new c.args.text.now.shapes c.args.opened c.args.names.now c.args.walked.now c.args.met.now c.is_some.result built c.if-is_some.false c.in-Some.j at
    c.is_some-in-Some.result (c.is_some-in-Some.ensures ∙ ap is_some c.place-in-Some.ensures.is) c.if-is_some-2.false below _ met
    (ap (λ ms. get_or ms c.in-Some.j false) (sym c.as_slice.ensures) ∙ c.if-as_slice-j.false)

pub returns-in-None : goal.returns-in-None
returns-in-None c =
    let built : c.is_some.result ≡ is_some (built_in (text_of c.args.names.now c.args.opened.name)) = search rules in
    λ path so. leads_nowhere c.args.text.now.shapes c.args.opened c.args.names.now c.args.walked.now c.args.met.now c.is_some.result built c.if-is_some.false
    (ap (λ ns. place_in ns c.args.opened.name.0) (sym c.requires.indexed.structures) ∙ sym c.in-None.ensures.is) c.module-in-None.result c.module-in-None.ensures path
