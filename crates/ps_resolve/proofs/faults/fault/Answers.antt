use Rattle.std.proofs.Common.{map, None, Some, sym, ap, ◌∙◌, arith}
use Rattle.std.specs.Prelude.{if◌then◌else◌}
use Rattle.ps_plain.specs.Meaning.{start_place}
use Rattle.ps_resolve.specs.InsideHeads.{head_at}
use Rattle.ps_resolve.proofs.FaultForms.{length-weights, name_fault, last_fault}
use Rattle.ps_resolve.proofs.faults.fault.Goals as goal

pub procedures_of-requires-clause-few : goal.procedures_of-requires-clause-few
procedures_of-requires-clause-few c = omega (arith, length-weights c.args.forms.now, c.requires)

pub names_fault-requires-clause-few : goal.names_fault-requires-clause-few
names_fault-requires-clause-few c = omega (arith, length-weights c.args.forms.now, c.requires)

pub returns-in-Some-2 : goal.returns-in-Some-2
returns-in-Some-2 c =
    let names = c.args.names.now in
    let forms = c.args.forms.now in
    name_fault names forms (sym c.is_empty.ensures ∙ c.if-is_empty.false) (sym c.shapes_fault.ensures ∙ c.in_default.is) c.in_ok-procedures.ensures.heads c.in-Some-2.at (sym c.in-Some-2.is ∙ c.in_ok-at.ensures (map (head_at names) forms) c.in_ok-procedures.ensures.knows)

pub returns-then-has_main : goal.returns-then-has_main
returns-then-has_main c =
    let names = c.args.names.now in
    let forms = c.args.forms.now in
    ap (λ b. if b then None else Some start_place) (sym c.if-has_main.true)
    ∙ last_fault names forms (sym c.is_empty.ensures ∙ c.if-is_empty.false) (sym c.shapes_fault.ensures ∙ c.in_default.is) c.in_ok-procedures.ensures.heads (sym c.in_default-2.is ∙ c.in_ok-at.ensures (map (head_at names) forms) c.in_ok-procedures.ensures.knows) c.has_main.result c.has_main.ensures

pub returns : goal.returns
returns c =
    let names = c.args.names.now in
    let forms = c.args.forms.now in
    ap (λ b. if b then None else Some start_place) (sym c.if-has_main.false)
    ∙ last_fault names forms (sym c.is_empty.ensures ∙ c.if-is_empty.false) (sym c.shapes_fault.ensures ∙ c.in_default.is) c.in_ok-procedures.ensures.heads (sym c.in_default-2.is ∙ c.in_ok-at.ensures (map (head_at names) forms) c.in_ok-procedures.ensures.knows) c.has_main.result c.has_main.ensures
