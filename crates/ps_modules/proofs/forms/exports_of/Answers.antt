use Rattle.std.proofs.Common.{rules, ◌≡◌, List, ◌++◌, [], append_assoc, append-nil, refl, arith}
use Rattle.ps_modules.specs.declared.types.Export.{Export}
use Rattle.ps_modules.specs.Shapes.{item, items}
use Rattle.ps_modules.proofs.Gathering.{joined_from, joined_goes_on, joined_breaks, joined_ends, adds_says}
use Rattle.ps_modules.proofs.forms.exports_of.Goals as goal

pub loop-d-init : goal.loop-d-init
loop-d-init c =
    let e : c.new-exports.result ≡ [] = search rules in
    joined_from [] (λ (x : List Export). λ (y : List Export). x ++ y) _ _ [] _ e

pub loop-d-preserved : goal.loop-d-preserved
loop-d-preserved c = joined_goes_on (λ (x : List Export). λ (y : List Export). x ++ y) append_assoc _ _ _ _ _ _ c.loop-d.invariant _ c.loop-d-test.true c.d-item.is _ c.in_ok-add_item.ensures

pub returns-in_err-add_item : goal.returns-in_err-add_item
returns-in_err-add_item c =
    let all = adds_says (item c.args.names.now c.d-item.result) (items c.args.names.now c.args.ds.now) (λ more. c.loop-d.exports ++ more) c.add_item.new.exports c.in_err-add_item.field-0.0
    (joined_breaks (λ (x : List Export). λ (y : List Export). x ++ y) append_assoc _ _ _ _ _ _ c.loop-d.invariant _ c.loop-d-test.true c.d-item.is) c.in_err-add_item.ensures in
    search rules

pub returns : goal.returns
returns c = joined_ends (λ (x : List Export). λ (y : List Export). x ++ y) append_assoc _ _ _ _ _ c.loop-d.invariant (λ b. refl) append-nil (omega arith)
