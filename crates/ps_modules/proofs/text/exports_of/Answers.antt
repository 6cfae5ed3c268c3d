use Rattle.std.proofs.Common.{rules, ◌<◌, ◌≤◌, length, arith}
use Rattle.ps_modules.proofs.NamesLead.{leads_to_list, leads_on, leads_nowhere, leads_too_far, listed_says}
use Rattle.ps_modules.proofs.text.exports_of.Goals as goal

pub returns-in-Listed : goal.returns-in-Listed
returns-in-Listed c = leads_to_list _ _ _ _ _ c.loop-step.invariant c.in-Listed.exports c.in-Listed.is c.listed.result (listed_says _ _ c.listed.ensures)

pub returns-in_err-at-in-Named : goal.returns-in_err-at-in-Named
returns-in_err-at-in-Named c =
    let x = c.loop-step-test.true in let y = c.len-step-end.ensures in
    let lt : c.loop-step._step < length c.args.text.now.definitions = omega arith in
    let all = leads_nowhere _ _ _ _ _ c.loop-step.invariant c.in-Named.name c.in-Named.place c.in-Named.is lt c.in_err-at-in-Named.field-0.0 c.in_err-at-in-Named.ensures in
    search rules

pub loop-step-preserved : goal.loop-step-preserved
loop-step-preserved c =
    let x = c.loop-step-test.true in let y = c.len-step-end.ensures in
    let lt : c.loop-step._step < length c.args.text.now.definitions = omega arith in
    leads_on _ _ _ _ _ c.loop-step.invariant c.in-Named.name c.in-Named.place c.in-Named.is lt _ _ c.in_ok-at-in-Named.ensures

pub returns-in-Listed-at : goal.returns-in-Listed-at
returns-in-Listed-at c = leads_to_list _ _ _ _ _ c.loop-step.invariant c.in-Listed-at.exports c.in-Listed-at.is c.listed-in-Listed-at.result (listed_says _ _ c.listed-in-Listed-at.ensures)

pub returns : goal.returns
returns c =
    let x = c.loop-step-test.false in let y = c.len-step-end.ensures in
    let past : length c.args.text.now.definitions ≤ c.loop-step._step = omega arith in
    leads_too_far _ _ _ _ _ c.loop-step.invariant c.in-Named-at.field-0 c.in-Named-at.place c.in-Named-at.is past
