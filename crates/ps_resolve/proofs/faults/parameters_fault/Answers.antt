use Rattle.std.proofs.Common.{map, arith}
use Rattle.ps_plain.specs.Faults.{flaws, parameters_names}
use Rattle.std.proofs.Common.{[]}
use Rattle.ps_resolve.proofs.FaultParameters.{next_fault, next_words, next_few}
use Rattle.ps_resolve.proofs.faults.parameters_fault.Goals as goal

pub loop-count-preserved : goal.loop-count-preserved
loop-count-preserved c =
    let names = c.args.names.now in
    let ds = c.args.parameters.now in
    let i = c.loop-count.count in
    let d = c.index-parameters-count.result in
    let old = c.loop-count.before in
    let new = c.is_among.new.before in
    let there = c.in_ok-is_among.field-0 in
    record {
      fault = next_fault names ds i d c.loop-count-test.true c.index-parameters-count.is old new there c.in_ok-is_among.ensures c.if-branch.false c.if-count-ge-PARAMETERS.false (parameters_names 0 [] (map (flaws names) ds)) c.loop-count.invariant.fault;
      added = next_words names ds i d c.loop-count-test.true c.index-parameters-count.is old new there c.in_ok-is_among.ensures c.if-branch.false c.loop-count.invariant.added;
      few = next_few names ds i d c.loop-count-test.true c.index-parameters-count.is old new there c.in_ok-is_among.ensures c.if-branch.false c.loop-count.invariant.few;
      low = omega arith;
    }
