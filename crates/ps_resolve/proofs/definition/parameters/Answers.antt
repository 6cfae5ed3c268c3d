use Rattle.std.proofs.Common.{sym, ◌+◌, take, subst, arith, rules}
use Rattle.ps_base.specs.Names.{AreDistinct}
use Rattle.ps_resolve.specs.InsideDefinitions.{AreParameters}
use Rattle.ps_resolve.specs.InsideAnswers.{IsNotProgram}
use Rattle.ps_resolve.proofs.Parameters.{one_parameter, next_parameter, new_parameter}
use Rattle.ps_resolve.proofs.definition.parameters.Goals as goal

pub returns-in_default-clause-unread : goal.returns-in_default-clause-unread
returns-in_default-clause-unread c = λ u full all.
    let n = next_parameter c.args.names.now c.args.words.now c.loop-datum.datum-index c.datum-item.result c.loop-datum-test.true c.datum-item.is c.loop-datum.parameters c.loop-datum.invariant full all in
    let no = c.in_default.ensures n.0 n.1 in
    let yes = n.2 in
    cc

pub returns-then-len-ge-PARAMETERS-clause-unread : goal.returns-then-len-ge-PARAMETERS-clause-unread
returns-then-len-ge-PARAMETERS-clause-unread c = λ u full all.
    let n = next_parameter c.args.names.now c.args.words.now c.loop-datum.datum-index c.datum-item.result c.loop-datum-test.true c.datum-item.is c.loop-datum.parameters c.loop-datum.invariant full all in
    omega (arith, n.4)

pub returns-in_err-add_new-clause-unread : goal.returns-in_err-add_new-clause-unread
returns-in_err-add_new-clause-unread c = λ u full all.
    let is : IsNotProgram c.in_err-add_new.field-0.0 = search rules in
    c.in_err-add_new.ensures.refused is (new_parameter c.args.names.now c.args.words.now c.loop-datum.datum-index c.datum-item.result c.loop-datum-test.true c.datum-item.is c.loop-datum.parameters c.loop-datum.invariant full all c.in-Some.name.now c.in-Some.ensures.1)

pub loop-datum-preserved : goal.loop-datum-preserved
loop-datum-preserved c =
    let more = c.in_ok-add_new.ensures.added in
    subst
    (AreParameters c.args.names.now (take (c.loop-datum.datum-index + 1) c.args.words.now))
    (sym more)
    (one_parameter c.args.names.now c.args.words.now c.loop-datum.datum-index c.datum-item.result c.loop-datum-test.true c.datum-item.is c.loop-datum.parameters c.loop-datum.invariant c.in-Some.name.now c.in-Some.ensures.1 c.in-Some.ensures.2 (omega arith) (subst AreDistinct more c.in_ok-add_new.ensures.is_distinct))
