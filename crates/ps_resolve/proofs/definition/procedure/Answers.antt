use Rattle.std.proofs.Common.{rules}
use Rattle.ps_resolve.specs.InsideValues.{scope_of}
use Rattle.ps_resolve.proofs.Bodies.{refuses_writes, refuses_value, whole_procedure}
use Rattle.ps_resolve.proofs.definition.procedure.Goals as goal

pub returns-in_err-writes : goal.returns-in_err-writes
returns-in_err-writes c =
    let all = refuses_writes c.args.scope.now.names.now c.args.place c.args.name (scope_of c.args.scope.now) c.args.body.now c.in-Some.front.now c.in-Some.last.now c.in-Some.ensures.cases.0 c.in_err-writes.field-0.0 c.in_err-writes.ensures.by in
    search rules

pub returns-in_err-value : goal.returns-in_err-value
returns-in_err-value c =
    let all = refuses_value c.args.scope.now.names.now c.args.place c.args.name (scope_of c.args.scope.now) c.args.body.now c.in-Some.front.now c.in-Some.last.now c.in-Some.ensures.cases.0 c.in_ok-writes.writes c.in_ok-writes.ensures.by c.in_err-value.field-0.0 c.in_err-value.ensures.by in
    search rules

pub returns : goal.returns
returns c = record { by = whole_procedure c.args.scope.now.names.now c.args.place c.args.name (scope_of c.args.scope.now) c.args.body.now c.in-Some.front.now c.in-Some.last.now c.in-Some.ensures.cases.0 c.in_ok-writes.writes c.in_ok-writes.ensures.by c.in_ok-value.value c.len.result c.in_ok-value.ensures.by c.len.ensures }
