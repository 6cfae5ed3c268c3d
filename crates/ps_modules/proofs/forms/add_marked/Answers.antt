use Rattle.std.proofs.Common.{rules, ◌++◌}
use Rattle.ps_modules.specs.Shapes.{listed, marked}
use Rattle.ps_modules.proofs.Gathering.{two_up, adds_adds}
use Rattle.ps_modules.proofs.Shaping.{marked_names, marked_ends}
use Rattle.ps_modules.proofs.forms.add_marked.Goals as goal

pub returns-in_err-add_names-in-len2-up : goal.returns-in_err-add_names-in-len2-up
returns-in_err-add_names-in-len2-up c =
    let is = two_up c.in_ok-ds.ds.now c.front-item.result c.kind-item.result c.in-len2-up.len_at_least c.front-item.is c.kind-item.is in
    let all = adds_adds (listed c.is_syntax.result c.front-item.result) (marked c.args.names.now c.args.d.now) (λ more. c.args.exports.now ++ more) c.add_names.new.exports
    (λ more. c.args.exports.now ++ more) c.add_names.new.exports c.in_err-add_names-in-len2-up.field-0.0
    (marked_names c.args.names.now c.args.d.now _ _ _ _ c.in_ok-ds.ensures is c.is_syntax.result c.is_syntax.ensures) c.in_err-add_names-in-len2-up.ensures in
    search rules

pub returns-in_ok-add_names-in-len2-up : goal.returns-in_ok-add_names-in-len2-up
returns-in_ok-add_names-in-len2-up c =
    let is = two_up c.in_ok-ds.ds.now c.front-item.result c.kind-item.result c.in-len2-up.len_at_least c.front-item.is c.kind-item.is in
    marked_ends c.args.names.now c.args.d.now _ _ _ _ c.in_ok-ds.ensures is c.is_syntax.result c.is_syntax.ensures (λ more. c.args.exports.now ++ more) c.add_names.new.exports c.in_ok-add_names-in-len2-up.ensures c.ended.result c.ended.ensures
