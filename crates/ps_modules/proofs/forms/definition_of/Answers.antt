use Rattle.std.proofs.Common.{rules}
use Rattle.ps_modules.specs.Shapes.{symbol, interface, ended, interface_form}
use Rattle.ps_modules.proofs.Gathering.{two_up, says_err}
use Rattle.ps_modules.proofs.Shaping.{interface_name, interface_value, interface_rest, interface_is}
use Rattle.ps_modules.proofs.forms.definition_of.Goals as goal

pub returns-in_err-name-in-len2-up : goal.returns-in_err-name-in-len2-up
returns-in_err-name-in-len2-up c =
    let is = two_up c.args.rest.now c.first-item.result c.second-item.result c.in-len2-up.len_at_least c.first-item.is c.second-item.is in
    let all = says_err (symbol c.first-item.result) (interface_form c.args.names.now c.args.form c.args.rest.now) c.in_err-name-in-len2-up.field-0.0
    (interface_name c.args.names.now c.args.form _ _ _ _ is) c.in_err-name-in-len2-up.ensures in
    search rules

pub returns-in_err-interface-in-len2-up : goal.returns-in_err-interface-in-len2-up
returns-in_err-interface-in-len2-up c =
    let is = two_up c.args.rest.now c.first-item.result c.second-item.result c.in-len2-up.len_at_least c.first-item.is c.second-item.is in
    let all = says_err (interface c.args.names.now c.second-item.result) (interface_form c.args.names.now c.args.form c.args.rest.now) c.in_err-interface-in-len2-up.field-0.0
    (interface_value c.args.names.now c.args.form _ _ _ _ is c.in_ok-name-in-len2-up.name c.in_ok-name-in-len2-up.ensures) c.in_err-interface-in-len2-up.ensures in
    search rules

pub returns-in_err-ended-in-len2-up : goal.returns-in_err-ended-in-len2-up
returns-in_err-ended-in-len2-up c =
    let is = two_up c.args.rest.now c.first-item.result c.second-item.result c.in-len2-up.len_at_least c.first-item.is c.second-item.is in
    let all = says_err (ended tt _) (interface_form c.args.names.now c.args.form c.args.rest.now) c.in_err-ended-in-len2-up.field-0.0
    (interface_rest c.args.names.now c.args.form _ _ _ _ is c.in_ok-name-in-len2-up.name c.in_ok-name-in-len2-up.ensures c.in_ok-interface-in-len2-up.interface c.in_ok-interface-in-len2-up.ensures) c.in_err-ended-in-len2-up.ensures in
    search rules

pub returns-in_ok-ended-in-len2-up : goal.returns-in_ok-ended-in-len2-up
returns-in_ok-ended-in-len2-up c =
    let is = two_up c.args.rest.now c.first-item.result c.second-item.result c.in-len2-up.len_at_least c.first-item.is c.second-item.is in
    interface_is c.args.names.now c.args.form _ _ _ _ is c.in_ok-name-in-len2-up.name c.in_ok-name-in-len2-up.ensures c.in_ok-interface-in-len2-up.interface c.in_ok-interface-in-len2-up.ensures c.in_ok-ended-in-len2-up.ensures
