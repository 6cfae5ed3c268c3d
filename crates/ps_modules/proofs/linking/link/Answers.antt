use Rattle.std.proofs.Common.{rules, ◌≡◌}
use Rattle.ps_modules.specs.Texts.{is_body}
use Rattle.ps_modules.proofs.LinkingFollows.{linked_walk, linked_body, linked_lost}
use Rattle.ps_modules.proofs.linking.link.Goals as goal

pub returns-in-Ok : goal.returns-in-Ok
returns-in-Ok g c =
    let is : c.is_body.result ≡ is_body c.args.names.now c.args.forms.now = search rules in
    linked_body c.args.names.now c.args.limits.now c.args.forms.now c.args.taken c.is_body.result is _ c.as_slice-ds.ensures c.if-is_body.true c.in-Ok.program.structures _ c.in-Ok.ensures _

pub returns-in-Err : goal.returns-in-Err
returns-in-Err g c = linked_lost _ _

pub returns : goal.returns
returns g c =
    let is : c.is_body.result ≡ is_body c.args.names.now c.args.forms.now = search rules in
    linked_walk c.args.names.now c.args.limits.now c.args.forms.now c.args.taken c.is_body.result is _ c.as_slice-ds.ensures c.if-is_body.false _ _ _ c.link_structures.ensures
