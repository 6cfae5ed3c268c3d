use Rattle.std.proofs.Common.{◌-◌, take, drop, length}
use Rattle.ps_resolve.proofs.FaultBodies.{first_before}
use Rattle.ps_resolve.proofs.FaultHeads.{no_definition, not_short, is_define}
use Rattle.ps_resolve.proofs.faults.head_and_body.Goals as goal

pub unreachable-requires : goal.unreachable-requires
unreachable-requires c = no_definition c.args.names.now c.args.form.now c.in_default.ensures c.requires

pub unreachable-requires-in_default-parts : goal.unreachable-requires-in_default-parts
unreachable-requires-in_default-parts c = not_short c.args.names.now c.args.form.now c.in-Some.parts.now c.in-Some.ensures c.requires c.in_default-parts.len_below

pub returns : goal.returns
returns c =
    let parts = c.in-Some.parts.now in
    let f = first_before parts c.head-item.result c.in-len2-up.len_at_least c.head-item.is in
    is_define c.args.names.now c.args.form.now parts c.in-Some.ensures c.requires f.0 c.head-item.result (take (length parts - 2) (drop 2 parts)) f.1
