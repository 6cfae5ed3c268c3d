use Rattle.std.proofs.Common.{◌-◌, take, drop, length, refl}
use Rattle.ps_resolve.proofs.FaultBodies.{one_first}
use Rattle.ps_resolve.proofs.FaultHeads.{no_head, not_empty, not_nameless, has_parts}
use Rattle.ps_resolve.proofs.faults.definition.Goals as goal

pub unreachable-requires : goal.unreachable-requires
unreachable-requires c = no_head c.args.names.now c.head_and_body.result.0.now c.in_default.ensures c.head_and_body.ensures.shape

pub unreachable-requires-in_default-parts : goal.unreachable-requires-in_default-parts
unreachable-requires-in_default-parts c = not_empty c.args.names.now c.head_and_body.result.0.now c.in-Some.parts.now c.in-Some.ensures c.head_and_body.ensures.shape c.in_default-parts.len_below

pub unreachable-requires-in_default-word : goal.unreachable-requires-in_default-word
unreachable-requires-in_default-word c =
    let parts = c.in-Some.parts.now in
    let rest = take (length parts - 1) (drop 1 parts) in
    not_nameless c.args.names.now c.head_and_body.result.0.now parts c.in-Some.ensures c.head_and_body.ensures.shape c.first-item.result rest (one_first parts c.first-item.result c.in-len1-up.len_at_least c.first-item.is) c.in_default-word.ensures.tells

pub returns : goal.returns
returns c =
    let parts = c.in-Some.parts.now in
    let rest = take (length parts - 1) (drop 1 parts) in
    has_parts c.args.names.now c.head_and_body.result.0.now parts c.in-Some.ensures c.head_and_body.ensures.shape c.first-item.result rest (one_first parts c.first-item.result c.in-len1-up.len_at_least c.first-item.is) c.args.form.now _ c.head_and_body.ensures c.in-Some-word.ensures.tells refl refl
