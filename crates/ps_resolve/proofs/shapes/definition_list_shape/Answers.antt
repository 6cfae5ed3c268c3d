use Rattle.std.proofs.Common.{sym, ◌∙◌, ◌-◌, take, drop, length}
use Rattle.ps_resolve.proofs.FaultBodies.{two_first, definition_is}
use Rattle.ps_resolve.proofs.shapes.definition_list_shape.Goals as goal

pub returns : goal.returns
returns c =
    let parts = c.args.parts.now in
    let first = c.first-item.result in
    let head = c.head-item.result in
    c.defined_shape.ensures
    ∙ definition_is c.args.names.now c.args.place first head parts (take (length parts - 2) (drop 2 parts)) c.keyword.result (two_first parts first head c.in-len2-up.len_at_least c.first-item.is c.head-item.is) (sym c.is_empty.ensures ∙ c.if-is_empty.false) c.keyword.ensures.tells
