use Rattle.std.proofs.Common.{◌≡◌, ◌-◌, ◌≤◌, ◌+◌, length, ◌∙◌, arith}
use Rattle.ps_static_tables.proofs.TablesTellFirst.{entry_more}
use Rattle.ps_static_tables.proofs.tables.locals_of.Goals as goal

pub loop-i-preserved : goal.loop-i-preserved
loop-i-preserved c =
    let less : c.loop-i.i ≡ c.loop-i.i - 1 + 1 = omega arith in
    let fits : c.loop-i.i ≤ length c.args.entries.now = c.loop-i.invariant.0 in
    (omega arith, λ x. entry_more x c.args.entries.now c.loop-i.i (c.loop-i.i - 1) _ _ _ less fits (c.in_ok-put.ensures x) ∙ c.loop-i.invariant.1 x)
