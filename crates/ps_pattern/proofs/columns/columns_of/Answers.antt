use Rattle.std.proofs.Common.{◌≡◌, ◌+◌, ◌-◌, ◌<◌, ◌≤◌, ap, ◌∙◌, map, take, length, arith, rules}
use Rattle.ps_pattern.proofs.RowsLoseColumns.{before_more, column_more, written}
use Rattle.ps_pattern.proofs.columns.columns_of.Goals as goal

pub loop-v-preserved : goal.loop-v-preserved
loop-v-preserved c =
    let rows = c.args.rows.items in
    let rest = c.as_mut_slice.result.now in
    let left = c.column_of.new.rows in
    let test : 0 < c.loop-v.v = c.loop-v-test.true in
    let within : c.loop-v.v ≤ c.args.width = search rules in
    let next : c.loop-v.v ≡ c.loop-v.v - 1 + 1 = omega arith in
    let here : c.loop-v.v - 1 < c.args.width = omega arith in
    let same : map (take c.loop-v.v) rest ≡ map (take c.loop-v.v) rows = ap (map (take c.loop-v.v)) c.as_mut_slice.ensures.value ∙ c.loop-v.invariant.0 in
    let size : length left ≡ c.loop-v.rows.len = search rules in (
      ap (map (take (c.loop-v.v - 1))) (written c.loop-v.rows.len left c.loop-v.rows.items size) ∙ before_more (c.loop-v.v - 1) c.loop-v.v rows rest left next same c.in_ok-column_of.ensures.before,
      column_more (c.loop-v.v - 1) c.loop-v.v c.args.width rows rest c.loop-v.columns.items c.push.new.self.items c.in_ok-column_of.field-0 next here same c.in_ok-column_of.ensures.value c.loop-v.invariant.1 c.in_ok-push.ensures.items,
    )
