use Rattle.std.proofs.Common.{rules, ap, sym, ◌∙◌, ◌++◌, ◌∷◌, [], take}
use Rattle.ps_pattern.specs.Meaning.{nth_bound}
use Rattle.ps_pattern.proofs.Rests.{got}
use Rattle.ps_pattern.proofs.RowsLoseColumns.{taken_more}
use Rattle.ps_pattern.proofs.columns.column_of.Goals as goal

pub loop-row-preserved : goal.loop-row-preserved
loop-row-preserved c =
    taken_more c.args.v c.loop-row.row-index c.args.rows.now c.loop-row.rows c.row-item.result c.take_out.new.row c.loop-row.bounds c.push.new.self
    (got c.loop-row.rows c.loop-row.row-index c.row-item.result (search rules) c.row-item.is)
    (c.take_out.ensures.before ∙ ap (take c.args.v) (sym c.row-item.is)) c.loop-row.invariant
    (c.in_ok-push.ensures.ok ∙ ap (λ x. c.loop-row.bounds ++ x ∷ []) (c.take_out.ensures.value ∙ ap (nth_bound c.args.v) (sym c.row-item.is)))
