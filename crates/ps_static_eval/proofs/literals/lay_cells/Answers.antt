use Rattle.ps_static_eval.proofs.LiteralsArePaid.{vector_filled}
use Rattle.ps_static_eval.proofs.literals.lay_cells.Goals as goal

pub returns : goal.returns
returns g c = λ bs full.
    vector_filled c.args.store.now c.fix_cells.new.self bs c.next_fixed-number.result c.args.parts.now c.in_ok-values.values c.next_fixed-number.ensures c.in_ok-values.ensures c.in_ok-fix_cells.ensures full
