use Rattle.std.proofs.Common.{◌∙◌}
use Rattle.ps_static_eval.proofs.LiteralsArePaid.{text_filled}
use Rattle.ps_static_eval.proofs.literals.lay_text.Goals as goal

pub returns : goal.returns
returns g c = λ bs full.
    text_filled c.args.store.now c.fix_bytes.new.self bs c.next_fixed-number.result c.args.bytes.now c.as_slice.result.now c.next_fixed-number.ensures (c.as_slice.ensures ∙ c.in_ok-all.ensures) c.in_ok-fix_bytes.ensures full
