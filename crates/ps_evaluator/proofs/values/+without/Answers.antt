use Rattle.std.proofs.Common.{◌≡◌, ◌-◌, List, length, take, drop, ◌∙◌}
use Rattle.ps_meaning.specs.declared.values.Binding.{Binding}
use Rattle.ps_meaning.specs.Values.{pairs_of}
use Rattle.ps_evaluator.proofs.Joins.{if_ok_map}
use Rattle.ps_evaluator.proofs.LocalsAreInTheState.{drop_rest}
use Rattle.ps_evaluator.proofs.values.+without.Goals as goal

pub returns-in-len1-up : goal.returns-in-len1-up
returns-in-len1-up t c =
    if_ok_map (λ (r : List Binding). pairs_of r ≡ drop (c.args.count - 1) (pairs_of (take (length c.args.env.now - 1) (drop 1 c.args.env.now))))
    (λ r. pairs_of r ≡ drop c.args.count (pairs_of c.args.env.now)) c.without.result
    (λ r h. h ∙ drop_rest c.args.count c.args.env.now c.if-count-eq0.false) c.without.ensures
