use Rattle.std.proofs.Common.{[], ap, slice_get, ◌∙◌}
use Rattle.ps_groups.proofs.ListsByPlace.{none_entry, some_entry}
use Rattle.ps_groups.proofs.search.entry.Goals as goal

pub returns-in-None : goal.returns-in-None
returns-in-None c = ap (λ r. slice_get r c.args.at) (none_entry c.args.rows.now c.args.node [] c.in-None.ensures.value)

pub returns-in-None-get : goal.returns-in-None-get
returns-in-None-get c = c.in-None-get.ensures.value ∙ ap (λ r. slice_get r c.args.at) (some_entry c.args.rows.now c.args.node [] c.in-Some.row.now c.in-Some.ensures.value)

pub returns-in-Some-get : goal.returns-in-Some-get
returns-in-Some-get c = c.in-Some-get.ensures.value ∙ ap (λ r. slice_get r c.args.at) (some_entry c.args.rows.now c.args.node [] c.in-Some.row.now c.in-Some.ensures.value)
