use Rattle.std.proofs.Common.{rules}
use Rattle.ps_modules.specs.Shapes.{fronted, symbol}
use Rattle.ps_modules.proofs.Gathering.{one_up, says_err}
use Rattle.ps_modules.proofs.Shaping.{front_is, front_breaks}
use Rattle.ps_modules.proofs.forms.fronted.Goals as goal

pub returns-in_err-word-in-len1-up : goal.returns-in_err-word-in-len1-up
returns-in_err-word-in-len1-up c =
    let is = one_up c.in_ok-ds.ds.now c.head-item.result c.in-len1-up.len_at_least c.head-item.is in
    let all = says_err (symbol c.head-item.result) (fronted c.args.d.now) c.in_err-word-in-len1-up.field-0.0 (λ p h. front_breaks c.args.d.now _ _ c.head-item.result p c.in_ok-ds.ensures is h) c.in_err-word-in-len1-up.ensures in
    search rules

pub returns-in_ok-word-in-len1-up : goal.returns-in_ok-word-in-len1-up
returns-in_ok-word-in-len1-up c =
    let is = one_up c.in_ok-ds.ds.now c.head-item.result c.in-len1-up.len_at_least c.head-item.is in
    front_is c.args.d.now _ _ c.head-item.result c.in_ok-word-in-len1-up.word c.in_ok-ds.ensures is c.in_ok-word-in-len1-up.ensures
