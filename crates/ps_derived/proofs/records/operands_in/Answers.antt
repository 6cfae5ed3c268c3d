use Rattle.std.proofs.Common.{rules, ◌≡◌, subst}
use Rattle.std.specs.Prelude.{IfOk}
use Rattle.ps_derived.specs.Seen.{idents}
use Rattle.ps_derived.proofs.Different.{operands_are}
use Rattle.ps_derived.proofs.records.operands_in.Goals as goal

pub returns : goal.returns
returns c = subst (λ z. IfOk c.indices_in.result (λ r. r ≡ z)) (operands_are (idents c.args.names.now) (idents c.args.ids.now) c.in_ok-keys.keys c.in_ok-is_whole.field-0 c.requires c.in_ok-keys.ensures c.in_ok-is_whole.ensures (search rules)) c.indices_in.ensures
