use Rattle.std.proofs.Common.{refl}
use Rattle.ps_pattern.proofs.Rests.{got}
use Rattle.ps_derived.specs.Seen.{seen_field}
use Rattle.ps_derived.proofs.Gathering.{named}
use Rattle.ps_derived.proofs.records.names_of.Goals as goal

pub loop-field-preserved : goal.loop-field-preserved
loop-field-preserved c = named seen_field (λ x. x.name) (λ id. id.now) c.args.fields.now c.loop-field.field-index c.field-item.result c.loop-field.ids c.push.new.self _ (got c.args.fields.now c.loop-field.field-index c.field-item.result c.loop-field-test.true c.field-item.is) c.loop-field.invariant refl c.in_ok-push.ensures.ok
