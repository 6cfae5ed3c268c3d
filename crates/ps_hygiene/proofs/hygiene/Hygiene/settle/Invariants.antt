use Rattle.std.proofs.Common.{◌≡◌, ◌-◌, length}
use Rattle.ps_hygiene.specs.Answers.{or_given}
use Rattle.ps_hygiene.specs.Transcriptions.{settled}
use Rattle.ps_hygiene.proofs.FormsSettle.{MadeSo}
use Rattle.ps_hygiene.proofs.hygiene.Hygiene.settle.Given as goal

abbrev pub invariant-uses : goal.invariant-uses
invariant-uses l = record {
  here : l.self.here ≡ l.fn.self.here;
  made : MadeSo l.form l.made l.self l.fn.self;
  goes_on : settled l.limits l.fn.self.here (or_given l.form l.made) l.self.world ≡ settled l.limits l.fn.self.here l.form l.fn.self.world;
}

abbrev pub decreases-uses : goal.decreases-uses
decreases-uses l = l.limits.transcriptions - length l.self.world.uses
