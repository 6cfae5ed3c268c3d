use Rattle.std.proofs.Common.{◌≡◌, drop}
use Rattle.ps_hygiene.specs.Answers.{seen_of}
use Rattle.ps_hygiene.specs.InsideOpening.{opened_by}
use Rattle.ps_hygiene.specs.Opening.{with_all}
use Rattle.ps_hygiene.proofs.hygiene.Hygiene.enter.Given as goal

abbrev pub invariant-loop-opened : goal.invariant-loop-opened
invariant-loop-opened l = record {
  goes_on : seen_of l.self.here (opened_by (with_all l.names l.order l.self.world.own l.self.world.structure (drop l.opened-index l.opened-items)) l.self.world)
      ≡ seen_of l.fn.self.here (opened_by (with_all l.names l.order l.fn.self.world.own l.structure l.opened-items) (record l.fn.self.world { structure = l.structure }));
}
