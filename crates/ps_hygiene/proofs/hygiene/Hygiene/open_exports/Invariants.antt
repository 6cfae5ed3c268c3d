use Rattle.std.proofs.Common.{◌≡◌, drop}
use Rattle.ps_hygiene.specs.Answers.{seen_of}
use Rattle.ps_hygiene.specs.InsideOpening.{opened_by}
use Rattle.ps_hygiene.specs.Opening.{with_exports}
use Rattle.ps_hygiene.proofs.hygiene.Hygiene.open_exports.Given as goal

abbrev pub invariant-loop-export : goal.invariant-loop-export
invariant-loop-export l = record {
  goes_on : seen_of l.self.here (opened_by (with_exports l.self.world.own l.self.world.structure l.j (drop l.export-index l.exports)) l.self.world)
      ≡ seen_of l.fn.self.here (opened_by (with_exports l.fn.self.world.own l.fn.self.world.structure l.j l.exports) l.fn.self.world);
}
