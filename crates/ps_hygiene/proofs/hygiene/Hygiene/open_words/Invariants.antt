use Rattle.std.proofs.Common.{◌≡◌, map, drop}
use Rattle.ps_hygiene.specs.Answers.{seen_of}
use Rattle.ps_hygiene.specs.InsideOpening.{word_of, opened_by}
use Rattle.ps_hygiene.specs.Opening.{with_words}
use Rattle.ps_hygiene.proofs.hygiene.Hygiene.open_words.Given as goal

abbrev pub invariant-loop-text : goal.invariant-loop-text
invariant-loop-text l = record {
  goes_on : seen_of l.self.here (opened_by (with_words l.names l.self.world.structure (map word_of (drop l.text-index l.words))) l.self.world)
      ≡ seen_of l.fn.self.here (opened_by (with_words l.names l.fn.self.world.structure (map word_of l.words)) l.fn.self.world);
}
