use Rattle.std.proofs.Common.{◌≡◌, drop}
use Rattle.ps_library.specs.Outside.{climbs}
use Rattle.ps_library.specs.declared.folder_library.Part.TheVariants as parts
use Rattle.ps_library.proofs.folder_library.climbs.Given as goal

abbrev pub invariant-loop-byte : goal.invariant-loop-byte
invariant-loop-byte l = climbs parts.Start l.fn.name ≡ climbs l.part (drop l.byte-index l.fn.name)
