use Rattle.std.proofs.Common.{◌≡◌, map, take}
use Rattle.ps_derived.specs.Seen.{idents, seen_macro}
use Rattle.ps_derived.specs.Bindings.{keywords_of}
use Rattle.ps_derived.proofs.bindings.keywords_of.Given as goal

abbrev pub invariant-loop-rules : goal.invariant-loop-rules
invariant-loop-rules l = idents l.ids ≡ keywords_of (map seen_macro (take l.rules-index l.macros))
