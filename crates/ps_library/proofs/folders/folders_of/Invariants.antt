use Rattle.std.proofs.Common.{◌≡◌, drop, map, ◌++◌, string_bytes}
use Rattle.ps_library.specs.PathWords.{folders_of}
use Rattle.ps_library.proofs.folders.folders_of.Given as goal

abbrev pub invariant-loop-word : goal.invariant-loop-word
invariant-loop-word l = folders_of (map (λ w. string_bytes w) l.fn.words) ≡ map (λ f. string_bytes f) l.folders.items ++ folders_of (map (λ w. string_bytes w) (drop l.word-index l.fn.words))
