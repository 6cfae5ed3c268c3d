use Rattle.std.proofs.Common.{◌≡◌, drop}
use Rattle.std.specs.Prelude.{map}
use Rattle.ps_derived.specs.Seen.{seen_macro}
use Rattle.ps_expansion.specs.Does.{state_of}
use Rattle.ps_expansion.specs.Macros.{bind_macros}
use Rattle.ps_expansion.proofs.expansion.Expansion.bind_macros.Given as goal

abbrev pub invariant-loop-x : goal.invariant-loop-x
invariant-loop-x l = record {
  state : state_of l.self ≡ state_of l.fn.self;
  bound : bind_macros (map seen_macro (drop l.x-index l.macros)) l.number l.self.hygiene.here ≡ bind_macros (map seen_macro l.macros) l.first l.fn.self.hygiene.here;
}
