use Rattle.std.proofs.Common.{◌≡◌, drop}
use Rattle.ps_derived.specs.Seen.{idents}
use Rattle.ps_expansion.specs.Does.{state_of}
use Rattle.ps_expansion.specs.States.{bind_all}
use Rattle.ps_expansion.proofs.expansion.Expansion.bind_all.Given as goal

abbrev pub invariant-loop-i : goal.invariant-loop-i
invariant-loop-i l = record {
  state : state_of l.self ≡ state_of l.fn.self;
  bound : bind_all (idents (drop l.i l.names)) (drop l.i l.locals) l.self.hygiene.here ≡ bind_all (idents l.names) l.locals l.fn.self.hygiene.here;
}
