use Rattle.std.proofs.Common.{◌≡◌, drop}
use Rattle.std.specs.Prelude.{map}
use Rattle.ps_derived.specs.Seen.{seen_macro}
use Rattle.ps_expansion.specs.Does.{state_of, task_of}
use Rattle.ps_expansion.specs.Macros.{add_macros}
use Rattle.ps_expansion.proofs.expansion.Expansion.add_macros.Given as goal

abbrev pub invariant-loop-x : goal.invariant-loop-x
invariant-loop-x l = record {
  here : l.self.hygiene.here ≡ l.fn.self.hygiene.here;
  so_far : add_macros (task_of l.task) l.fn.self.hygiene.here (map seen_macro (drop l.x-index l.macros)) (state_of l.self) ≡ add_macros (task_of l.task) l.fn.self.hygiene.here (map seen_macro l.macros) (state_of l.fn.self);
}
