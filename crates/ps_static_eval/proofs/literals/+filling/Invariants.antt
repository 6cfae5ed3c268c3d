use Rattle.std.proofs.Common.{◌≡◌, ◌++◌, List, length, map, drop}
use Rattle.byte_store.specs.declared.pointer.Value.{Value}
use Rattle.byte_store.specs.Blocks.{Block}
use Rattle.ps_meaning.specs.Literals.{laid, lay_parts}
use Rattle.ps_static_eval.specs.InsideLaying.{filled}
use Rattle.ps_static_eval.proofs.literals.+filling.Given as goal

abbrev pub invariant-lay_each-loop-part : goal.invariant-lay_each-loop-part
invariant-lay_each-loop-part g l =
    (bs : List (Block Value)) → l.fn.store ≡ filled bs → (cs : List (Block Value)) × (l.store ≡ filled cs) × (cs ++ (lay_parts (map laid (drop l.part-index l.parts)) (length cs)).blocks ≡ bs ++ (lay_parts (map laid l.parts) (length bs)).blocks)
