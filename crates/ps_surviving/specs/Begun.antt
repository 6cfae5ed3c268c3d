-- What the survivors of a program do in a world, when the run begins with them alone (this project's own).
--
-- Read `begun_with k s` as: what a run of kernel k begins from, where only the survivors s are there: of the definitions the
-- surviving procedures, each with its lambda, and the others that survive, each with its kept value; and the kept blocks. No
-- other definition has a value, and no other block is there.
use Rattle.std.specs.Prelude.{ℕ, zero, suc, nat_eq, List, [], ◌∷◌, map, Option, Some, None, if◌then◌else◌}
use Rattle.std.specs.Prelude.{length}
use Rattle.byte_store.specs.declared.pointer.Pointer.TheVariants.{Null}
use Rattle.byte_store.specs.declared.pointer.Value.{Value}
use Rattle.byte_store.specs.declared.pointer.Value.TheVariants as values
use Rattle.byte_store.specs.Blocks.{Memory, Block, Bytes, Cells}
use Rattle.byte_store.specs.Outcome.{Outcomes}
use Rattle.byte_store.specs.Worlds.{Surroundings}
use Rattle.ps_kernel.specs.declared.kernel.Kernel.{Kernel}
use Rattle.ps_kernel.specs.declared.survivors.Kept.{Kept}
use Rattle.ps_kernel.specs.declared.survivors.Kept.TheVariants as kept
use Rattle.ps_kernel.specs.declared.survivors.KeptBlock.{KeptBlock}
use Rattle.ps_kernel.specs.declared.survivors.KeptBlock.TheVariants as contents
use Rattle.ps_kernel.specs.declared.survivors.KeptProcedure.{KeptProcedure}
use Rattle.ps_kernel.specs.declared.survivors.KeptGlobal.{KeptGlobal}
use Rattle.ps_kernel.specs.declared.survivors.NumberedBlock.{NumberedBlock}
use Rattle.ps_kernel.specs.declared.survivors.Survivors.{Survivors}
use Rattle.ps_meaning.specs.declared.values.RunValue.{RunValue}
use Rattle.ps_meaning.specs.declared.values.RunValue.TheVariants.{Plain, Procedure}
use Rattle.ps_meaning.specs.Literals.{start_of}
use Rattle.ps_meaning.specs.Source.{Begun, Runs, run_memory}

-- ---- kept values and blocks

abbrev pub value_of : Kept → Value
value_of (kept.Integer i) = values.Integer i
value_of (kept.Boolean b) = values.Boolean b
value_of (kept.Char c) = values.Char c
value_of kept.Unit = values.Unit
value_of kept.NullAddress = values.Address Null
value_of (kept.Text n) = values.Text (start_of n)
value_of (kept.Vector n) = values.Vector (start_of n)
value_of (kept.Tuple k n) = values.Tuple k (start_of n)

abbrev pub block_of : KeptBlock → Block Value
block_of (contents.Bytes bytes) = Bytes (map Some bytes)
block_of (contents.Cells cells) = Cells (map (λ c. Some (value_of c)) cells)

abbrev pub memory_of : List NumberedBlock → Memory Value
memory_of bs = record { fixed = map (λ (b : NumberedBlock). (b.number, block_of b.block)) bs; made = [] }

-- ---- definitions

-- the lambda of a surviving procedure
abbrev pub lambda_among : ℕ → List KeptProcedure → Option ℕ
lambda_among g [] = None
lambda_among g (p ∷ ps) = if nat_eq g p.definition then Some p.lambda else lambda_among g ps

-- the value of a definition that survives and is no procedure
abbrev pub value_among : ℕ → List KeptGlobal → Option RunValue
value_among g [] = None
value_among g (v ∷ vs) = if nat_eq g v.number then Some (Plain (value_of v.value)) else value_among g vs

abbrev pub given : Option ℕ → Option RunValue → Option RunValue
given (Some l) v = Some (Procedure l [])
given None v = v

abbrev pub begun_global : Survivors → ℕ → Option RunValue
begun_global s g = given (lambda_among g s.procedures) (value_among g s.globals)

-- so many definitions from number g on
abbrev pub begun_globals : Survivors → ℕ → ℕ → List (Option RunValue)
begun_globals s g zero = []
begun_globals s g (suc n) = begun_global s g ∷ begun_globals s (suc g) n

-- ---- runs

abbrev pub begun_with : Kernel → Survivors → Begun
begun_with k s = record { kernel = k; globals = begun_globals s 0 (length k.definitions); memory = run_memory (memory_of s.blocks) }

-- the run of survivors in a world
abbrev pub Surviving : Kernel → Survivors → Surroundings → Outcomes
Surviving k s w = Runs (begun_with k s) w None

-- the same, where so many cells may be made
abbrev pub SurvivingTraced : Kernel → Survivors → Surroundings → ℕ → Outcomes
SurvivingTraced k s w cells = Runs (begun_with k s) w (Some cells)
