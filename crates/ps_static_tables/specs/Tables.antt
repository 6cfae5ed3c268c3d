-- What the tables of a kernel hold (this project's own).
use Rattle.std.specs.Prelude.{◌≡◌, ℕ, slice_get}
use Rattle.ps_kernel.specs.declared.kernel.Kernel.{Kernel}
use Rattle.ps_kernel.specs.Texts.{procedure_of}
use Rattle.ps_runs.specs.Effects.{value_in}
use Rattle.ps_meaning.specs.Eval.{letrec_lambda}
use Rattle.ps_static_tables.specs.declared.tables.Tables.{Tables}

-- the lambda of each local that a letrec binds, and of each procedure definition
pub record AreTables (k : Kernel) (t : Tables) : Type 0 where
  pub locals : (x : ℕ) → value_in (slice_get t.locals.items x) ≡ letrec_lambda k x
  pub procedures : (g : ℕ) → value_in (slice_get t.procedures.items g) ≡ procedure_of k g
