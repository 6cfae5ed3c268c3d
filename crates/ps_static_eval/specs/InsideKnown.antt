-- What is known of a kernel before its forms are run. No public clause cites this file.
use Rattle.std.specs.Prelude.{◌≡◌}
use Rattle.ps_kernel.specs.declared.kernel.Kernel.{Kernel}
use Rattle.ps_meaning.specs.Literals.{lay_all}
use Rattle.ps_static_tables.specs.Tables.{AreTables}
use Rattle.ps_static_eval.specs.declared.known.Known.{Known}

pub record IsKnown (k : Kernel) (t : Known) : Type 0 where
  pub numbers : AreTables k t.numbers
  pub literals : t.literals ≡ (lay_all k.literals).values
