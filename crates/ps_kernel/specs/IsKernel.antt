-- What each pass may rely on of a kernel that comes with a table of names (this project's own): it keeps the rules, its
-- lambdas list what their procedures keep, and each name in it stands in the table.
use Rattle.std.specs.Prelude.{ℕ, ◌<◌}
use Rattle.ps_base.specs.declared.names.Name.{Name}
use Rattle.ps_types.specs.declared.types.RecordKind.{RecordKind}
use Rattle.ps_kernel.specs.declared.kernel.Definition.{Definition}
use Rattle.ps_kernel.specs.declared.kernel.Kernel.{Kernel}
use Rattle.ps_kernel.specs.Lists.{Each}
use Rattle.ps_kernel.specs.Valid.{IsValid}
use Rattle.ps_kernel.specs.Captured.{HasCaptured}

-- the table of so many names has it
abbrev pub IsName : ℕ → Name → Type 0
IsName names n = n.0 < names

pub record IsNamed (names : ℕ) (d : Definition) : Type 0 where
  pub structure : IsName names d.structure
  pub own : IsName names d.name

pub record KnowsNames (k : Kernel) (names : ℕ) : Type 0 where
  pub definitions : Each (IsNamed names) k.definitions
  pub kinds : Each (λ (kind : RecordKind). IsName names kind.name) k.kinds

pub record IsKernel (k : Kernel) (names : ℕ) : Type 0 where
  pub valid : IsValid k
  pub captured : HasCaptured k
  pub known : KnowsNames k names
