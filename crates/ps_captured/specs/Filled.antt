-- A kernel whose lambdas list what their procedures keep (this project's own).
--
-- Read `IsFilled` as: the lists are those that `HasCaptured` asks for, and all else is as it was. It is defined for every kernel:
-- where a lambda stands at several places its group is that of the first, and what lies below the last level of a text is not read.
use Rattle.std.specs.Prelude.{◌≡◌, [], map}
use Rattle.ps_kernel.specs.declared.kernel.Kernel.{Kernel}
use Rattle.ps_kernel.specs.declared.kernel.Lambda.{Lambda}
use Rattle.ps_kernel.specs.Captured.{HasCaptured}

-- a lambda without its list, and a kernel whose lambdas have none
abbrev pub emptied_lambda : Lambda → Lambda
emptied_lambda m = record m { captured = [] }

abbrev pub emptied : Kernel → Kernel
emptied k = record k { lambdas = map emptied_lambda k.lambdas }

-- the second kernel is the first with the lists filled
pub record IsFilled (before after : Kernel) : Type 0 where
  pub captured : HasCaptured after
  pub same : emptied after ≡ emptied before
