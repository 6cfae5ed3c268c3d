-- What names mean in a case: one may be a local, and each other is unbound.
use Rattle.std.specs.Prelude.{ℕ, Option, Some, None, ◌==◌, if◌then◌else◌}
use Rattle.ps_pattern.specs.declared.syntax.Ident.{Ident}
use Rattle.ps_pattern.specs.declared.binding.Binding.{Binding}
use Rattle.ps_pattern.specs.declared.binding.Binding.TheVariants.{Local, Unbound}

abbrev pub meaning : Option ℕ → Ident → Binding
meaning None id = Unbound id.name
meaning (Some name) id = if name == id.name.0 then Local 0 else Unbound id.name
