-- What names mean in a case: one may be a local, and each other is unbound.
use Rattle.std.specs.Prelude.{Option, Some, None, ◌==◌, if◌then◌else◌}
use Rattle.ps_pattern.specs.declared.syntax.Ident.{Ident}
use Rattle.ps_pattern.specs.declared.binding.Binding.{Binding}
use Rattle.ps_pattern.specs.declared.binding.Binding.TheVariants.{Local, Unbound}
use Rattle.pattern_cases.specs.declared.meanings.Bound.{Bound}

abbrev pub meaning : Option Bound → Ident → Binding
meaning None id = Unbound id.name
meaning (Some b) id = if b.name == id.name.0 then Local b.local else Unbound id.name
