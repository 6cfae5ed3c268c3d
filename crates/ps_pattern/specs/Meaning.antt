-- What identifiers and variables stand for.
use Rattle.std.specs.Prelude.{ℕ, Bool, List, [], Option, Some, None, slice_get}
use Rattle.ps_pattern.specs.declared.binding.Binding.{Binding}
use Rattle.ps_pattern.specs.contracts.binding.BindingPartialEq.TheImpl as comparing
use Rattle.ps_pattern.specs.declared.bound.Bound.{Bound}
use Rattle.ps_pattern.specs.declared.bound.Bound.TheVariants as b

-- one meaning, or unbound under one name
abbrev pub same_binding : Binding → Binding → Bool
same_binding a b = comparing.ghosts.eq a b

abbrev pub or_nothing : Option Bound → Bound
or_nothing (Some x) = x
or_nothing None = b.Many []

abbrev pub nth_bound : ℕ → List Bound → Bound
nth_bound n bounds = or_nothing (slice_get bounds n)
