-- What bindings and macros with a body are that refer to forms.
use Rattle.std.specs.Prelude.{map}
use Rattle.ps_derived.specs.declared.bindings.Bound.{Bound}
use Rattle.ps_derived.specs.declared.bindings.Around.{Around}
use Rattle.ps_derived.specs.Bindings.{BoundOf, AroundOf}
use Rattle.ps_derived.specs.Seen.{seen_binding, seen_macro}

abbrev pub seen_bound : Bound → BoundOf
seen_bound x = record { bindings = map seen_binding x.bindings; body = x.body.now }

abbrev pub seen_around : Around → AroundOf
seen_around x = record { macros = map seen_macro x.macros; body = x.body.now }
