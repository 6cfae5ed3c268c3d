-- What tables of names stand for.
use Rattle.std.specs.Prelude.{List, map, Option}
use Rattle.ps_base.specs.declared.faults.Place.{Place}
use Rattle.ps_plain.specs.Forms.{Scope}
use Rattle.ps_plain.specs.Faults.{Flaws, first_of}
use Rattle.ps_resolve.specs.declared.name_faults.NamesInScope.{NamesInScope}

abbrev pub scope_of : NamesInScope → Scope
scope_of s = record { parameters = s.parameters.now; procedures = s.procedures.now; arities = s.arities.now }

abbrev pub writes_names : Scope → List Flaws → Option Place
writes_names s fs = first_of (map (λ (f : Flaws). f.write_names s) fs)
