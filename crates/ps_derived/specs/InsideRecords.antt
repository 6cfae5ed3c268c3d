-- What the parts of record types are that refer to forms.
use Rattle.std.specs.Option.{option_copied}
use Rattle.ps_derived.specs.declared.records.Maker.{Maker}
use Rattle.ps_derived.specs.declared.records.Rest.{Rest}
use Rattle.ps_derived.specs.Records.{MakerOf, RestOf}

abbrev pub seen_maker : Maker → MakerOf
seen_maker x = record { name = x.name.now; operands = x.operands.now }

abbrev pub seen_rest : Rest → RestOf
seen_rest x = record { predicate = option_copied x.predicate; fields = x.fields.now }
