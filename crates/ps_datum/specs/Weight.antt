-- How large a datum is: one for each part of one token, and two for the brackets of a list or vector (this project's own).
use Rattle.std.specs.Prelude.{ℕ, ◌+◌, List, map}
use Rattle.ps_base.specs.Numbers.{sum_of}
use Rattle.ps_datum.specs.declared.datum.Datum.{Datum, fold-Datum}
use Rattle.ps_datum.specs.declared.datum.DatumKind.TheOpen.{DatumKind-F}

abbrev pub weight_node : DatumKind-F ℕ ℕ → ℕ
weight_node (DatumKind-F.Boolean b) = 1
weight_node (DatumKind-F.Integer i) = 1
weight_node (DatumKind-F.Char c) = 1
weight_node (DatumKind-F.Text bytes) = 1
weight_node (DatumKind-F.Symbol name) = 1
weight_node (DatumKind-F.List ns) = 2 + sum_of ns
weight_node (DatumKind-F.Dotted ns n) = 3 + sum_of ns + n
weight_node (DatumKind-F.Vector ns) = 2 + sum_of ns

abbrev pub weight : Datum → ℕ
weight = fold-Datum ℕ ℕ weight_node (λ d. d.kind)

-- the data that stand one after another
abbrev pub weights : List Datum → ℕ
weights ds = sum_of (map weight ds)
