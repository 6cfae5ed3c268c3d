-- Identifiers that are all different, with their stamps (this project's own). Read `none_twice before ids` as: no identifier of ids
-- stands before it in ids, and none has a key that is among those before, and `are_distinct ids` as: no identifier stands twice.
use Rattle.std.specs.Prelude.{Bool, true, ◌&&◌, not, List, [], ◌∷◌, ◌++◌}
use Rattle.ps_pattern.specs.declared.syntax.Ident.{Ident}
use Rattle.ps_pattern.specs.Identifiers.{Keys, key, stands}

abbrev pub none_twice : Keys → List Ident → Bool
none_twice before [] = true
none_twice before (id ∷ ids) = not (stands before (key id)) && none_twice (before ++ key id ∷ []) ids

abbrev pub are_distinct : List Ident → Bool
are_distinct ids = none_twice [] ids
