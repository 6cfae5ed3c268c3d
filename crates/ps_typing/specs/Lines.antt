-- The lines that tell the types of what survives (this project's own).
--
-- Read `types_text k s names T` as: for each definition that survives, in order of their numbers, a line with the name of its
-- structure, its own name and its type.
use Rattle.std.specs.Prelude.{ℕ, suc, if◌then◌else◌, List, [], ◌∷◌, codes, slice_index_or}
use Rattle.ps_base.specs.Texts.{◌&◌}
use Rattle.ps_types.specs.declared.types.RecordKind.{RecordKind}
use Rattle.ps_types.specs.declared.types.Ty.{Ty}
use Rattle.ps_types.specs.Writing.{Text, type_text}
use Rattle.ps_kernel.specs.declared.kernel.Definition.{Definition}
use Rattle.ps_kernel.specs.declared.kernel.Kernel.{Kernel}
use Rattle.ps_kernel.specs.declared.survivors.Survivors.{Survivors}
use Rattle.ps_typing.specs.Rules.{Typing}
use Rattle.ps_typing.specs.Texts.{survives}

abbrev pub name_of : List Text → ℕ → Text
name_of names n = slice_index_or names n []

abbrev pub definition_line : List RecordKind → List Text → Definition → Ty → Text
definition_line kinds names d t =
    name_of names d.structure.0 & codes "/" & name_of names d.name.0 & codes " : " & type_text kinds names t & codes "\n"

-- the lines of definitions from number d on
abbrev pub lines_from : Kernel → Survivors → List Text → Typing → ℕ → List Definition → Text
lines_from k s names T d [] = []
lines_from k s names T d (x ∷ xs) =
    if survives k s d
    then definition_line k.kinds names x (T.definition d) & lines_from k s names T (suc d) xs
    else lines_from k s names T (suc d) xs

abbrev pub types_text : Kernel → Survivors → List Text → Typing → Text
types_text k s names T = lines_from k s names T 0 k.definitions
