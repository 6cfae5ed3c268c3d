-- What identifiers mean (R5RS 4.3; the stamps of transcriptions are this project's own).
--
-- Read `means w around k env name stamps` as: what the identifier of this name and these stamps, the latest first, means in the
-- environment env of structure k. It is what the newest pair of env says that has the identifier with all its stamps; else what structure k
-- defines under it; else what it means without its latest stamp, where the rules of that transcription's macro stand; and without
-- stamps what structure k opens under its name. A local counts only at places around which it is bound.
use Rattle.std.specs.Prelude.{ℕ, true, false, List, [], ◌∷◌, Option, Some, None, if◌then◌else◌}
use Rattle.ps_base.specs.declared.names.Name.{Name}
use Rattle.ps_pattern.specs.declared.binding.Binding.{Binding}
use Rattle.ps_pattern.specs.declared.binding.Binding.TheVariants as b
use Rattle.ps_pattern.specs.declared.syntax.Ident.{Ident}
use Rattle.ps_scope.specs.Environments.{Env, found, has_local, defined}
use Rattle.ps_hygiene.specs.declared.meaning.Meant.{Meant}
use Rattle.ps_hygiene.specs.Worlds.{World, macro_of, home_of, structure_of}

abbrev pub meant : Binding → Meant
meant binding = record { binding = binding; own = false }

-- what the structure itself defines, in which the identifier is looked up
abbrev pub meant_own : Binding → Meant
meant_own binding = record { binding = binding; own = true }

-- a local, where it is bound around
abbrev pub if_around : Env → Binding → Option Binding
if_around around (b.Local l) = if has_local around l then Some (b.Local l) else None
if_around around other = Some other

abbrev pub counted : Env → Option Binding → Option Binding
counted around None = None
counted around (Some binding) = if_around around binding

abbrev pub or_own : Option Binding → Meant → Meant
or_own (Some binding) rest = meant_own binding
or_own None rest = rest

abbrev pub or_meant : Option Binding → Meant → Meant
or_meant (Some binding) rest = meant binding
or_meant None rest = rest

-- what is looked up first: pairs, and then definitions
abbrev pub first_of : World → Env → ℕ → Env → List ℕ → Meant → Meant
first_of w around k env word rest = or_meant (counted around (found env word)) (or_own (defined w.own k word) rest)

abbrev pub means : World → Env → ℕ → Env → Name → List ℕ → Meant
means w around k env name [] = first_of w around k env (name.0 ∷ []) (or_meant (defined w.opened k (name.0 ∷ [])) (meant (b.Unbound name)))
means w around k env name (s ∷ stamps) = first_of w around k env (name.0 ∷ s ∷ stamps)
    (means w around (structure_of w (macro_of w s)) (home_of w (macro_of w s)) name stamps)

-- in a place of use
unfoldable pub meaning : World → Env → Ident → Meant
meaning w env x = means w env w.structure env x.name x.stamps

abbrev pub binding_of : World → Env → Ident → Binding
binding_of w env x = (meaning w env x).binding

-- where the rules of a macro stand that is used here
unfoldable pub meaning_in_rules : World → Env → ℕ → Ident → Binding
meaning_in_rules w env m x = (means w env (structure_of w m) (home_of w m) x.name x.stamps).binding
