-- What the forms of a structure define (R5RS 5.1 to 5.3; structures and record types are this project's own, after Scheme 48).
--
-- The first pass notes the definitions of a structure, whose heads are transcribed in order; then its exports are looked for. Read `first_pass
-- task env steps x s` as: what is noted behind x by the forms that are left in it, by so many steps, where env is the environment around them,
-- and what is known then; or the first fault. At top level no environment is around a form.
use Rattle.std.specs.Prelude.{ℕ, zero, suc, ◌+◌, ◌==◌, Bool, true, false, not, ◌&&◌, List, [], ◌∷◌, ◌++◌, length, map, Option, Some, None, is_some, codes, slice_get, if◌then◌else◌}
use Rattle.ps_base.specs.Names.{number_of}
use Rattle.ps_base.specs.declared.faults.FormKind.TheVariants.{NameTwice, ExportUndefined}
use Rattle.ps_base.specs.declared.faults.Place.{Place}
use Rattle.ps_base.specs.declared.language.Core.{Core}
use Rattle.ps_base.specs.declared.language.Core.TheVariants as core
use Rattle.ps_base.specs.declared.language.PrimName.TheVariants as p
use Rattle.ps_base.specs.declared.names.Name.{Name}
use Rattle.ps_definitions.specs.declared.first.Noted.{Noted}
use Rattle.ps_definitions.specs.declared.first.Noted.TheVariants.{Variable, Kind, Expression}
use Rattle.ps_derived.specs.PartsOf.{PartsOf, MacroOf, FieldOf, RecordTypeOf}
use Rattle.ps_derived.specs.PartsOf as d
use Rattle.ps_kernel.specs.declared.kernel.Definition.{Definition}
use Rattle.ps_modules.specs.declared.types.Export.{Export}
use Rattle.ps_modules.specs.declared.types.Structure.{Structure}
use Rattle.ps_pattern.specs.declared.binding.Binding.{Binding}
use Rattle.ps_pattern.specs.declared.binding.Binding.TheVariants as b
use Rattle.ps_pattern.specs.declared.syntax.Ident.{Ident}
use Rattle.ps_pattern.specs.declared.syntax.Syntax.{Syntax}
use Rattle.ps_scope.specs.Environments.{Env, entry_of, defined, word_of}
use Rattle.ps_types.specs.declared.types.Ty.{Ty}
use Rattle.ps_types.specs.declared.types.Ty.TheVariants as ty
use Rattle.ps_hygiene.specs.Forms.{Shape, Special, shape}
use Rattle.ps_hygiene.specs.Runs.{Goes, Run, ◌>>=◌, ◌>>◌, pure, stop}
use Rattle.ps_hygiene.specs.Worlds.{World}
use Rattle.ps_expansion.specs.Apart.{name_of, parts_at}
use Rattle.ps_expansion.specs.Macros.{add_macro}
use Rattle.ps_expansion.specs.States.{Task, State, settled, in_world}

-- what the first pass has noted, and the forms that are left
pub record Passing : Type 0 where
  pub noted : List Noted
  pub forms : List Syntax

abbrev pub passing : List Noted → List Syntax → Passing
passing noted fs = record { noted = noted; forms = fs }

-- ---- identifiers

-- the present structure defines an identifier
abbrev pub defines : Ident → Binding → Run State (Unit {0})
defines x binding = in_world (λ w. Goes tt (record w { own = entry_of w.structure (word_of x) binding ∷ w.own }))

abbrev pub is_defined : World → Ident → Bool
is_defined w x = is_some (defined w.own w.structure (word_of x))

-- no identifier is defined twice in a structure
abbrev pub defines_once : Place → Ident → Binding → Run State (Unit {0})
defines_once at x binding = λ s. (if is_defined s.world x then stop NameTwice at else defines x binding) s

abbrev pub defines_if : Place → Option Ident → Binding → Run State (Unit {0})
defines_if at None binding = pure tt
defines_if at (Some x) binding = defines_once at x binding

-- ---- variables

-- the name of the structure, by its place in the order
abbrev pub structure_name : Name → Option Structure → Name
structure_name own (Some st) = st.name
structure_name own None = own

module _ (task : Task) where
  abbrev pub definition_at : Place → Ident → World → Definition
  definition_at at x w = record { structure = structure_name x.name (slice_get task.order w.structure); name = x.name; place = at }

  abbrev pub next_definition : Place → Ident → Run State ℕ
  next_definition at x = λ s. Goes (length s.definitions) (record s { definitions = s.definitions ++ definition_at at x s.world ∷ [] })

  abbrev pub new_variable : Place → Ident → Run State ℕ
  new_variable at x = λ s. (defines_once at x (b.Global (length s.definitions)) >> next_definition at x) s

-- ---- macros

-- its name, and then its rules, which stand in an environment
abbrev pub new_macro : Task → Env → Place → MacroOf → Run State ℕ
new_macro task env at m = λ s. (defines_once at m.keyword (b.Macro (length s.world.rules)) >> add_macro task env m.rules) s

-- ---- record types

abbrev pub integers : List FieldOf → List Ty
integers fields = map (λ x. ty.Integer) fields

-- The name of the type means nothing in an expression. The types of the fields are told in the second pass.
abbrev pub next_kind : RecordTypeOf → Run State ℕ
next_kind r = λ s. Goes (length s.kinds) (record s {
  types = entry_of s.world.structure (word_of r.kind) (b.Primitive (p.Predicate (length s.kinds))) ∷ s.types;
  kinds = s.kinds ++ record { name = r.kind.name; fields = integers r.fields; maker = r.operands } ∷ [];
})

abbrev pub defines_field : Place → ℕ → ℕ → FieldOf → Run State (Unit {0})
defines_field at k i x = defines_once at x.accessor (b.Primitive (p.Accessor k i)) >> defines_if at x.modifier (b.Primitive (p.Modifier k i))

-- the accessors and modifiers of fields, in order
abbrev pub defines_fields : Place → ℕ → ℕ → List FieldOf → Run State (Unit {0})
defines_fields at k i [] = pure tt
defines_fields at k i (x ∷ xs) = defines_field at k i x >> defines_fields at k (i + 1) xs

abbrev pub defines_procedures : Place → ℕ → RecordTypeOf → Run State (Unit {0})
defines_procedures at k r = defines_once at r.maker (b.Primitive (p.Maker k)) >> defines_if at r.predicate (b.Primitive (p.Predicate k))
    >> defines_fields at k 0 r.fields

abbrev pub new_kind : Place → RecordTypeOf → Run State ℕ
new_kind at r = defines_once at r.kind (b.Unbound r.kind.name) >> next_kind r >>= (λ k. defines_procedures at k r >> pure k)

-- ---- the first pass

-- the special form that a form is
abbrev pub special_of : Shape → Option Core
special_of (Special c) = Some c
special_of other = None

-- the special forms that are taken apart in the first pass
abbrev pub is_noted : Core → Bool
is_noted core.Define = true
is_noted core.DefineSyntax = true
is_noted core.DefineRecordType = true
is_noted core.Begin = true
is_noted other = false

-- more steps than there are forms within the limits
abbrev pub most_steps : ℕ
most_steps = 18446744073709551615

module _ (task : Task) (env : Env) where
  abbrev pub note_parts : List Noted → Syntax → List Syntax → PartsOf → Run State Passing
  note_parts noted g fs (d.Define x) = new_variable task g.place (name_of x) >>= (λ n. pure (passing (noted ++ Variable n g ∷ []) fs))
  note_parts noted g fs (d.DefineSyntax m) = new_macro task env g.place m >> pure (passing noted fs)
  note_parts noted g fs (d.RecordType r) = new_kind g.place r >>= (λ k. pure (passing (noted ++ Kind k g ∷ []) fs))
  note_parts noted g fs (d.Begin inner) = pure (passing noted (inner ++ fs))
  note_parts noted g fs other = pure (passing (noted ++ Expression g ∷ []) fs)

  abbrev pub note_special : List Noted → Syntax → List Syntax → Core → Bool → Run State Passing
  note_special noted g fs c true = parts_at task env c g >>= note_parts noted g fs
  note_special noted g fs c false = pure (passing (noted ++ Expression g ∷ []) fs)

  abbrev pub note : List Noted → Syntax → List Syntax → Option Core → Run State Passing
  note noted g fs (Some c) = note_special noted g fs c (is_noted c)
  note noted g fs None = pure (passing (noted ++ Expression g ∷ []) fs)

  -- one form: its own macro uses are transcribed, and then it is noted
  abbrev pub note_one : List Noted → Syntax → List Syntax → Run State Passing
  note_one noted f fs = settled task.limits env f >>= (λ g s. note noted g fs (special_of (shape s.world env g)) s)

  abbrev pub pass_on : (Passing → Run State (List Noted)) → List Noted → List Syntax → Run State (List Noted)
  pass_on again noted [] = pure noted
  pass_on again noted (f ∷ fs) = note_one noted f fs >>= again

  -- Each step notes a form or takes a `begin` apart. What is noted when the steps are used up is all that is noted.
  unfoldable pub first_pass : ℕ → Passing → Run State (List Noted)
  first_pass zero x = pure x.noted
  first_pass (suc steps) x = pass_on (first_pass steps) x.noted x.forms

-- ---- exports

abbrev pub is_value : Bool → Option Binding → Bool
is_value main (Some (b.Global g)) = true
is_value main (Some (b.Primitive q)) = not main
is_value main other = false

abbrev pub is_macro : Option Binding → Bool
is_macro (Some (b.Macro m)) = true
is_macro other = false

-- a structure defines what it exports: a name that is to be a macro as a macro, and any other as a value
abbrev pub is_exported : World → Bool → Export → Bool
is_exported w main x = if x.syntax then is_macro (defined w.own w.structure (x.name.0 ∷ [])) else is_value main (defined w.own w.structure (x.name.0 ∷ []))

abbrev pub is_numbered : Option ℕ → Export → Bool
is_numbered None x = false
is_numbered (Some n) x = n == x.name.0

module _ (task : Task) where
  -- `main` of the entry, which stands last, and which no primitive may be
  abbrev pub is_main : World → Export → Bool
  is_main w x = (suc w.structure == length task.order) && is_numbered (number_of task.names (codes "main")) x

  abbrev pub exports : List Export → Run State (Unit {0})
  exports [] = pure tt
  exports (x ∷ xs) = λ s. (if is_exported s.world (is_main s.world x) x then exports xs else stop ExportUndefined x.place) s
