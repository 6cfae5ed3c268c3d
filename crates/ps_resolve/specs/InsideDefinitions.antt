-- What is known of definitions whose heads were read, where a table lists the names of the data.
use Rattle.std.specs.Prelude.{◌≡◌, ℕ, ◌≤◌, List, [], ◌∷◌, ◌++◌, length, map, true, Option, Some}
use Rattle.std.specs.List.{list_all}
use Rattle.ps_base.specs.Names.{AreDistinct}
use Rattle.ps_base.specs.declared.faults.Place.{Place}
use Rattle.ps_base.specs.declared.names.Name.{Name}
use Rattle.ps_datum.specs.declared.datum.Datum.{Datum, out-Datum}
use Rattle.ps_plain.specs.declared.program.Procedure.{Procedure}
use Rattle.ps_plain.specs.Most.{most_parameters}
use Rattle.ps_plain.specs.Forms.{Scope, Part, part, Head, IsHead, main_head, is_name, all_some, body_of, head_by, first_symbol}
use Rattle.ps_plain.specs.Forms.{procedure_by, names_in, scope_in}
use Rattle.ps_resolve.specs.declared.definition.Definition.{Definition}

-- the words that data are
abbrev pub words_of : List (List ℕ) → List Datum → Option (List (List ℕ))
words_of names ds = all_some (map (λ (p : Part). p.word) (map (part names) ds))

-- what a body is as the procedure of a name, whose definition stands at a place
abbrev pub procedure_at : List (List ℕ) → Place → Option Name → Scope → List Datum → Option Procedure
procedure_at names p name s body = procedure_by p s (body_of s (map (part names) body)) name

-- the form is `(define (words ...) body ...)`, whatever its words are
pub record IsDefine (names : List (List ℕ)) (form : Datum) (words body : List Datum) : Type 0 where
  pub head : (part names form).head ≡ head_by (words_of names words)
  pub procedure : (s : Scope) → (part names form).procedure s ≡
      procedure_at names (out-Datum form).place (first_symbol (map (part names) words)) s body

-- the data are the different names of not too many parameters
pub record AreParameters (names : List (List ℕ)) (ds : List Datum) (parameters : List (List ℕ)) : Type 0 where
  pub words : words_of names ds ≡ Some parameters
  pub are_names : list_all is_name parameters ≡ true
  pub is_distinct : AreDistinct parameters
  pub few : length parameters ≤ most_parameters

-- the head of a definition
abbrev pub head_in : Definition → Head
head_in x = record { name = x.name.now; parameters = x.parameters }

abbrev pub heads_in : List Definition → List Head
heads_in xs = map head_in xs

-- the form is this definition
pub record IsDefinition (names : List (List ℕ)) (form : Datum) (x : Definition) : Type 0 where
  pub head : (part names form).head ≡ Some (head_in x)
  pub is_head : IsHead (head_in x)
  pub procedure : (s : Scope) → (part names form).procedure s ≡ procedure_at names x.place (Some x.number) s x.body.now

abbrev pub AreDefinitionsByRecursion : List (List ℕ) → List Datum → List Definition → Type 0
AreDefinitionsByRecursion names [] [] = Unit {0}
AreDefinitionsByRecursion names (d ∷ ds) (x ∷ xs) = IsDefinition names d x × AreDefinitionsByRecursion names ds xs
AreDefinitionsByRecursion names _ _ = ⊥

-- the forms are these definitions
pub record AreDefinitions (names : List (List ℕ)) (forms : List Datum) (xs : List Definition) : Type 0 where
  pub each : AreDefinitionsByRecursion names forms xs

-- the procedure of a definition, among definitions with these heads
abbrev pub procedure_among : List (List ℕ) → List Head → Definition → Option Procedure
procedure_among names heads x = procedure_at names x.place (Some x.number) (scope_in heads (head_in x)) x.body.now

-- the procedures of definitions, whose names are different
pub record AreProcedures (names : List (List ℕ)) (xs : List Definition) (qs : List Procedure) : Type 0 where
  pub is_distinct : AreDistinct (names_in (heads_in xs))
  pub procedures : all_some (map (procedure_among names (heads_in xs)) xs) ≡ Some qs

-- a definition of `main` stands between these forms
pub record IsAround (names : List (List ℕ)) (forms before : List Datum) (main : Datum) (after : List Datum) : Type 0 where
  pub form : forms ≡ before ++ main ∷ after
  pub is_main : (part names main).head ≡ Some main_head
