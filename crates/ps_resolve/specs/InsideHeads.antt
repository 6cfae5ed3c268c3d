-- What is known of the heads of definitions that have their shape, and of the table of the procedures that they define.
use Rattle.std.specs.Prelude.{◌≡◌, ℕ, List, [], ◌∷◌, ◌++◌, length, map, Bool, false, not, if◌then◌else◌, Option, Some, None, is_some}
use Rattle.std.specs.Prelude.{slice_get}
use Rattle.std.specs.Option.{option_map}
use Rattle.ps_base.specs.Names.{number_of}
use Rattle.ps_base.specs.declared.faults.Place.{Place}
use Rattle.ps_datum.specs.declared.datum.Datum.{Datum}
use Rattle.ps_plain.specs.Forms.{Head, part, main_head, head_by, all_some, heads_of, names_in, arities_in, scope_in}
use Rattle.ps_plain.specs.Faults.{Flaws, flaws, or_else, is_among, with_word, parameters_names, body_in, body_names}
use Rattle.ps_resolve.specs.declared.faults.DefinitionParts.{DefinitionParts}
use Rattle.ps_resolve.specs.declared.faults.Procedures.{Procedures}

abbrev pub head_or : Option Head → Head
head_or None = main_head
head_or (Some h) = h

-- the head of a form that is a definition
abbrev pub head_at : List (List ℕ) → Datum → Head
head_at names d = head_or (part names d).head

-- the form is a definition with this head and body, and the head has its shape
pub record IsDefine (names : List (List ℕ)) (form head : Datum) (body : List Datum) : Type 0 where
  pub shape : (flaws names head).head_shape ≡ None
  pub reads : (part names form).head ≡ head_by (flaws names head).words
  pub fault_is : (heads : List Head) (defined : List (List ℕ)) → (flaws names form).definition_names heads defined ≡
      or_else ((flaws names head).head_names defined) (body_in heads (head_by (flaws names head).words) (map (flaws names) body))

-- the texts of data, where all have one
abbrev pub words_of : List (List ℕ) → List Datum → Option (List (List ℕ))
words_of names ds = all_some (map (λ (f : Flaws). f.word) (map (flaws names) ds))

-- what is wrong with the names of a head: its name, and its parameters
abbrev pub head_fault : List (List ℕ) → List (List ℕ) → DefinitionParts → Option Place
head_fault names defined x =
    if is_some (number_of defined x.name.now) then Some x.place else parameters_names 0 [] (map (flaws names) x.parameters.now)

-- these are the parts of the definition that a form is
pub record HasParts (names : List (List ℕ)) (form : Datum) (x : DefinitionParts) : Type 0 where
  pub reads : (part names form).head ≡ Some (head_at names form)
  pub name : (head_at names form).name ≡ x.name.now
  pub parameters : words_of names x.parameters.now ≡ Some (head_at names form).parameters
  pub fault_is : (heads : List Head) (defined : List (List ℕ)) → (flaws names form).definition_names heads defined ≡
      or_else (head_fault names defined x) (body_names (scope_in heads (head_at names form)) (map (flaws names) x.body.now))

-- a definition with this head has these parts
pub record IsHeadOf (names : List (List ℕ)) (h : Head) (x : DefinitionParts) : Type 0 where
  pub name : h.name ≡ x.name.now
  pub parameters : words_of names x.parameters.now ≡ Some h.parameters

-- the number of parameters by which a name is called, where it is among these
abbrev pub arity_at : List (List ℕ) → List ℕ → List ℕ → Option (Option ℕ)
arity_at procedures arities w = option_map (slice_get arities) (number_of procedures w)

-- the forms are definitions with their heads
pub record HaveHeads (names : List (List ℕ)) (forms : List Datum) : Type 0 where
  pub are : heads_of names forms ≡ Some (map (head_at names) forms)

-- the table tells of each name what the definitions with these heads tell of it
pub record Knows (heads : List Head) (t : Procedures) : Type 0 where
  pub same : (w : List ℕ) → arity_at t.names t.arities w ≡ arity_at (names_in heads) (arities_in heads) w
  pub long : length t.names ≡ length t.arities

-- the names in forms that are definitions, behind those that define these names, among definitions with these heads
abbrev pub names_walk : List (List ℕ) → List Head → List (List ℕ) → List Datum → Option Place
names_walk names heads defined [] = None
names_walk names heads defined (d ∷ ds) =
    or_else ((flaws names d).definition_names heads defined) (names_walk names heads (defined ++ (head_at names d).name ∷ []) ds)

-- a name that was not there is added
pub record IsAdded (old new : List (List ℕ)) (w : List ℕ) (added : Bool) : Type 0 where
  pub is_new : added ≡ not (is_some (number_of old w))
  pub grown : new ≡ (if added then old ++ w ∷ [] else old)

-- a name was there, or was added
pub record IsKnown (old new : List (List ℕ)) (w : Option (List ℕ)) (there : Bool) : Type 0 where
  pub is_there : there ≡ is_among old w
  pub grown : there ≡ false → new ≡ with_word old w
