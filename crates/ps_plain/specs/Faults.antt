-- Where data are no program (this project's own): the first datum that has not the shape that is expected in its place, a list
-- before its parts; else the first name that breaks a condition, in order of the text; else the place where the text begins,
-- where there is no `main`.
use Rattle.std.specs.Prelude.{ℕ, suc, List, [], ◌∷◌, ◌++◌, length, map, Bool, true, false, ◌&&◌, if◌then◌else◌, nat_eq, nat_lt, Option}
use Rattle.std.specs.Prelude.{Some, None, is_some, codes, slice_get}
use Rattle.std.specs.List.{list_any}
use Rattle.std.specs.Str.{bytes_eq}
use Rattle.ps_base.specs.Names.{number_of}
use Rattle.ps_base.specs.Numbers.{is_word}
use Rattle.ps_base.specs.declared.faults.Place.{Place}
use Rattle.ps_datum.specs.declared.datum.Datum.{Datum, fold-Datum}
use Rattle.ps_datum.specs.declared.datum.DatumKind.TheOpen.{DatumKind-F}
use Rattle.ps_plain.specs.Most.{most_parameters}
use Rattle.ps_plain.specs.declared.program.Keyword.{Keyword}
use Rattle.ps_plain.specs.declared.program.Keyword.TheVariants as keywords
use Rattle.ps_plain.specs.Forms.{keyword_of, keyword_in, is_name, Scope, has_arity, Head, head_by, all_some, scope_in, heads_of}
use Rattle.ps_plain.specs.Meaning.{start_place}

-- the first of two faults
abbrev pub or_else : Option Place → Option Place → Option Place
or_else None other = other
or_else (Some p) other = Some p

abbrev pub first_of : List (Option Place) → Option Place
first_of [] = None
first_of (x ∷ xs) = or_else x (first_of xs)

-- What is wrong with a datum in each position: as the name of a parameter, as an expression, as the test of a conditional, as
-- a byte to write, as the head of a definition, and as a definition. First its shape, and then the names in it.
pub record Flaws : Type 0 where
  pub place : Place
  pub word : Option (List ℕ)
  pub words : Option (List (List ℕ))
  pub name_shape : Option Place
  pub expr_shape : Option Place
  pub test_shape : Option Place
  pub write_shape : Option Place
  pub head_shape : Option Place
  pub definition_shape : Option Place
  pub expr_names : Scope → Option Place
  pub test_names : Scope → Option Place
  pub write_names : Scope → Option Place
  -- where these names are defined before
  pub head_names : List (List ℕ) → Option Place
  -- where the definitions have these heads, and these names are defined before
  pub definition_names : List Head → List (List ℕ) → Option Place

-- ---- shapes: a list has its shape where its first part and its number of parts are those of the form

abbrev pub expr_shapes : List Flaws → Option Place
expr_shapes fs = first_of (map (λ (f : Flaws). f.expr_shape) fs)

-- with so many parts behind the first one, all of them expressions
abbrev pub operands_shape : Place → ℕ → List Flaws → Option Place
operands_shape p n fs = if nat_eq (length fs) n then expr_shapes fs else Some p

-- (if t c d)
abbrev pub conditional_shape : Place → List Flaws → Option Place
conditional_shape p (t ∷ c ∷ d ∷ []) = or_else t.test_shape (or_else c.expr_shape d.expr_shape)
conditional_shape p _ = Some p

abbrev pub form_shape : Place → Option Keyword → List Flaws → Option Place
form_shape p None fs = expr_shapes fs
form_shape p (Some (keywords.Arithmetic o)) fs = operands_shape p 2 fs
form_shape p (Some keywords.If) fs = conditional_shape p fs
form_shape p (Some keywords.ReadByte) fs = operands_shape p 0 fs
form_shape p (Some keywords.Define) fs = Some p
form_shape p (Some keywords.WriteByte) fs = Some p
form_shape p (Some (keywords.Compare c)) fs = Some p

abbrev pub headed_shape : Place → Option (List ℕ) → List Flaws → Option Place
headed_shape p None fs = Some p
headed_shape p (Some w) fs = form_shape p (keyword_of w) fs

-- a list as an expression
abbrev pub list_shape : Place → List Flaws → Option Place
list_shape p [] = Some p
list_shape p (f ∷ fs) = headed_shape p f.word fs

abbrev pub compared_shape : Place → Option Keyword → List Flaws → Option Place
compared_shape p (Some (keywords.Compare c)) fs = operands_shape p 2 fs
compared_shape p _ fs = Some p

-- (< a b) or (= a b)
abbrev pub test_list_shape : Place → List Flaws → Option Place
test_list_shape p [] = Some p
test_list_shape p (f ∷ fs) = compared_shape p (keyword_in f.word) fs

abbrev pub written_shape : Place → Option Keyword → List Flaws → Option Place
written_shape p (Some keywords.WriteByte) fs = operands_shape p 1 fs
written_shape p _ fs = Some p

-- (write-byte e)
abbrev pub write_list_shape : Place → List Flaws → Option Place
write_list_shape p [] = Some p
write_list_shape p (f ∷ fs) = written_shape p (keyword_in f.word) fs

-- (f x ...)
abbrev pub head_list_shape : Place → List Flaws → Option Place
head_list_shape p [] = Some p
head_list_shape p (f ∷ fs) = if is_some f.name_shape then Some p else first_of (map (λ (f : Flaws). f.name_shape) fs)

-- the writes, and then the value
abbrev pub body_shape : List Flaws → Option Place
body_shape [] = None
body_shape (f ∷ []) = f.expr_shape
body_shape (f ∷ g ∷ fs) = or_else f.write_shape (body_shape (g ∷ fs))

abbrev pub defined_shape : Place → Option Keyword → Flaws → List Flaws → Option Place
defined_shape p (Some keywords.Define) h body = or_else h.head_shape (body_shape body)
defined_shape p _ h body = Some p

-- (define (f x ...) ...)
abbrev pub definition_list_shape : Place → List Flaws → Option Place
definition_list_shape p (f ∷ h ∷ b ∷ body) = defined_shape p (keyword_in f.word) h (b ∷ body)
definition_list_shape p _ = Some p

-- ---- names

abbrev pub exprs_names : Scope → List Flaws → Option Place
exprs_names s fs = first_of (map (λ (f : Flaws). f.expr_names s) fs)

-- a variable is a parameter
abbrev pub variable_names : Scope → Place → List ℕ → Option Place
variable_names s p w = if is_some (number_of s.parameters w) then None else Some p

-- a called name has a definition, which has as many parameters as there are operands
abbrev pub called_names : Scope → Place → Place → Option ℕ → List Flaws → Option Place
called_names s p at None fs = Some at
called_names s p at (Some f) fs = if has_arity (length fs) (slice_get s.arities f) then exprs_names s fs else Some p

-- and is no parameter
abbrev pub call_names : Scope → Place → Place → List ℕ → List Flaws → Option Place
call_names s p at w fs = if is_some (number_of s.parameters w) then Some at else called_names s p at (number_of s.procedures w) fs

abbrev pub conditional_names : Scope → List Flaws → Option Place
conditional_names s (t ∷ c ∷ d ∷ []) = or_else (t.test_names s) (or_else (c.expr_names s) (d.expr_names s))
conditional_names s _ = None

abbrev pub form_names : Scope → Place → Place → List ℕ → Option Keyword → List Flaws → Option Place
form_names s p at w None fs = call_names s p at w fs
form_names s p at w (Some (keywords.Arithmetic o)) fs = exprs_names s fs
form_names s p at w (Some keywords.If) fs = conditional_names s fs
form_names s p at w (Some keywords.ReadByte) fs = None
form_names s p at w (Some keywords.Define) fs = None
form_names s p at w (Some keywords.WriteByte) fs = None
form_names s p at w (Some (keywords.Compare c)) fs = None

abbrev pub headed_names : Scope → Place → Place → Option (List ℕ) → List Flaws → Option Place
headed_names s p at None fs = None
headed_names s p at (Some w) fs = form_names s p at w (keyword_of w) fs

-- a list as an expression, whose first part stands at a place of its own
abbrev pub list_names : Scope → Place → List Flaws → Option Place
list_names s p [] = None
list_names s p (f ∷ fs) = headed_names s p f.place f.word fs

-- a test, or a byte to write: the expressions behind the first part
abbrev pub behind_names : Scope → List Flaws → Option Place
behind_names s [] = None
behind_names s (f ∷ fs) = exprs_names s fs

-- a name stands among these
abbrev pub is_among : List (List ℕ) → Option (List ℕ) → Bool
is_among names None = false
is_among names (Some w) = is_some (number_of names w)

abbrev pub with_word : List (List ℕ) → Option (List ℕ) → List (List ℕ)
with_word names None = names
with_word names (Some w) = names ++ w ∷ []

-- the parameters have different names, and are not too many; so many stand before, with these names
abbrev pub parameters_names : ℕ → List (List ℕ) → List Flaws → Option Place
parameters_names n before [] = None
parameters_names n before (f ∷ fs) =
    if is_among before f.word then Some f.place
    else (if nat_lt n most_parameters then parameters_names (suc n) (with_word before f.word) fs else Some f.place)

-- a head defines a new name
abbrev pub head_list_names : List (List ℕ) → List Flaws → Option Place
head_list_names defined [] = None
head_list_names defined (f ∷ fs) = if is_among defined f.word then Some f.place else parameters_names 0 [] fs

abbrev pub body_names : Scope → List Flaws → Option Place
body_names s [] = None
body_names s (f ∷ []) = f.expr_names s
body_names s (f ∷ g ∷ fs) = or_else (f.write_names s) (body_names s (g ∷ fs))

abbrev pub body_in : List Head → Option Head → List Flaws → Option Place
body_in heads None body = None
body_in heads (Some h) body = body_names (scope_in heads h) body

abbrev pub definition_list_names : List Head → List (List ℕ) → List Flaws → Option Place
definition_list_names heads defined (f ∷ h ∷ body) = or_else (h.head_names defined) (body_in heads (head_by h.words) body)
definition_list_names heads defined _ = None

-- ---- data

-- what has no shape in any position
abbrev pub shapeless : Place → Flaws
shapeless p = record {
  place = p;
  word = None;
  words = None;
  name_shape = Some p;
  expr_shape = Some p;
  test_shape = Some p;
  write_shape = Some p;
  head_shape = Some p;
  definition_shape = Some p;
  expr_names = λ s. None;
  test_names = λ s. None;
  write_names = λ s. None;
  head_names = λ defined. None;
  definition_names = λ heads defined. None;
}

-- a name is a name or a variable
abbrev pub name_flaws : Place → List ℕ → Bool → Flaws
name_flaws p w true = record (shapeless p) { word = Some w; name_shape = None; expr_shape = None; expr_names = λ s. variable_names s p w }
name_flaws p w false = record (shapeless p) { word = Some w }

abbrev pub word_flaws : Place → Option (List ℕ) → Flaws
word_flaws p None = shapeless p
word_flaws p (Some w) = name_flaws p w (is_name w)

abbrev pub list_flaws : Place → List Flaws → Flaws
list_flaws p fs = record {
  place = p;
  word = None;
  words = all_some (map (λ (f : Flaws). f.word) fs);
  name_shape = Some p;
  expr_shape = list_shape p fs;
  test_shape = test_list_shape p fs;
  write_shape = write_list_shape p fs;
  head_shape = head_list_shape p fs;
  definition_shape = definition_list_shape p fs;
  expr_names = λ s. list_names s p fs;
  test_names = λ s. behind_names s fs;
  write_names = λ s. behind_names s fs;
  head_names = λ defined. head_list_names defined fs;
  definition_names = λ heads defined. definition_list_names heads defined fs;
}

-- an integer is an expression where it has 64 bits
abbrev pub flaws_node : List (List ℕ) → DatumKind-F (Place → Flaws) Flaws → Place → Flaws
flaws_node names (DatumKind-F.Boolean b) p = shapeless p
flaws_node names (DatumKind-F.Integer i) p = record (shapeless p) { expr_shape = if is_word i then None else Some p }
flaws_node names (DatumKind-F.Char c) p = shapeless p
flaws_node names (DatumKind-F.Text bytes) p = shapeless p
flaws_node names (DatumKind-F.Symbol n) p = word_flaws p (slice_get names n.0)
flaws_node names (DatumKind-F.List fs) p = list_flaws p fs
flaws_node names (DatumKind-F.Dotted fs f) p = shapeless p
flaws_node names (DatumKind-F.Vector fs) p = shapeless p

abbrev pub flaws : List (List ℕ) → Datum → Flaws
flaws names = fold-Datum (Place → Flaws) Flaws (flaws_node names) (λ d. d.kind d.place)

-- ---- programs

abbrev pub shapes_fault : List (List ℕ) → List Datum → Option Place
shapes_fault names ds = first_of (map (λ d. (flaws names d).definition_shape) ds)

-- the definitions that are left, where the heads of all and the names defined before are these
abbrev pub names_from : List (List ℕ) → List Head → List (List ℕ) → List Head → List Datum → Option Place
names_from names heads defined (h ∷ hs) (d ∷ ds) =
    or_else ((flaws names d).definition_names heads defined) (names_from names heads (defined ++ h.name ∷ []) hs ds)
names_from names heads defined _ _ = None

abbrev pub names_fault : List (List ℕ) → Option (List Head) → List Datum → Option Place
names_fault names None ds = None
names_fault names (Some heads) ds = names_from names heads [] heads ds

abbrev pub no_parameters : List (List ℕ) → Bool
no_parameters [] = true
no_parameters (x ∷ xs) = false

abbrev pub is_main : Head → Bool
is_main h = bytes_eq h.name (codes "main") && no_parameters h.parameters

-- there is a main without parameters
abbrev pub main_fault : Option (List Head) → Option Place
main_fault None = None
main_fault (Some heads) = if list_any is_main heads then None else Some start_place

abbrev pub text_fault : List Datum → Option Place
text_fault [] = Some start_place
text_fault (d ∷ ds) = None

-- where the definitions are no program, if they are none
abbrev pub fault_of : List (List ℕ) → List Datum → Option Place
fault_of names ds =
    or_else (text_fault ds)
    (or_else (shapes_fault names ds) (or_else (names_fault names (heads_of names ds) ds) (main_fault (heads_of names ds))))
