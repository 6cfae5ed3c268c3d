-- Small forms of each row, and what they are taken apart into, as examples of the definitions. An identifier is written as the number of
-- its base name; 1 counts as `else` and 2 as `=>`.
use Rattle.std.specs.Prelude.{◌≡◌, ℕ, pos, Bool, false, ◌==◌, List, [], ◌∷◌, Option, Some, None}
use Rattle.ps_base.specs.declared.faults.Place.{Place}
use Rattle.ps_base.specs.declared.language.Core.{Core}
use Rattle.ps_base.specs.declared.language.Core.TheVariants as c
use Rattle.ps_pattern.specs.declared.syntax.Ident.{Ident}
use Rattle.ps_pattern.specs.declared.syntax.Syntax.{Syntax}
use Rattle.ps_pattern.specs.declared.syntax.SyntaxNode.{SyntaxNode}
use Rattle.ps_pattern.specs.declared.syntax.SyntaxNode.TheVariants as n
use Rattle.ps_derived.specs.declared.types.Label.TheVariants as l
use Rattle.ps_derived.specs.declared.types.TypeForm.TheVariants as t
use Rattle.ps_derived.specs.declared.types.TypeWords.{TypeWords}
use Rattle.ps_derived.specs.FieldTypes.{type_of}
use Rattle.ps_derived.specs.PartsOf.{PartsOf, BindingOf, LoopBindingOf, MacroOf, FieldOf}
use Rattle.ps_derived.specs.PartsOf as p
use Rattle.ps_derived.specs.Parts.{parts_of}
use Rattle.ps_derived.specs.Quotation.{QuotedOf, quoted}
use Rattle.ps_derived.specs.Quotation as q

abbrev pub here : Place
here = record { file = 0; line = 1; column = 1 }

abbrev pub form : SyntaxNode → Syntax
form x = record { place = here; node = x }

abbrev pub list : List Syntax → Syntax
list fs = form (n.List fs)

abbrev pub name : ℕ → Ident
name k = record { name = record { 0 = k }; stamps = [] }

-- an identifier as the first transcription inserted it
abbrev pub inserted : ℕ → Ident
inserted k = record { name = record { 0 = k }; stamps = 1 ∷ [] }

abbrev pub id : ℕ → Syntax
id k = form (n.Ident (name k))

abbrev pub other : ℕ → Syntax
other k = form (n.Ident (inserted k))

abbrev pub integer : ℕ → Syntax
integer k = form (n.Integer (pos k))

abbrev pub is_else : Ident → Bool
is_else x = x.name.0 == 1

abbrev pub is_arrow : Ident → Bool
is_arrow x = x.name.0 == 2

-- the parts of a form with these forms behind its name
abbrev pub taken : Core → List Syntax → Option PartsOf
taken core fs = parts_of is_else is_arrow core (list (id 0 ∷ fs))

-- the same where neither `else` nor `=>` counts
abbrev pub taken_bound : Core → List Syntax → Option PartsOf
taken_bound core fs = parts_of (λ x. false) (λ x. false) core (list (id 0 ∷ fs))

abbrev pub one : List Syntax
one = id 9 ∷ []

abbrev pub pair : ℕ → ℕ → Syntax
pair x e = list (id x ∷ id e ∷ [])

abbrev pub bound : ℕ → ℕ → BindingOf
bound x e = record { name = name x; value = id e }

abbrev pub rules : ℕ → ℕ → MacroOf
rules k r = record { keyword = name k; rules = id r }

-- `define`: a parameter may stand twice, and a body has a form
pub record Definitions : Type 0 where
  pub variable : taken c.Define (id 3 ∷ id 4 ∷ []) ≡ Some (p.Define (p.Variable (name 3) (id 4)))
  pub procedure : taken c.Define (list (id 3 ∷ id 4 ∷ id 4 ∷ []) ∷ one) ≡ Some (p.Define (p.Procedure (name 3) (name 4 ∷ name 4 ∷ []) one))
  pub without_value : taken c.Define (id 3 ∷ []) ≡ None
  pub two_values : taken c.Define (id 3 ∷ id 4 ∷ id 5 ∷ []) ≡ None
  pub without_body : taken c.Define (list (id 3 ∷ []) ∷ []) ≡ None
  pub nameless : taken c.Define (list [] ∷ one) ≡ None
  pub no_parameter : taken c.Define (list (id 3 ∷ integer 4 ∷ []) ∷ one) ≡ None
  pub syntax : taken c.DefineSyntax (id 3 ∷ id 4 ∷ []) ≡ Some (p.DefineSyntax (rules 3 4))
  pub without_rules : taken c.DefineSyntax (id 3 ∷ []) ≡ None

-- `lambda`: no parameter stands twice, where identifiers of one name with other stamps are different
pub record Lambdas : Type 0 where
  pub none : taken c.Lambda (list [] ∷ one) ≡ Some (p.Lambda [] one)
  pub two : taken c.Lambda (list (id 3 ∷ id 4 ∷ []) ∷ one) ≡ Some (p.Lambda (name 3 ∷ name 4 ∷ []) one)
  pub twice : taken c.Lambda (list (id 3 ∷ id 4 ∷ id 3 ∷ []) ∷ one) ≡ None
  pub stamped : taken c.Lambda (list (id 3 ∷ other 3 ∷ []) ∷ one) ≡ Some (p.Lambda (name 3 ∷ inserted 3 ∷ []) one)
  pub no_list : taken c.Lambda (id 3 ∷ one) ≡ None
  pub without_body : taken c.Lambda (list [] ∷ []) ≡ None

pub record Choices : Type 0 where
  pub two : taken c.If (id 3 ∷ id 4 ∷ []) ≡ Some (p.If (id 3) (id 4) None)
  pub three : taken c.If (id 3 ∷ id 4 ∷ id 5 ∷ []) ≡ Some (p.If (id 3) (id 4) (Some (id 5)))
  pub test_alone : taken c.If (id 3 ∷ []) ≡ None
  pub four : taken c.If (id 3 ∷ id 4 ∷ id 5 ∷ id 6 ∷ []) ≡ None
  pub no_list : parts_of is_else is_arrow c.If (integer 7) ≡ None

-- bindings: no name stands twice in one list, also in `let*`
pub record Bindings : Type 0 where
  pub plain : taken c.Let (list (pair 3 4 ∷ []) ∷ one) ≡ Some (p.Let (bound 3 4 ∷ []) one)
  pub named : taken c.Let (id 5 ∷ list (pair 3 4 ∷ []) ∷ one) ≡ Some (p.NamedLet (name 5) (bound 3 4 ∷ []) one)
  pub sequence : taken c.LetStar (list (pair 3 4 ∷ pair 4 3 ∷ []) ∷ one) ≡ Some (p.LetStar (bound 3 4 ∷ bound 4 3 ∷ []) one)
  pub group : taken c.Letrec (list [] ∷ one) ≡ Some (p.Letrec [] one)
  pub let_twice : taken c.Let (list (pair 3 4 ∷ pair 3 5 ∷ []) ∷ one) ≡ None
  pub sequence_twice : taken c.LetStar (list (pair 3 4 ∷ pair 3 5 ∷ []) ∷ one) ≡ None
  pub group_twice : taken c.Letrec (list (pair 3 4 ∷ pair 3 5 ∷ []) ∷ one) ≡ None
  pub without_value : taken c.Let (list (list (id 3 ∷ []) ∷ []) ∷ one) ≡ None
  pub no_name : taken c.Let (list (list (integer 3 ∷ id 4 ∷ []) ∷ []) ∷ one) ≡ None
  pub without_body : taken c.Let (list (pair 3 4 ∷ []) ∷ []) ≡ None
  pub macros : taken c.LetSyntax (list (pair 3 4 ∷ []) ∷ one) ≡ Some (p.LetSyntax (rules 3 4 ∷ []) one)
  pub group_of_macros : taken c.LetrecSyntax (list (pair 3 4 ∷ []) ∷ one) ≡ Some (p.LetrecSyntax (rules 3 4 ∷ []) one)
  pub macros_twice : taken c.LetSyntax (list (pair 3 4 ∷ pair 3 5 ∷ []) ∷ one) ≡ None

pub record Sequences : Type 0 where
  pub begin : taken c.Begin one ≡ Some (p.Begin one)
  pub begin_nothing : taken c.Begin [] ≡ None
  pub set : taken c.Set (id 3 ∷ id 4 ∷ []) ≡ Some (p.Set (name 3) (id 4))
  pub set_no_name : taken c.Set (integer 3 ∷ id 4 ∷ []) ≡ None
  pub quote : taken c.Quote (id 3 ∷ []) ≡ Some (p.Quote (id 3))
  pub quote_two : taken c.Quote (id 3 ∷ id 4 ∷ []) ≡ None
  pub and : taken c.And [] ≡ Some (p.And [])
  pub or : taken c.Or one ≡ Some (p.Or one)
  pub goto : taken c.Goto (id 3 ∷ id 4 ∷ []) ≡ Some (p.Goto (id 3) (id 4 ∷ []))
  pub goto_nothing : taken c.Goto [] ≡ None

-- `cond`: an `else` clause stands last, and has an expression; where `=>` counts, one form stands behind it, and nothing else
pub record Clauses : Type 0 where
  pub nothing : taken c.Cond [] ≡ Some (p.Cond [] None)
  pub alone : taken c.Cond (list (id 3 ∷ []) ∷ []) ≡ Some (p.Cond (p.Alone (id 3) ∷ []) None)
  pub arrow : taken c.Cond (list (id 3 ∷ id 2 ∷ id 4 ∷ []) ∷ []) ≡ Some (p.Cond (p.Arrow (id 3) (id 4) ∷ []) None)
  pub otherwise : taken c.Cond (pair 3 4 ∷ pair 1 5 ∷ []) ≡ Some (p.Cond (p.Then (id 3) (id 4 ∷ []) ∷ []) (Some (id 5 ∷ [])))
  pub otherwise_arrow : taken c.Cond (list (id 1 ∷ id 2 ∷ id 4 ∷ []) ∷ []) ≡ Some (p.Cond [] (Some (id 2 ∷ id 4 ∷ [])))
  pub arrow_nothing : taken c.Cond (list (id 3 ∷ id 2 ∷ []) ∷ []) ≡ None
  pub arrow_two : taken c.Cond (list (id 3 ∷ id 2 ∷ id 4 ∷ id 5 ∷ []) ∷ []) ≡ None
  pub empty : taken c.Cond (list [] ∷ []) ≡ None
  pub otherwise_nothing : taken c.Cond (list (id 1 ∷ []) ∷ []) ≡ None
  pub otherwise_first : taken c.Cond (pair 1 5 ∷ pair 3 4 ∷ []) ≡ None
  pub bound_otherwise : taken_bound c.Cond (pair 1 5 ∷ pair 3 4 ∷ []) ≡ Some (p.Cond (p.Then (id 1) (id 5 ∷ []) ∷ p.Then (id 3) (id 4 ∷ []) ∷ []) None)
  pub bound_arrow : taken_bound c.Cond (list (id 3 ∷ id 2 ∷ []) ∷ []) ≡ Some (p.Cond (p.Then (id 3) (id 2 ∷ []) ∷ []) None)

-- `case`: its data are integers, characters and booleans, and each clause has an expression
pub record Cases : Type 0 where
  pub integers : taken c.Case (id 3 ∷ list (list (integer 7 ∷ integer 7 ∷ []) ∷ one) ∷ []) ≡ Some (p.Case (id 3) (record { labels = l.Integer (pos 7) ∷ l.Integer (pos 7) ∷ []; body = one } ∷ []) None)
  pub otherwise : taken c.Case (id 3 ∷ pair 1 4 ∷ []) ≡ Some (p.Case (id 3) [] (Some (id 4 ∷ [])))
  pub no_datum : taken c.Case (id 3 ∷ list (list [] ∷ one) ∷ []) ≡ Some (p.Case (id 3) (record { labels = []; body = one } ∷ []) None)
  pub names : taken c.Case (id 3 ∷ list (list (id 4 ∷ []) ∷ one) ∷ []) ≡ None
  pub without_expression : taken c.Case (id 3 ∷ list (list (integer 7 ∷ []) ∷ []) ∷ []) ≡ None
  pub otherwise_first : taken c.Case (id 3 ∷ pair 1 4 ∷ list (list (integer 7 ∷ []) ∷ one) ∷ []) ≡ None
  pub bound_otherwise : taken_bound c.Case (id 3 ∷ pair 1 4 ∷ []) ≡ None
  pub without_key : taken c.Case [] ≡ None

abbrev pub loop : ℕ → ℕ → Option Syntax → LoopBindingOf
loop x i s = record { name = name x; first = id i; step = s }

pub record Loops : Type 0 where
  pub with_step : taken c.Do (list (list (id 3 ∷ id 4 ∷ id 5 ∷ []) ∷ []) ∷ pair 6 7 ∷ one) ≡ Some (p.Do (loop 3 4 (Some (id 5)) ∷ []) (id 6) (id 7 ∷ []) one)
  pub without_step : taken c.Do (list (pair 3 4 ∷ []) ∷ list (id 6 ∷ []) ∷ []) ≡ Some (p.Do (loop 3 4 None ∷ []) (id 6) [] [])
  pub twice : taken c.Do (list (pair 3 4 ∷ pair 3 5 ∷ []) ∷ list (id 6 ∷ []) ∷ []) ≡ None
  pub without_test : taken c.Do (list [] ∷ list [] ∷ []) ≡ None
  pub without_end : taken c.Do (list [] ∷ []) ≡ None

-- (x t a) or (x t a m)
abbrev pub field : ℕ → Option Ident → FieldOf
field x m = record { name = name x; kind = id 8; accessor = name 9; modifier = m }

abbrev pub read_only : ℕ → Syntax
read_only x = list (id x ∷ id 8 ∷ id 9 ∷ [])

abbrev pub open_field : ℕ → Syntax
open_field x = list (id x ∷ id 8 ∷ id 9 ∷ id 10 ∷ [])

-- the parts of a record type with this maker
abbrev pub taken_record : List Syntax → List Syntax → Option PartsOf
taken_record maker rest = taken c.DefineRecordType (id 3 ∷ id 4 ∷ list maker ∷ rest)

abbrev pub record_with : List ℕ → Option Ident → List FieldOf → PartsOf
record_with operands pred fields = p.RecordType (record { name = name 3; kind = name 4; maker = name 5; operands = operands; predicate = pred; fields = fields })

-- record types: the maker names each of the fields once, of which there is one at least
pub record RecordTypes : Type 0 where
  pub with_predicate : taken_record (id 5 ∷ id 7 ∷ id 6 ∷ []) (id 11 ∷ read_only 6 ∷ open_field 7 ∷ []) ≡ Some (record_with (1 ∷ 0 ∷ []) (Some (name 11)) (field 6 None ∷ field 7 (Some (name 10)) ∷ []))
  pub without_predicate : taken_record (id 5 ∷ id 6 ∷ []) (read_only 6 ∷ []) ≡ Some (record_with (0 ∷ []) None (field 6 None ∷ []))
  pub without_field : taken_record (id 5 ∷ []) (id 11 ∷ []) ≡ None
  pub field_twice : taken_record (id 5 ∷ id 6 ∷ id 6 ∷ []) (read_only 6 ∷ read_only 6 ∷ []) ≡ None
  pub operand_twice : taken_record (id 5 ∷ id 6 ∷ id 6 ∷ []) (read_only 6 ∷ read_only 7 ∷ []) ≡ None
  pub operand_missing : taken_record (id 5 ∷ id 6 ∷ []) (read_only 6 ∷ read_only 7 ∷ []) ≡ None
  pub no_field : taken_record (id 5 ∷ id 8 ∷ []) (read_only 6 ∷ []) ≡ None

abbrev pub vector : List Syntax → Syntax
vector fs = form (n.Vector fs)

-- quoted data: no vector is empty, and none holds an identifier or a list
pub record Quotations : Type 0 where
  pub an_integer : quoted (integer 7) ≡ Some (q.Integer (pos 7))
  pub a_string : quoted (form (n.Text (97 ∷ []))) ≡ Some (q.Block (form (n.Text (97 ∷ []))))
  pub a_vector : quoted (vector (vector (integer 7 ∷ []) ∷ integer 8 ∷ [])) ≡ Some (q.Block (vector (vector (integer 7 ∷ []) ∷ integer 8 ∷ [])))
  pub a_name : quoted (id 3) ≡ None
  pub a_list : quoted (list []) ≡ None
  pub nothing : quoted (vector []) ≡ None
  pub empty_inside : quoted (vector (integer 7 ∷ vector [] ∷ [])) ≡ None
  pub name_inside : quoted (vector (integer 7 ∷ id 3 ∷ [])) ≡ None

-- names of types as the numbers 20 to 26
abbrev pub words : TypeWords
words = record { integer = Some 20; boolean = Some 21; character = Some 22; unit = Some 23; address = Some 24; text = Some 25; vector = Some 26 }

pub record FieldTypes : Type 0 where
  pub named : type_of words (id 22) ≡ Some t.Char
  pub stamped : type_of words (other 25) ≡ Some t.Text
  pub of_record : type_of words (id 3) ≡ Some (t.Record (name 3))
  pub nested : type_of words (list (id 26 ∷ pair 26 20 ∷ [])) ≡ Some (t.Vector (t.Vector t.Integer))
  pub of_vectors : type_of words (id 26) ≡ Some (t.Record (name 26))
  pub two : type_of words (list (id 26 ∷ id 20 ∷ id 21 ∷ [])) ≡ None
  pub other_word : type_of words (pair 20 21) ≡ None
  pub no_name : type_of words (integer 7) ≡ None

pub record WorkedForms : Type 0 where
  pub definitions : Definitions
  pub lambdas : Lambdas
  pub choices : Choices
  pub bindings : Bindings
  pub sequences : Sequences
  pub clauses : Clauses
  pub cases : Cases
  pub loops : Loops
  pub record_types : RecordTypes
  pub quotations : Quotations
  pub field_types : FieldTypes
